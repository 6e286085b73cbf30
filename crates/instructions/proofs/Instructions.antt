-- [16] PI. In order: `xml` in any case; what follows the target; the instruction. Each law of the last two is one way
-- through the code: what the code answers there is what the reader leaves.
use mathlib.Core.Path.{◌≡◌, refl, sym, ◌∙◌}
use mathlib.Core.Bool.{Bool, true, false, cond, not, ◌&&◌, and_assoc}
use mathlib.Core.List.{List, [], ◌∷◌}
use mathlib.Core.Option.{none, some}
use Prim.Native.Nat.{ℕ, ◌+◌, ◌-◌, ◌≤◌, ◌<◌}
use native.Mathlib.Omega.{arith}
use borrow.Author.Tests.{not-true, not-false}
use lib.ListN.{length, get_or, take, drop, length-drop}
use lib.Seq.{length-take-le}
use Rattle.xml.specs.Notation.{bytes, among}
use Rattle.xml.specs.Character.{begins, starts}
use Rattle.xml.specs.Productions.{is_space}
use Rattle.xml.proofs.Run.{starts_nil}
use Rattle.utf8.specs.Place.{ends_at}
use Rattle.utf8.proofs.Place.{drop_step, drop_end}
use Rattle.chars.specs.Name.{name_of, name_at, reading_at}
use Rattle.std.specs.Prelude.{Option, Some, None}
use Rattle.chars.proofs.Runs.{starts_byte}
use Rattle.chars.proofs.Spaces.{space_ascii}
use Rattle.readers.specs.Read.{and_then, expect, seek}
use Rattle.readers.specs.Named.{before, is_xml, target_of, instruction_end, instruction_of}
use Rattle.readers.specs.Answer.{Answers, ends, faults}
use Rattle.readers.proofs.Answers.{answers_reading, ends_some, ends_inside, ends_ahead, then_fault, then_ends, or_ends, or_fault}
use Rattle.readers.proofs.Answers.{on_from, text_inside, text_yes, text_no}
use Rattle.scans.proofs.Seeks.{sought_ahead}
use Rattle.instructions.proofs.Callees.{name_answers, seek_stands}

-- ---- `xml` in any case

not_three : (w : List ℕ) → (length w ≡ 3 → ⊥) → is_xml w ≡ false
not_three [] n = refl
not_three (x ∷ []) n = refl
not_three (x ∷ m ∷ []) n = refl
not_three (x ∷ m ∷ l ∷ []) n = absurd (n refl)
not_three (x ∷ m ∷ l ∷ b ∷ w) n = refl

module _ (d : List ℕ) (from to : ℕ) (l : from ≤ to) (h : to ≤ length d) where
  pub xml_other : (to - from ≡ 3 → ⊥) → false ≡ is_xml (take (to - from) (drop from d))
  xml_other n =
      let z = length-take-le (to - from) (drop from d) (omega (arith, length-drop from d)) in
      sym (not_three (take (to - from) (drop from d)) (λ e. n (sym z ∙ e)))

  pub xml_bytes : to - from ≡ 3 → {x m k : Bool} → x ≡ among (bytes "Xx") (get_or d from 0) → m ≡ among (bytes "Mm") (get_or d (from + 1) 0)
      → k ≡ among (bytes "Ll") (get_or d (from + 2) 0) → (x && m) && k ≡ is_xml (take (to - from) (drop from d))
  xml_bytes n {x} {m} {k} p q r =
      let y : from + 1 + 1 ≡ from + 2 = omega arith in
      and_assoc x m k
      ∙ rw (n, drop_step d from (omega arith), drop_step d (from + 1) (omega arith), y, drop_step d (from + 2) (omega arith), p, q, r)

pub ruleset xmling = (xml_other, xml_bytes)

-- ---- after the target

module _ (d : List ℕ) (at : ℕ) {x : Bool} (e : x ≡ begins (bytes "?>") (drop at d)) where
  pub end_here : x ≡ true → Answers d at (Some (at + 2)) (instruction_end (drop at d))
  unfolding instruction_end
  end_here t = or_ends (text_yes d at (bytes "?>") e t (omega arith)) _ refl

  module _ (f : x ≡ false) where
    goes_on : {r : Option ℕ}
        → Answers d at r (cond (starts is_space (drop at d)) (expect (bytes "?>") (seek (bytes "?>") (drop at d))) none)
        → Answers d at r (instruction_end (drop at d))
    unfolding instruction_end
    goes_on a = or_fault (text_no d at (bytes "?>") e f) refl a

    pub end_past : length d ≤ at → Answers d at None (instruction_end (drop at d))
    end_past h = goes_on (rw (drop_end d at h, starts_nil is_space) faults)

    module _ (h : at < length d) {y : Bool} (s : y ≡ is_space (get_or d at 0)) where
      spaced : {z : Bool} → y ≡ z → starts is_space (drop at d) ≡ z
      spaced q = starts_byte space_ascii d at h ∙ sym s ∙ q

      pub end_other : not y ≡ true → Answers d at None (instruction_end (drop at d))
      end_other n = goes_on (rw (spaced (not-true y n)) faults)

      module _ (n : not y ≡ false) {k : ℕ} (q : k ≡ ends_at d at (seek (bytes "?>") (drop at d))) {z : Bool}
          (g : z ≡ begins (bytes "?>") (drop k d)) where
        sought : {r : Option ℕ} → Answers d k r (expect (bytes "?>") (drop k d)) → Answers d at r (instruction_end (drop at d))
        sought a =
            goes_on
            (rw (spaced (not-false y n))
            (on_from (expect (bytes "?>")) (seek_stands d at (bytes "?>") q (omega arith)) (sought_ahead d at (bytes "?>") q) a))

        pub end_found : z ≡ true → Answers d at (Some (k + 2)) (instruction_end (drop at d))
        end_found t = sought (text_yes d k (bytes "?>") g t (omega arith))

        pub end_never : z ≡ false → Answers d at None (instruction_end (drop at d))
        end_never t = sought (text_no d k (bytes "?>") g t)

pub ruleset ending = (end_here, end_past, end_other, end_found, end_never)

-- ---- the instruction

module _ (d : List ℕ) (at : ℕ) {x : Bool} (e : x ≡ begins (bytes "<?") (drop at d)) where
  pub not_opened : not x ≡ true → None ≡ reading_at d at (instruction_of (drop at d))
  unfolding instruction_of
  not_opened t = answers_reading (then_fault (text_no d at (bytes "<?") e (not-true x t)) _ refl)

  module _ (t : not x ≡ false) where
    pub opened_inside : at + 2 ≤ length d
    opened_inside = text_inside d at (bytes "<?") e (not-false x t) (omega arith)

    opened : {r : Option ℕ} → Answers d (at + 2) r (and_then (target_of (drop (at + 2) d)) instruction_end)
        → r ≡ reading_at d at (instruction_of (drop at d))
    unfolding instruction_of
    opened a = answers_reading (then_ends (text_yes d at (bytes "<?") e (not-false x t) (omega arith)) _ refl a)

    module _ {r : Option ℕ} (q : r ≡ name_at d (at + 2)) where
      named : Answers d (at + 2) r (name_of (drop (at + 2) d))
      named = name_answers d (at + 2) q

      pub no_target : r ≡ None → None ≡ reading_at d at (instruction_of (drop at d))
      unfolding target_of
      no_target n = opened (then_fault (then_fault named _ n) instruction_end refl)

      module _ {i : ℕ} (n : r ≡ Some i) where
        pub target_ahead : at + 2 ≤ i
        target_ahead = ends_ahead named n

        pub target_inside : i ≤ length d
        target_inside = ends_inside named n

        module _ {y : Bool} (p : y ≡ is_xml (take (i - (at + 2)) (drop (at + 2) d))) where
          target : {z : Bool} → y ≡ z → target_of (drop (at + 2) d) ≡ cond z none (some (drop i d))
          unfolding target_of before
          target g = rw (ends_some named n, long, sym p ∙ g)
            where
              long : length (drop (at + 2) d) - length (drop i d) ≡ i - (at + 2)
              long = omega (arith, target_ahead, target_inside, length-drop (at + 2) d, length-drop i d)

          pub target_reserved : y ≡ true → None ≡ reading_at d at (instruction_of (drop at d))
          target_reserved g = opened (rw (target g) faults)

          pub target_free : y ≡ false → {r' : Option ℕ} → Answers d i r' (instruction_end (drop i d))
              → r' ≡ reading_at d at (instruction_of (drop at d))
          target_free g a = opened (then_ends found instruction_end refl a)
            where
              found : Answers d (at + 2) (Some i) (target_of (drop (at + 2) d))
              found = rw (target g) (ends (record { rest = refl; inside = target_inside }) target_ahead)

pub ruleset instructing = (not_opened, opened_inside, no_target, target_ahead, target_inside, target_reserved, target_free)
