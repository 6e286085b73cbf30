-- [23] XMLDecl. In order: the classes of characters and where a run of one ends; what stands in the quotes of each part; quotes; a
-- part; what stands before the encoding and behind it; the declaration; another encoding. Each law about a function is one way through its
-- code: what the code answers there is what the reader leaves.
use mathlib.Core.Path.{◌≡◌, refl, sym, ap, ◌∙◌}
use mathlib.Core.Bool.{Bool, true, false, cond, not, ◌&&◌, ◌||◌, or_assoc, or-false, and_assoc, and-false, true≢false}
use mathlib.Core.List.{List, [], ◌∷◌}
use mathlib.Core.Option.{Option as Maybe, none, some}
use Prim.Native.Nat.{ℕ, zero, suc, ◌+◌, ◌-◌, ◌≤◌, ◌<◌}
use native.Mathlib.Omega.{arith}
use borrow.Author.Tests.{ltb-true, lt-leb, eqb-true, eqb-false, not-true, not-false}
use lib.Dec.{eqb, leb, ltb}
use lib.ListN.{length, get_or, take, drop, length-drop}
use lib.Seq.{length-take-le}
use Rattle.std.specs.List.{AllWithin}
use Rattle.std.proofs.lemmas.List.{get_or-drop}
use Rattle.xml.specs.Range.{Range, ◌to◌, sign, within}
use Rattle.xml.specs.Notation.{bytes, among}
use Rattle.xml.specs.Character.{begins, starts, run}
use Rattle.xml.proofs.Bools.{and_left, and_right, only_equal}
use Rattle.xml.proofs.Run.{starts_nil}
use Rattle.utf8.specs.Place.{Stands}
use Rattle.utf8.proofs.Place.{drop_step, drop_end}
use Rattle.chars.specs.Space.{space_end}
use Rattle.chars.specs.Name.{reading_at}
use Rattle.std.specs.Prelude.{Option, Some, None}
use Rattle.chars.proofs.Runs.{Running, run_start, run_stands, run_whole, run_on, Ascii, starts_byte, byte_wide}
use Rattle.readers.specs.Read.{and_then, or_else, or_stay, expect, skip, space_of, given}
use Rattle.readers.specs.Value.{is_decimal}
use Rattle.readers.specs.Named.{before, eq_of, in_quotes, some_run, version_of, is_letter, is_encoding, encoding_of, yes_or_no}
use Rattle.readers.specs.Named.{is_utf8, other_of, declaration_by, declaration_of, other_encoding}
use Rattle.readers.specs.Answer.{Answers, ends, faults}
use Rattle.readers.proofs.Answers.{answers_reading, ends_some, ends_inside, ends_ahead, fault_none, then_fault, then_ends, or_ends}
use Rattle.readers.proofs.Answers.{or_fault, on_from, text_inside, text_yes, text_no, byte_yes, byte_no, byte_end}
use Rattle.scans.proofs.Ends.{byte_answers}
use Rattle.instructions.specs.Part.{Goes, word_of, body_of, class_of, part_of, opening_of, closing_of}
use Rattle.instructions.specs.declared.declaration.Part.{Part}
use Rattle.instructions.specs.declared.declaration.Part.TheVariants.{Version, Encoding, Other, Standalone}
use Rattle.instructions.proofs.Callees.{space_ahead, space_stands}
use Rattle.instructions.proofs.Over.{run_ahead, run_none, run_some}

-- ---- the classes, by the code's tests

pub letter_ranges : (b : ℕ) → (leb 0x41 b && leb b 0x5A) || (leb 0x61 b && leb b 0x7A) ≡ is_letter b
unfolding is_letter
letter_ranges b = simp or-false

module _ (p : Part) (b : ℕ) where
  pub version_class : p ≡ Version → leb 0x30 b && leb b 0x39 ≡ class_of p b
  unfolding is_decimal
  version_class e = rw e (simp or-false)

  pub encoding_class : p ≡ Encoding → {x : Bool} → x ≡ is_letter b
      → (((x || (leb 0x30 b && leb b 0x39)) || eqb b 0x2E) || eqb b 0x5F) || eqb b 0x2D ≡ class_of p b
  unfolding is_letter is_encoding
  encoding_class e q =
      rw (e, q, only_equal b 0x2E, only_equal b 0x5F, only_equal b 0x2D) (simp (or_assoc, or-false))

  pub other_class : p ≡ Other → false ≡ class_of p b
  other_class e = rw e

  pub standalone_class : p ≡ Standalone → false ≡ class_of p b
  standalone_class e = rw e

pub ruleset classing = (letter_ranges, version_class, encoding_class, other_class, standalone_class)

-- ---- they are ASCII

abbrev all_low : List Range → Bool
all_low [] = true
all_low (r ∷ rs) = ltb r.high 0x80 && all_low rs

low_ascii : (rs : List Range) → all_low rs ≡ true → Ascii (within rs)
low_ascii [] h = record { none_high = λ c l. refl }
low_ascii (r ∷ rs) h =
    record {
      none_high = λ c l.
          let z = ltb-true r.high 0x80 (and_left (ltb r.high 0x80) _ h) in
          let n = (low_ascii rs (and_right (ltb r.high 0x80) _ h)).none_high c l in
          rw (lt-leb c r.high (omega arith), and-false (leb r.low c), n);
    }

letter_ascii : Ascii is_letter
unfolding is_letter
letter_ascii = low_ascii ("A" to "Z" ∷ "a" to "z" ∷ []) refl

class_ascii : (p : Part) → Ascii (class_of p)
unfolding is_decimal is_encoding
class_ascii Version = low_ascii ("0" to "9" ∷ []) refl
class_ascii Encoding = low_ascii ("A" to "Z" ∷ "a" to "z" ∷ "0" to "9" ∷ sign "." ∷ sign "_" ∷ sign "-" ∷ []) refl
class_ascii Other = record { none_high = λ c l. refl }
class_ascii Standalone = record { none_high = λ c l. refl }

-- ---- a run of a part's class ends at the first byte that does not go on, or with the document

-- from at to i there are characters of the part's class
record Classed (p : Part) (d : List ℕ) (at i : ℕ) : Type 0 where
  pub running : Running (class_of p) d at i
  pub inside : i ≤ length d

module _ {d : List ℕ} {at : ℕ} (l : at ≤ length d) (p : Part) where
  class_first : (n : ℕ) → at + n ≤ length d → AllWithin (λ b. class_of p b ≡ true) (drop at d) 0 n → Classed p d at (at + n)
  class_first zero h w =
      let none : at + 0 ≡ at = omega arith in
      rw none (record { running = run_start; inside = l })
  class_first (suc n) h w =
      let v = class_first n (omega arith) (λ k e y z. w k e y (omega arith)) in
      let here : class_of p (get_or d (at + n) 0) ≡ true = rw (← get_or-drop at d n 0) (w n 0 (omega arith) (omega arith)) in
      let less : at + n < length d = omega arith in
      let next : at + suc n ≡ at + n + 1 = omega arith in
      record {
        running =
            rw next
            (run_on v.running (starts_byte (class_ascii p) d (at + n) less ∙ here)
            (byte_wide (class_ascii p) d (at + n) less here) less);
        inside = h;
      }

  pub class_stop : {n : ℕ} → n < length (drop at d) → class_of p (get_or (drop at d) n 0) ≡ false
      → AllWithin (λ b. class_of p b ≡ true) (drop at d) 0 n → Stands d (at + n) (run (class_of p) 0 (drop at d))
  class_stop {n} h e w =
      let less : at + n < length d = omega (arith, length-drop at d) in
      let v = class_first n (omega arith) w in
      run_stands v.running (starts_byte (class_ascii p) d (at + n) less ∙ rw (← get_or-drop at d n 0) e) v.inside

  pub class_over : AllWithin (λ b. class_of p b ≡ true) (drop at d) 0 (length (drop at d))
      → Stands d (length d) (run (class_of p) 0 (drop at d))
  class_over w =
      let whole : at + length (drop at d) ≡ length d = omega (arith, length-drop at d) in
      let v = class_first (length (drop at d)) (omega arith) w in
      rw whole at (run_whole v.running (omega arith) v.inside)

-- ---- [26] VersionNum

module _ (d : List ℕ) (at : ℕ) {x : Bool} (e : x ≡ begins (bytes "1.") (drop at d)) where
  pub version_none : not x ≡ true → Answers d at None (version_of (drop at d))
  unfolding version_of
  version_none t = then_fault (text_no d at (bytes "1.") e (not-true x t)) _ refl

  module _ (t : not x ≡ false) where
    pub version_inside : at + 2 ≤ length d
    version_inside = text_inside d at (bytes "1.") e (not-false x t) (omega arith)

    version_on : {r : Option ℕ} → Answers d (at + 2) r (some_run is_decimal (drop (at + 2) d)) → Answers d at r (version_of (drop at d))
    unfolding version_of
    version_on a = then_ends (text_yes d at (bytes "1.") e (not-false x t) (omega arith)) _ refl a

    module _ {k : ℕ} (s : Stands d k (run is_decimal 0 (drop (at + 2) d))) where
      pub version_empty : k ≡ at + 2 → Answers d at None (version_of (drop at d))
      version_empty q = version_on (run_none is_decimal d (at + 2) s version_inside q)

      pub version_ends : (k ≡ at + 2 → ⊥) → Answers d at (Some k) (version_of (drop at d))
      version_ends n = version_on (run_some is_decimal d (at + 2) s version_inside n)

pub ruleset versions = (version_none, version_inside, version_empty, version_ends)

-- ---- [81] EncName

module _ (d : List ℕ) (at : ℕ) where
  pub encoding_past : length d ≤ at → Answers d at None (encoding_of (drop at d))
  unfolding encoding_of
  encoding_past h = rw (drop_end d at h, starts_nil is_letter) faults

  module _ (h : at < length d) {x : Bool} (q : x ≡ is_letter (get_or d at 0)) where
    letter_starts : {y : Bool} → x ≡ y → starts is_letter (drop at d) ≡ y
    letter_starts e = starts_byte letter_ascii d at h ∙ sym q ∙ e

    pub encoding_none : not x ≡ true → Answers d at None (encoding_of (drop at d))
    unfolding encoding_of
    encoding_none n = rw (letter_starts (not-true x n)) faults

    pub encoding_ends : not x ≡ false → {k : ℕ} → Stands d k (run is_encoding 0 (drop at d))
        → Answers d at (Some k) (encoding_of (drop at d))
    unfolding encoding_of
    encoding_ends y s = rw (letter_starts (not-false x y)) (ends s (run_ahead is_encoding d at s (omega arith)))

pub ruleset encodings = (encoding_past, encoding_none, encoding_ends)

-- ---- `UTF-8` in any case

not_five : (w : List ℕ) → (length w ≡ 5 → ⊥) → is_utf8 w ≡ false
not_five [] n = refl
not_five (u ∷ []) n = refl
not_five (u ∷ t ∷ []) n = refl
not_five (u ∷ t ∷ f ∷ []) n = refl
not_five (u ∷ t ∷ f ∷ h ∷ []) n = refl
not_five (u ∷ t ∷ f ∷ h ∷ e ∷ []) n = absurd (n refl)
not_five (u ∷ t ∷ f ∷ h ∷ e ∷ b ∷ w) n = refl

module _ (d : List ℕ) (from past : ℕ) (l : from ≤ past) (h : past ≤ length d) where
  pub utf8_other : (past - from ≡ 5 → ⊥) → false ≡ is_utf8 (take (past - from) (drop from d))
  utf8_other n =
      let z = length-take-le (past - from) (drop from d) (omega (arith, length-drop from d)) in
      sym (not_five (take (past - from) (drop from d)) (λ e. n (sym z ∙ e)))

  pub utf8_bytes : past - from ≡ 5 → {u t f : Bool} → u ≡ among (bytes "Uu") (get_or d from 0)
      → t ≡ among (bytes "Tt") (get_or d (from + 1) 0)
      → f ≡ among (bytes "Ff") (get_or d (from + 2) 0)
      → (((u && t) && f) && eqb (get_or d (from + 3) 0) 0x2D) && eqb (get_or d (from + 4) 0) 0x38
      ≡ is_utf8 (take (past - from) (drop from d))
  utf8_bytes n {u} {t} {f} p q r =
      let x : from + 1 + 1 ≡ from + 2 = omega arith in
      let y : from + 2 + 1 ≡ from + 3 = omega arith in
      let z : from + 3 + 1 ≡ from + 4 = omega arith in
      regroup u t f (eqb (get_or d (from + 3) 0) 0x2D) (eqb (get_or d (from + 4) 0) 0x38)
      ∙ rw (
        n,
        drop_step d from (omega arith),
        drop_step d (from + 1) (omega arith),
        x,
        drop_step d (from + 2) (omega arith),
        y,
        drop_step d
            (from + 3) (omega arith),
        z,
        drop_step d (from + 4) (omega arith),
        p,
        q,
        r,
      )
    where
      regroup : (a b c e g : Bool) → (((a && b) && c) && e) && g ≡ a && (b && (c && (e && g)))
      regroup a b c e g = simp and_assoc

pub ruleset utf8ing = (utf8_other, utf8_bytes)

-- ---- an EncName that is not `UTF-8`

module _ {d : List ℕ} {at : ℕ} {r : Option ℕ} (a : Answers d at r (encoding_of (drop at d))) where
  pub other_fault : r ≡ None → Answers d at None (other_of (drop at d))
  unfolding other_of
  other_fault e = then_fault a _ e

  module _ {i : ℕ} (e : r ≡ Some i) {x : Bool} (q : x ≡ is_utf8 (take (i - at) (drop at d))) where
    told : {y : Bool} → x ≡ y → other_of (drop at d) ≡ cond y none (some (drop i d))
    unfolding other_of before
    told g = rw (ends_some a e, long, sym q ∙ g)
      where
        long : length (drop at d) - length (drop i d) ≡ i - at
        long = omega (arith, ends_ahead a e, ends_inside a e, length-drop at d, length-drop i d)

    pub other_utf8 : x ≡ true → Answers d at None (other_of (drop at d))
    other_utf8 g = rw (told g) faults

    pub other_ends : x ≡ false → Answers d at (Some i) (other_of (drop at d))
    other_ends g = rw (told g) (ends (record { rest = refl; inside = ends_inside a e }) (ends_ahead a e))

pub ruleset othering = (other_fault, other_utf8, other_ends, ends_ahead, ends_inside)

-- ---- yes or no

module _ (d : List ℕ) (at : ℕ) {x : Bool} (e : x ≡ begins (bytes "yes") (drop at d)) where
  pub yes_here : x ≡ true → Answers d at (Some (at + 3)) (yes_or_no (drop at d))
  unfolding yes_or_no
  yes_here t = or_ends (text_yes d at (bytes "yes") e t (omega arith)) _ refl

  module _ (f : x ≡ false) {y : Bool} (g : y ≡ begins (bytes "no") (drop at d)) where
    pub no_here : y ≡ true → Answers d at (Some (at + 2)) (yes_or_no (drop at d))
    unfolding yes_or_no
    no_here t = or_fault (text_no d at (bytes "yes") e f) refl (text_yes d at (bytes "no") g t (omega arith))

    pub neither : y ≡ false → Answers d at None (yes_or_no (drop at d))
    unfolding yes_or_no
    neither t = or_fault (text_no d at (bytes "yes") e f) refl (text_no d at (bytes "no") g t)

pub ruleset choices = (yes_here, no_here, neither)

-- ---- what stands in the quotes, and the word, by the part

module _ (p : Part) (d : List ℕ) (at : ℕ) {r : Option ℕ} where
  pub body_version : p ≡ Version → Answers d at r (version_of (drop at d)) → Answers d at r (body_of p (drop at d))
  body_version e a = rw e a

  pub body_encoding : p ≡ Encoding → Answers d at r (encoding_of (drop at d)) → Answers d at r (body_of p (drop at d))
  body_encoding e a = rw e a

  pub body_other : p ≡ Other → Answers d at r (other_of (drop at d)) → Answers d at r (body_of p (drop at d))
  body_other e a = rw e a

  pub body_standalone : p ≡ Standalone → Answers d at r (yes_or_no (drop at d)) → Answers d at r (body_of p (drop at d))
  body_standalone e a = rw e a

pub ruleset bodies = (body_version, body_encoding, body_other, body_standalone)

module _ (p : Part) (d : List ℕ) (at : ℕ) {x : Bool} where
  pub word_version : p ≡ Version → x ≡ begins (bytes "version") (drop at d) → x ≡ true
      → Answers d at (Some (at + 7)) (expect (word_of p) (drop at d))
  word_version q e t = rw q (text_yes d at (bytes "version") e t (omega arith))

  pub word_encoding : p ≡ Encoding → x ≡ begins (bytes "encoding") (drop at d) → x ≡ true
      → Answers d at (Some (at + 8)) (expect (word_of p) (drop at d))
  word_encoding q e t = rw q (text_yes d at (bytes "encoding") e t (omega arith))

  pub word_named : p ≡ Other → x ≡ begins (bytes "encoding") (drop at d) → x ≡ true
      → Answers d at (Some (at + 8)) (expect (word_of p) (drop at d))
  word_named q e t = rw q (text_yes d at (bytes "encoding") e t (omega arith))

  pub word_standalone : p ≡ Standalone → x ≡ begins (bytes "standalone") (drop at d) → x ≡ true
      → Answers d at (Some (at + 10)) (expect (word_of p) (drop at d))
  word_standalone q e t = rw q (text_yes d at (bytes "standalone") e t (omega arith))

  pub word_other : (w : Part) → p ≡ w → x ≡ begins (word_of w) (drop at d) → x ≡ false → Answers d at None (expect (word_of p) (drop at d))
  word_other w q e t = rw q (text_no d at (word_of w) e t)

pub ruleset wording = (word_version, word_encoding, word_named, word_standalone, word_other)

-- ---- quotes

or_none : {A : Type 0} (o : Maybe A) → or_else o none ≡ o
or_none none = refl
or_none (some x) = refl

module _ (f : List ℕ → Maybe (List ℕ)) (d : List ℕ) (at : ℕ) where
  pub quote_past : length d ≤ at → Answers d at None (in_quotes f (drop at d))
  quote_past h = or_fault (then_fault (byte_end d at 0x27 h) _ refl) refl (then_fault (byte_end d at 0x22 h) _ refl)

  module _ (h : at < length d) where
    pub quote_none : not (eqb (get_or d at 0) 0x27) && not (eqb (get_or d at 0) 0x22) ≡ true → Answers d at None (in_quotes f (drop at d))
    quote_none n =
        let x = eqb-false _ 0x27 (not-true _ (and_left (not (eqb (get_or d at 0) 0x27)) _ n)) in
        let y = eqb-false _ 0x22 (not-true _ (and_right (not (eqb (get_or d at 0) 0x27)) _ n)) in
        or_fault (then_fault (byte_no d at 0x27 h x) _ refl) refl (then_fault (byte_no d at 0x22 h y) _ refl)

    module _ (n : not (eqb (get_or d at 0) 0x27) && not (eqb (get_or d at 0) 0x22) ≡ false) where
      -- the quote that stands there ends it
      in_quote : in_quotes f (drop at d) ≡ and_then (f (drop (at + 1) d)) (expect (get_or d at 0 ∷ []))
      in_quote = go (eqb (get_or d at 0) 0x27) (eqb (get_or d at 0) 0x22) refl refl n
        where
          opens : (b : ℕ) → get_or d at 0 ≡ b → expect (b ∷ []) (drop at d) ≡ some (drop (at + 1) d)
          opens b e = ends_some (byte_yes d at b h e) refl

          other : (b : ℕ) → eqb (get_or d at 0) b ≡ false → expect (b ∷ []) (drop at d) ≡ none
          other b e = fault_none (byte_no d at b h (eqb-false _ b e)) refl

          go : (x y : Bool) → eqb (get_or d at 0) 0x27 ≡ x → eqb (get_or d at 0) 0x22 ≡ y → not x && not y ≡ false
              → in_quotes f (drop at d) ≡ and_then (f (drop (at + 1) d)) (expect (get_or d at 0 ∷ []))
          go true y p q m =
              let e = eqb-true (get_or d at 0) 0x27 p in
              let z : get_or d at 0 ≡ 0x22 → ⊥ = λ w. let v : ◌≡◌ {A = ℕ} 0x27 0x22 = sym e ∙ w in omega arith in
              rw (opens 0x27 e, fault_none (byte_no d at 0x22 h z) refl, e) (or_none (and_then (f (drop (at + 1) d)) (expect (0x27 ∷ []))))
          go false true p q m =
              let e = eqb-true (get_or d at 0) 0x22 q in rw (other 0x27 p, opens 0x22 e, e)
          go false false p q m = absurd (true≢false m)

      module _ {r : Option ℕ} (a : Answers d (at + 1) r (f (drop (at + 1) d))) where
        begun : {r' : Option ℕ} → Answers d (at + 1) r' (and_then (f (drop (at + 1) d)) (expect (get_or d at 0 ∷ [])))
            → Answers d at r' (in_quotes f (drop at d))
        begun b = rw in_quote (then_ends here (λ t. and_then (f t) (expect (get_or d at 0 ∷ []))) refl b)
          where
            here : Answers d at (Some (at + 1)) (some (drop (at + 1) d))
            here = ends {e = at + 1} (record { rest = refl; inside = omega arith }) (omega arith)

        pub quote_fault : r ≡ None → Answers d at None (in_quotes f (drop at d))
        quote_fault e = begun (then_fault a _ e)

        pub quote_ends : {i : ℕ} {r' : Option ℕ} → r ≡ Some i → Answers d i r' (expect (get_or d at 0 ∷ []) (drop i d))
            → Answers d at r' (in_quotes f (drop at d))
        quote_ends e b = begun (then_ends a _ e b)

pub ruleset quoting = (byte_answers, quote_past, quote_none, quote_fault, quote_ends, ends_inside)

-- ---- a part

module _ (p : Part) {d : List ℕ} {at : ℕ} {r : Option ℕ} (a : Answers d at r (space_of (drop at d))) where
  pub part_space : r ≡ None → Answers d at None (part_of p (drop at d))
  part_space e = then_fault a _ e

  module _ {i : ℕ} (e : r ≡ Some i) {r' : Option ℕ} (b : Answers d i r' (expect (word_of p) (drop i d))) where
    pub part_word : r' ≡ None → Answers d at None (part_of p (drop at d))
    part_word f = then_ends a _ e (then_fault b _ f)

    module _ {j : ℕ} (f : r' ≡ Some j) {r'' : Option ℕ} (c : Answers d j r'' (eq_of (drop j d))) where
      pub part_eq : r'' ≡ None → Answers d at None (part_of p (drop at d))
      part_eq g = then_ends a _ e (then_ends b _ f (then_fault c _ g))

      pub part_quoted : {k : ℕ} {s : Option ℕ} → r'' ≡ Some k → Answers d k s (in_quotes (body_of p) (drop k d))
          → Answers d at s (part_of p (drop at d))
      part_quoted g q = then_ends a _ e (then_ends b _ f (then_ends c _ g q))

pub ruleset parting = (part_space, part_word, part_eq, part_quoted, ends_inside)

-- ---- a part or none

module _ {d : List ℕ} {at : ℕ} {r : Option ℕ} {o : Maybe (List ℕ)} (a : Answers d at r o) where
  pub goes_ends : (s : List ℕ) {e : ℕ} → r ≡ Some e → Goes d at e (or_stay o s)
  goes_ends s q =
      rw (ends_some a q) (record { ahead = ends_ahead a q; stands = record { rest = refl; inside = ends_inside a q } })

  pub goes_stays : r ≡ None → at ≤ length d → Goes d at at (or_stay o (drop at d))
  goes_stays q l = rw (fault_none a q) (record { ahead = omega arith; stands = record { rest = refl; inside = l } })

pub ruleset staying = (goes_ends, goes_stays)

-- ---- what stands before the encoding, and behind it

module _ (d : List ℕ) (at : ℕ) {x : Bool} (e : x ≡ begins (bytes "<?xml") (drop at d)) where
  pub opening_none : not x ≡ true → Answers d at None (opening_of (drop at d))
  opening_none t = then_fault (text_no d at (bytes "<?xml") e (not-true x t)) _ refl

  module _ (t : not x ≡ false) where
    pub opening_inside : at + 5 ≤ length d
    opening_inside = text_inside d at (bytes "<?xml") e (not-false x t) (omega arith)

    pub opening_on : {r : Option ℕ} → Answers d (at + 5) r (part_of Version (drop (at + 5) d)) → Answers d at r (opening_of (drop at d))
    opening_on a = then_ends (text_yes d at (bytes "<?xml") e (not-false x t) (omega arith)) _ refl a

pub ruleset opening = (opening_none, opening_inside, opening_on)

module _ {d : List ℕ} {at s : ℕ} (h : Goes d at s (or_stay (part_of Standalone (drop at d)) (drop at d))) {k : ℕ} (q : k ≡ space_end d s)
    {y : Bool} (z : y ≡ begins (bytes "?>") (drop k d)) where
  closes : {r : Option ℕ} → Answers d k r (expect (bytes "?>") (drop k d)) → Answers d at r (closing_of (drop at d))
  closes b =
      on_from (λ u. expect (bytes "?>") (skip u)) h.stands h.ahead
      (on_from (expect (bytes "?>")) (space_stands d s q h.stands.inside) (space_ahead d s q) b)

  pub closing_ends : y ≡ true → Answers d at (Some (k + 2)) (closing_of (drop at d))
  closing_ends c = closes (text_yes d k (bytes "?>") z c (omega arith))

  pub closing_open : y ≡ false → Answers d at None (closing_of (drop at d))
  closing_open c = closes (text_no d k (bytes "?>") z c)

pub ruleset closing = (closing_ends, closing_open)

-- ---- the declaration

then_then : {A B C : Type 0} (o : Maybe A) (f : A → Maybe B) (g : B → Maybe C)
    → and_then (and_then o f) g ≡ and_then o (λ t. and_then (f t) g)
then_then none f g = refl
then_then (some x) f g = refl

-- what is read behind `<?xml` and a version
by_opening : (f : List ℕ → Maybe (List ℕ)) (s : List ℕ) → and_then (opening_of s) (λ u. and_then (f u) closing_of) ≡ declaration_by f s
by_opening f s = then_then (expect (bytes "<?xml") s) (part_of Version) (λ u. and_then (f u) closing_of)

module _ {d : List ℕ} {at : ℕ} {r : Option ℕ} (a : Answers d at r (opening_of (drop at d))) where
  by_none : (f : List ℕ → Maybe (List ℕ)) → r ≡ None → Answers d at None (declaration_by f (drop at d))
  by_none f e = rw (← by_opening f (drop at d)) (then_fault a _ e)

  by_ends : (f : List ℕ → Maybe (List ℕ)) {v : ℕ} {r' : Option ℕ} → r ≡ Some v → Answers d v r' (and_then (f (drop v d)) closing_of)
      → Answers d at r' (declaration_by f (drop at d))
  by_ends f e b = rw (← by_opening f (drop at d)) (then_ends a (λ u. and_then (f u) closing_of) e b)

  pub not_declared : r ≡ None → None ≡ reading_at d at (declaration_of (drop at d))
  unfolding declaration_of
  not_declared e = answers_reading (by_none (λ u. some (or_stay (part_of Encoding u) u)) e)

  pub declared_ends : {v : ℕ} → r ≡ Some v → {i : ℕ} → Goes d v i (or_stay (part_of Encoding (drop v d)) (drop v d)) → {r' : Option ℕ}
      → Answers d i r' (closing_of (drop i d)) → r' ≡ reading_at d at (declaration_of (drop at d))
  unfolding declaration_of
  declared_ends e g b = answers_reading (by_ends (λ u. some (or_stay (part_of Encoding u) u)) e (on_from closing_of g.stands g.ahead b))

  -- ---- another encoding

  tells : {r' : Option ℕ} → Answers d at r' (declaration_by (part_of Other) (drop at d)) → {b : Bool}
      → given (declaration_by (part_of Other) (drop at d)) ≡ b → b ≡ other_encoding (drop at d)
  unfolding other_encoding
  tells x e = sym e

  pub other_unopened : r ≡ None → false ≡ other_encoding (drop at d)
  other_unopened e = let x = by_none (part_of Other) e in tells x (ap given (fault_none x refl))

  module _ {v : ℕ} (e : r ≡ Some v) {r' : Option ℕ} (b : Answers d v r' (part_of Other (drop v d))) where
    pub other_unset : r' ≡ None → false ≡ other_encoding (drop at d)
    other_unset f = let x = by_ends (part_of Other) e (then_fault b closing_of f) in tells x (ap given (fault_none x refl))

    module _ {i : ℕ} (f : r' ≡ Some i) {r'' : Option ℕ} (c : Answers d i r'' (closing_of (drop i d))) where
      whole : Answers d at r'' (declaration_by (part_of Other) (drop at d))
      whole = by_ends (part_of Other) e (then_ends b closing_of f c)

      pub other_unclosed : r'' ≡ None → false ≡ other_encoding (drop at d)
      other_unclosed g = tells whole (ap given (fault_none whole g))

      pub other_named : {k : ℕ} → r'' ≡ Some k → true ≡ other_encoding (drop at d)
      other_named g = tells whole (ap given (ends_some whole g))

pub goes_inside : {d : List ℕ} {at i : ℕ} {t : List ℕ} → Goes d at i t → i ≤ length d
goes_inside g = g.stands.inside

pub ruleset declaring = (not_declared, declared_ends, goes_inside, ends_inside)

pub ruleset telling = (other_unopened, other_unset, other_unclosed, other_named, ends_inside)
