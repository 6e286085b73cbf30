-- The ways through `same_name` and `end_tag`. In order: the name, as a part and by words; a text in two parts; what is asked of the bytes
-- of an end tag, one after the other; each way out.
use mathlib.Core.Path.{◌≡◌, refl, sym, ap, ap₂, ◌∙◌}
use mathlib.Core.Bool.{Bool, true, false, cond, ◌&&◌, and_assoc}
use mathlib.Core.List.{List, [], ◌∷◌, ◌++◌}
use Prim.Native.Nat.{ℕ, ◌+◌, ◌-◌, ◌≤◌, ◌<◌}
use native.Mathlib.Omega.{arith}
use borrow.Author.Tests.{le-leb, lt-leb, ne_eqb}
use lib.Bits.{bit_xor}
use lib.Dec.{eqb, leb}
use lib.ListN.{length, get_or, take, drop, length-drop}
use lib.Seq.{drop-drop, length-take-le}
use Rattle.xml.specs.Character.{begins}
use Rattle.utf8.proofs.Place.{drop_step}
use Rattle.words.specs.Word.{number_of, bytes_of, before, is_set}
use Rattle.words.proofs.Part.{part_eight, part_bytes}
use Rattle.words.proofs.Same.{same_words}
use Rattle.quick.specs.End.{closes_here}

-- ---- the name, as the part of d from x to x + n, and by words

pub name_part : (d : List ℕ) (a x n : ℕ) {b : Bool} → b ≡ begins (take ((x + n) - x) (drop x d)) (drop a d)
    → b ≡ begins (take n (drop x d)) (drop a d)
name_part d a x n e = let z : (x + n) - x ≡ n = omega arith in e ∙ ap (λ (k : ℕ). begins (take k (drop x d)) (drop a d)) z

-- u and v are the words of d at a and at x, and k bytes are the same in both before the first that differs
pub name_same : (d : List ℕ) → ((k : ℕ) → get_or d k 0 < 256) → (a x n : ℕ) → n ≤ 8 → a + 8 ≤ length d → x + 8 ≤ length d → {u v k : ℕ}
    → u ≡ number_of (take 8 (drop a d)) → v ≡ number_of (take 8 (drop x d)) → k ≡ before is_set (bytes_of 8 (bit_xor u v))
    → leb n k ≡ begins (take n (drop x d)) (drop a d)
name_same d known a x n h la lx e f g =
    ap (leb n) (g ∙ ap₂ (λ (p q : ℕ). before is_set (bytes_of 8 (bit_xor p q))) e f)
    ∙ same_words n (drop a d) (drop x d) h (part_bytes d a la known) (part_bytes d x lx known) (part_eight d a la) (part_eight d x lx)
    (omega (arith, length-drop a d)) (omega (arith, length-drop x d))

-- ---- a text in two parts

begins_both : (w v s : List ℕ) → begins (w ++ v) s ≡ begins w s && begins v (drop (length w) s)
begins_both [] v s = refl
begins_both (x ∷ w) v [] = refl
begins_both (x ∷ w) v (y ∷ s) =
    ap (λ (b : Bool). eqb y x && b) (begins_both w v s) ∙ sym (and_assoc (eqb y x) (begins w s) (begins v (drop (length w) s)))

-- ---- the bytes of an end tag

module _ (d : List ℕ) (at x n : ℕ) (h : x + n ≤ length d) where
  long : length (take n (drop x d)) ≡ n
  long = length-take-le n (drop x d) (omega (arith, length-drop x d))

  pub end_short : length d - at < n + 3 → 0 ≡ cond (closes_here d at x n) (n + 3) 0
  unfolding closes_here
  end_short l = rw (lt-leb (n + 3) (length d - at) l)

  module _ (l : n + 3 ≤ length d - at) where
    pub asked : closes_here d at x n
        ≡ eqb (get_or d (at + 1) 0) 0x2F && (begins (take n (drop x d)) (drop (at + 2) d) && (eqb (get_or d ((at + 2) + n) 0) 0x3E && true))
    unfolding closes_here
    asked =
        let two : (at + 1) + 1 ≡ at + 2 = omega arith in
        rw (
          le-leb (n + 3) (length d - at) l,
          drop_step d (at + 1) (omega arith),
          two,
          begins_both (take n (drop x d)) (0x3E ∷ []) (drop (at + 2) d),
          long,
          drop-drop n (at + 2) d,
          drop_step d ((at + 2) + n) (omega arith),
        )

    pub end_no_slash : (get_or d (at + 1) 0 ≡ 0x2F → ⊥) → 0 ≡ cond (closes_here d at x n) (n + 3) 0
    end_no_slash z = rw (asked, ne_eqb (get_or d (at + 1) 0) 0x2F z)

    module _ (s : get_or d (at + 1) 0 ≡ 0x2F) where
      pub end_open : (get_or d ((at + 2) + n) 0 ≡ 0x3E → ⊥) → 0 ≡ cond (closes_here d at x n) (n + 3) 0
      end_open z = rw (asked, s, ne_eqb (get_or d ((at + 2) + n) 0) 0x3E z) (go (begins (take n (drop x d)) (drop (at + 2) d)))
        where
          go : (b : Bool) → 0 ≡ cond (b && false) (n + 3) 0
          go true = refl
          go false = refl

      module _ (g : get_or d ((at + 2) + n) 0 ≡ 0x3E) {b : Bool} (e : b ≡ begins (take n (drop x d)) (drop (at + 2) d)) where
        pub end_told : b ≡ true → n + 3 ≡ cond (closes_here d at x n) (n + 3) 0
        end_told t = rw (asked, s, g, ← e, t)

        pub end_other : b ≡ false → 0 ≡ cond (closes_here d at x n) (n + 3) 0
        end_other t = rw (asked, s, g, ← e, t)

pub ruleset ending = (end_short, end_no_slash, end_open, end_told, end_other)
