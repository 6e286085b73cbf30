-- The first byte of a class among the eight that a word has. In order: the first of a list; the first of eight bytes, by the mask of their
-- word. Readers of names and of marks go by it.
use mathlib.Core.Path.{◌≡◌, refl, sym, ap, ◌∙◌}
use mathlib.Core.Bool.{Bool, true, false, cond, false≢true}
use mathlib.Core.List.{List, [], ◌∷◌}
use Prim.Native.Nat.{ℕ, zero, suc, ◌+◌, ◌≤◌, ◌<◌}
use native.Mathlib.Nat.{not-suc-le-zero, le_of_suc-le-suc}
use native.Mathlib.Omega.{arith}
use borrow.Author.Tests.{ltb-true, ltb-false}
use lib.Dec.{ltb}
use lib.ListN.{length, get_or, take, drop}
use Rattle.blocks.specs.Block.{First}
use Rattle.words.specs.Word.{number_of, bytes_of, marks_of, before, is_set}
use Rattle.words.proofs.Part.{part_eight, part_there, part_bytes}
use Rattle.words.proofs.First.{mask_first, mask_none, mask_some}

-- ---- a list

before_first : (p : ℕ → Bool) (t : List ℕ) → First (λ k. p (get_or t k 0)) (length t) (before p t)
unfolding before
before_first p [] = record { within = omega arith; passed = λ k h. absurd (not-suc-le-zero h); found = λ h. absurd (not-suc-le-zero h) }
before_first p (b ∷ t) = go (p b) refl (before_first p t)
  where
    go : (x : Bool) → p b ≡ x → First (λ k. p (get_or t k 0)) (length t) (before p t)
        → First (λ k. p (get_or (b ∷ t) k 0)) (suc (length t)) (cond x 0 (suc (before p t)))
    go true e f = record { within = omega arith; passed = λ k h. absurd (not-suc-le-zero h); found = λ h. e }
    go false e f = record { within = omega (arith, f.within); passed = earlier; found = λ h. f.found (le_of_suc-le-suc h) }
      where
        earlier : (k : ℕ) → k < suc (before p t) → p (get_or (b ∷ t) k 0) ≡ false
        earlier zero h = e
        earlier (suc k) h = f.passed k (le_of_suc-le-suc h)

-- ---- a word w of the bytes of d from i on, and its mask m

pub first_like : {p q : ℕ → Bool} {n r : ℕ} → ((k : ℕ) → k < n → p k ≡ q k) → First p n r → First q n r
first_like h f =
    let w = f.within in
    record { within = w; passed = λ k l. sym (h k (omega arith)) ∙ f.passed k l; found = λ l. sym (h _ l) ∙ f.found l }

-- there is one first place
pub first_once : {p : ℕ → Bool} {n r r' : ℕ} → First p n r → First p n r' → r ≡ r'
first_once {p} {n} {r} {r'} f g = let low = before_none f g in let high = before_none g f in omega arith
  where
    -- what is found is not before the first place
    before_none : {a b : ℕ} → First p n a → First p n b → a ≤ b
    before_none {a} {b} x y = go (ltb b a) refl
      where
        go : (c : Bool) → ltb b a ≡ c → a ≤ b
        go true e =
            let l = ltb-true b a e in
            let w = x.within in
            absurd (false≢true (sym (x.passed b l) ∙ y.found (omega arith)))
        go false e = ltb-false b a e

module _ (p : ℕ → Bool) (d : List ℕ) (i : ℕ) (known : (k : ℕ) → get_or d k 0 < 256) (l : i + 8 ≤ length d) {w m : ℕ}
    (e : w ≡ number_of (take 8 (drop i d))) (f : m ≡ marks_of p (bytes_of 8 w)) {r : ℕ} (g : r ≡ before is_set (bytes_of 8 m)) where
  answer : r ≡ before p (take 8 (drop i d))
  answer = g ∙ mask_first (part_bytes d i l known) (part_eight d i l) p e f

  pub word_first : First (λ k. p (get_or d (i + k) 0)) 8 r
  word_first =
      rw answer
      (first_like (λ k h. ap p (part_there d i l k h))
      (rw (part_eight d i l) at (before_first p (take 8 (drop i d)))))

  pub word_none : m ≡ 0 → r ≡ 8
  word_none z = answer ∙ mask_none (part_bytes d i l known) (part_eight d i l) p e f z

  pub word_some : (m ≡ 0 → ⊥) → r < 8
  word_some z = let h = mask_some (part_bytes d i l known) (part_eight d i l) p e f z in omega (arith, answer)
