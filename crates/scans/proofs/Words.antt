-- The first byte of a class among 16, by two words: the first of two eights. That of one word is in chars/proofs/Words.
use mathlib.Core.Path.{◌≡◌, refl, ap}
use mathlib.Core.Bool.{Bool, true, false}
use mathlib.Core.List.{List}
use Prim.Native.Nat.{ℕ, ◌+◌, ◌-◌, ◌≤◌, ◌<◌}
use native.Mathlib.Nat.{add_assoc}
use native.Mathlib.Omega.{arith}
use borrow.Author.Tests.{ltb-true, ltb-false}
use lib.Dec.{ltb}
use lib.ListN.{length, get_or, take, drop}
use Rattle.blocks.specs.Block.{First}
use Rattle.words.specs.Word.{number_of, bytes_of, marks_of, before, is_set}
use Rattle.chars.proofs.Words.{first_like, word_first, word_none, word_some}

module _ {p : ℕ → Bool} {n r : ℕ} where
  pub first_lower : (m : ℕ) → First p n r → r < n → First p (n + m) r
  first_lower m f h = record { within = omega arith; passed = f.passed; found = λ l. f.found h }

  pub first_upper : {m : ℕ} → First p n n → First (λ k. p (n + k)) m r → First p (n + m) (n + r)
  first_upper {m} f g =
      let w = g.within in
      record { within = omega arith; passed = earlier; found = λ l. g.found (omega arith) }
    where
      earlier : (k : ℕ) → k < n + r → p k ≡ false
      earlier k h = go (ltb k n) refl
        where
          go : (x : Bool) → ltb k n ≡ x → p k ≡ false
          go true e = f.passed k (ltb-true k n e)
          go false e =
              let l = ltb-false k n e in
              let s : n + (k - n) ≡ k = omega arith in
              rw s at (g.passed (k - n) (omega arith))

module _ (p : ℕ → Bool) (d : List ℕ) (i : ℕ) (known : (k : ℕ) → get_or d k 0 < 256) (l : i + 16 ≤ length d) {w m : ℕ}
    (e : w ≡ number_of (take 8 (drop i d))) (f : m ≡ marks_of p (bytes_of 8 w)) {r : ℕ} where
  pub first_word : (m ≡ 0 → ⊥) → r ≡ before is_set (bytes_of 8 m) → First (λ k. p (get_or d (i + k) 0)) 16 r
  first_word z g =
      let h : i + 8 ≤ length d = omega arith in
      first_lower 8 (word_first p d i known h e f g) (word_some p d i known h e f g z)

  pub second_word : m ≡ 0 → {w' m' : ℕ} → w' ≡ number_of (take 8 (drop (i + 8) d)) → m' ≡ marks_of p (bytes_of 8 w')
      → r ≡ before is_set (bytes_of 8 m') → First (λ k. p (get_or d (i + k) 0)) 16 (8 + r)
  second_word z e' f' g =
      let h : i + 8 ≤ length d = omega arith in
      let nothing = rw (word_none p d i known h e f refl z) at (word_first p d i known h e f refl) in
      first_upper nothing
      (first_like (λ k n. ap (λ (x : ℕ). p (get_or d x 0)) (add_assoc i 8 k)) (word_first p d (i + 8) known (omega arith) e' f' g))
