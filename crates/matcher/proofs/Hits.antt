-- The hit of a path's last step, `hits_lays` and on names `hit_selects`: the matcher says of an element what the test does. First on
-- numbers: the last bit, reached bit by bit; then the last step of those that the bits tell of.
use mathlib.Core.Path.{◌≡◌, refl, sym, ap, ◌∙◌, subst}
use mathlib.Core.Bool.{Bool, true, false, ◌&&◌, and-false}
use mathlib.Core.List.{List, [], ◌∷◌, ◌++◌, append_assoc}
use mathlib.Core.Logic.{◌↔◌}
use Prim.Native.Nat.{ℕ, zero, suc, ◌+◌, ◌-◌, ◌*◌, ◌/◌, ◌^◌, ◌≤◌}
use native.Mathlib.Nat.{zero-add, two-pow-succ}
use native.Mathlib.Omega.{arith}
use lib.ListN.{length, length-append}
use lib.Bits.{bit_and, and_zero_r}
use Rattle.paths.specs.Path.{Step}
use Rattle.compiled.specs.Bits.{bit}
use Rattle.matcher.specs.Select.{Reaches, PassesName}
use Rattle.matcher.specs.Test.{lays, passes_name, selects}
use Rattle.matcher.specs.Picked.{odd}
use Rattle.matcher.specs.State.{flood, hits_of, nonzero}
use Rattle.matcher.proofs.Places.{lays_iff, passes_decides}
use Rattle.matcher.proofs.Digits.{and_bit}
use Rattle.matcher.proofs.Telling.{down_path, path_hits, Tells, ReachesAt, hits_told}

abbrev pub last_of : List Step → ℕ
last_of ss = 2 ^ (length ss - 1)

-- ---- on numbers

nonzero_even : (y : ℕ) → nonzero (2 * y) ≡ nonzero y
nonzero_even zero = refl
nonzero_even (suc y) = let z : 2 * suc y ≡ suc (suc (2 * y)) = omega arith in rw z

nonzero_bit : (b : Bool) → nonzero (bit (b && true) + 2 * 0) ≡ b
nonzero_bit true = refl
nonzero_bit false = refl

last_more : (k : ℕ) → 2 ^ (suc (suc k) - 1) ≡ bit false + 2 * 2 ^ (suc k - 1)
last_more k =
    let e : suc (suc k) - 1 ≡ suc k = omega arith in
    let e' : suc k - 1 ≡ k = omega arith in
    rw (e, e') (two-pow-succ k ∙ let z : 2 ^ k + 2 ^ k ≡ 0 + 2 * 2 ^ k = omega arith in z)

hit_one : (h : ℕ) → nonzero (bit_and h (bit true + 2 * 0)) ≡ odd h
hit_one h = ap nonzero (and_bit h true 0 ∙ ap (λ (z : ℕ). bit (odd h && true) + 2 * z) (and_zero_r (h / 2))) ∙ nonzero_bit (odd h)

hit_more : (h l : ℕ) → nonzero (bit_and h (bit false + 2 * l)) ≡ nonzero (bit_and (h / 2) l)
hit_more h l =
    ap nonzero (and_bit h false l ∙ ap (λ (b : Bool). bit b + 2 * bit_and (h / 2) l) (and-false (odd h)))
    ∙ ap nonzero (zero-add (2 * bit_and (h / 2) l))
    ∙ nonzero_even (bit_and (h / 2) l)

-- ---- the last step

same_bool : (a b : Bool) {P : Type 0} → ((a ≡ true) ↔ P) → (P ↔ (b ≡ true)) → a ≡ b
same_bool true true p q = refl
same_bool true false p q = sym (q.0 (p.0 refl))
same_bool false true p q = p.1 (q.1 refl)
same_bool false false p q = refl

module _ {A : Type 0} (Fits : Step → A → Type 0) (xs : List A) (k : ℕ) where
  last_reaches : (s : Step) (ss done : List Step) (h : ℕ) → Tells (ReachesAt Fits xs k) done (s ∷ ss) h
      → (nonzero (bit_and h (last_of (s ∷ ss))) ≡ true) ↔ Reaches Fits xs (done ++ s ∷ ss) k
  last_reaches s [] done h told =
      subst (λ (b : Bool). (b ≡ true) ↔ Reaches Fits xs (done ++ s ∷ []) k) (sym (hit_one h)) told.0
  last_reaches s (r ∷ ss) done h told =
      let e = ap (λ (z : ℕ). nonzero (bit_and h z)) (last_more (length ss)) ∙ hit_more h (last_of (r ∷ ss)) in
      subst (λ (b : Bool). (b ≡ true) ↔ Reaches Fits xs (done ++ s ∷ r ∷ ss) k) (sym e)
      (subst (λ (ts : List Step). (nonzero (bit_and (h / 2) (last_of (r ∷ ss))) ≡ true) ↔ Reaches Fits xs ts k)
      (append_assoc done (s ∷ []) (r ∷ ss))
      (last_reaches r ss (done ++ s ∷ []) (h / 2) told.1))

module _ {A : Type 0} (fits : Step → A → Bool) where
  pub lays_none : (above : List A) (n : A) → lays fits (above ++ n ∷ []) [] ≡ false
  lays_none [] n = refl
  lays_none (y ∷ above) n = refl

  hits_none : (above : List A) (n : A) → nonzero (bit_and (path_hits fits [] above n) 1) ≡ false
  unfolding hits_of flood
  hits_none above n = rw (and_zero_r (bit_and (down_path fits [] 1 above) 0))

module _ {A : Type 0} (Fits : Step → A → Type 0) (fits : Step → A → Bool)
    (decides : (s : Step) (x : A) → Fits s x ↔ (fits s x ≡ true)) where
  -- the matcher, at an element n below `above`, says whether the steps can be laid to it
  pub hits_lays : (ss : List Step) → length ss ≤ 16 → (above : List A) (n : A)
      → nonzero (bit_and (path_hits fits ss above n) (last_of ss)) ≡ lays fits (above ++ n ∷ []) ss
  hits_lays [] l above n = hits_none fits above n ∙ sym (lays_none fits above n)
  hits_lays (s ∷ ss) l above n =
      let xs = above ++ n ∷ [] in
      let h = path_hits fits (s ∷ ss) above n in
      let e : length above + 1 ≡ length xs = sym (length-append above (n ∷ [])) in
      same_bool (nonzero (bit_and h (last_of (s ∷ ss)))) (lays fits xs (s ∷ ss))
      (subst (λ (k : ℕ). (nonzero (bit_and h (last_of (s ∷ ss))) ≡ true) ↔ Reaches Fits xs (s ∷ ss) k) e
      (last_reaches Fits xs (length above + 1) s ss [] h (hits_told Fits fits decides (s ∷ ss) l above n)))
      (lays_iff Fits xs fits decides (s ∷ ss))

-- on names: the state that a path's bits come to through names, and what it tells of an element of name n below them
pub hit_selects : (ss : List Step) → length ss ≤ 16 → (names : List (List ℕ)) (n : List ℕ)
    → nonzero (bit_and (path_hits passes_name ss names n) (last_of ss)) ≡ selects ss (names ++ n ∷ [])
hit_selects = hits_lays PassesName passes_name passes_decides
