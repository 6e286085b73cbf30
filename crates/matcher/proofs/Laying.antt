-- Places, laid step by step: what stands at a place;
-- steps and one more after them; no step takes place 0.
use mathlib.Core.Path.{◌≡◌, refl}
use mathlib.Core.List.{List, [], ◌∷◌, ◌++◌}
use Prim.Native.Nat.{ℕ, suc, ◌+◌, ◌<◌}
use native.Mathlib.Omega.{arith}
use lib.ListN.{length}
use Rattle.paths.specs.Path.{Step}
use Rattle.matcher.specs.Select.{At, root, under, Stands, Laid, all, next, Reaches}

module _ {A : Type 0} where
  pub at_positive : {xs : List A} {p : ℕ} {x : A} → At xs p x → 0 < p
  at_positive root = omega arith
  at_positive (under a) = omega arith

  -- what stands behind others
  pub at_behind : (ys : List A) (x : A) (zs : List A) → At (ys ++ x ∷ zs) (length ys + 1) x
  at_behind [] x zs = root
  at_behind (y ∷ ys) x zs = let e : suc (length ys) + 1 ≡ (length ys + 1) + 1 = omega arith in rw e (under (at_behind ys x zs))

  -- one thing stands at a place
  pub at_one : {xs : List A} {p q : ℕ} {x y : A} → At xs p x → At xs q y → p ≡ q → x ≡ y
  at_one root root e = refl
  at_one root (under b) e = absurd (let z = at_positive b in omega arith)
  at_one (under a) root e = absurd (let z = at_positive a in omega arith)
  at_one (under a) (under b) e = at_one a b (omega arith)

module _ {A : Type 0} (Fits : Step → A → Type 0) (xs : List A) where
  laid_snoc : {b p e : ℕ} {ss : List Step} {ps : List ℕ} {s : Step} → Laid Fits xs b ss ps e → Stands Fits xs e s p
      → Laid Fits xs b (ss ++ s ∷ []) (ps ++ p ∷ []) p
  laid_snoc all h = next h all
  laid_snoc (next k l) h = next k (laid_snoc l h)

  laid_last : (ss : List Step) (s : Step) {b e : ℕ} {ps : List ℕ} → Laid Fits xs b (ss ++ s ∷ []) ps e
      → (m : ℕ) × ((qs : List ℕ) × Laid Fits xs b ss qs m) × Stands Fits xs m s e
  laid_last [] s {b} (next h all) = (b, ([], all), h)
  laid_last (t ∷ ss) s (next {place = p} h l) =
      let r = laid_last ss s l in
      (r.0, (p ∷ r.1.0, next h r.1.1), r.2)

  -- steps and one more: the others reach a place, and it stands from there
  pub reach_more : (ss : List Step) (s : Step) {b p : ℕ} → Reaches Fits xs ss b → Stands Fits xs b s p → Reaches Fits xs (ss ++ s ∷ []) p
  reach_more ss s {b} {p} r h = (r.0 ++ p ∷ [], laid_snoc r.1 h)

  pub reach_last : (ss : List Step) (s : Step) {p : ℕ} → Reaches Fits xs (ss ++ s ∷ []) p
      → (b : ℕ) × Reaches Fits xs ss b × Stands Fits xs b s p
  reach_last ss s r = laid_last ss s r.1

  -- no step takes place 0, and no steps stay before the first
  pub reach_zero : (ss : List Step) (s : Step) → Reaches Fits xs (ss ++ s ∷ []) 0 → ⊥
  reach_zero ss s r = let z = at_positive (reach_last ss s r).2.there in omega arith

  pub reach_none : {p : ℕ} → Reaches Fits xs [] p → p ≡ 0
  reach_none {p = p} (_ ∷ _, x) = elim x [ ]
  reach_none ([], all) = refl
