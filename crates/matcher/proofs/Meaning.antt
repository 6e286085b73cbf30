-- What the matcher says is what is meant. `says`, `says_only`: the verdict computed is the one that specs/Says.antt says, and no other is.
-- `told`, `told_only`: so is the verdict by an element's attributes and the paths that the state carried down to its parent and its fit
-- tell, for every sound list. Then where no look at attributes is needed for it.
use mathlib.Core.Path.{◌≡◌, refl, sym, ◌∙◌}
use mathlib.Core.Bool.{Bool, true, false, false≢true, ◌&&◌, ◌||◌}
use mathlib.Core.List.{List, [], ◌∷◌, ◌++◌}
use mathlib.Core.Logic.{◌↔◌}
use mathlib.Core.Option.{Option, none, some as just}
use Prim.Native.Nat.{ℕ}
use Rattle.std.specs.Prelude.{Ok}
use Rattle.xml.proofs.Bools.{and_left, and_right, and_both, or_left, or_right}
use Rattle.paths.specs.Path.{AttributeTest, Path}
use Rattle.paths.specs.Judge.{list_answer, list_paths}
use Rattle.attributes.specs.Attribute.{Attribute}
use Rattle.attributes.proofs.Has.{has_found, found_has}
use Rattle.compiled.proofs.OverLines.{sound_sized}
use Rattle.matcher.specs.Pick.{PassesTest, Picks, passes_test, picks}
use Rattle.matcher.specs.Says.{Some, this, later, BySome, ByMarked, Says, some, decided, verdict_of}
use Rattle.matcher.specs.Picked.{passing_of, picked_by, Untested}
use Rattle.matcher.specs.Fit.{fit_for}
use Rattle.matcher.specs.State.{state_of, verdict_by, selecting_by}
use Rattle.matcher.specs.declared.Verdict.{Verdict}
use Rattle.matcher.specs.declared.Verdict.TheVariants.{Unselected, Selected, Marked}
use Rattle.matcher.proofs.Places.{selects_iff}
use Rattle.matcher.proofs.Verdicts.{names_verdict, verdict_plain, selecting_are, picked_verdict, unselected_picked, untested_verdict}

-- ---- one of several

module _ {A : Type 0} (P : A → Type 0) (f : A → Bool) (same : (x : A) → P x ↔ (f x ≡ true)) where
  some_true : (xs : List A) → some f xs ≡ true → Some P xs
  some_true [] e = absurd (false≢true e)
  some_true (x ∷ xs) e = go (f x) refl e (some_true xs)
    where
      go : (b : Bool) → f x ≡ b → (b || some f xs) ≡ true → (some f xs ≡ true → Some P xs) → Some P (x ∷ xs)
      go true q e rest = this ((same x).1 q)
      go false q e rest = later (rest e)

  true_some : (xs : List A) → Some P xs → some f xs ≡ true
  true_some [] x' = elim x' [ ]
  true_some (x ∷ xs) (this h) = or_left (f x) (some f xs) ((same x).0 h)
  true_some (x ∷ xs) (later h) = or_right (f x) (some f xs) (true_some xs h)

-- ---- a path

both_iff : {P Q : Type 0} {a b : Bool} → P ↔ (a ≡ true) → Q ↔ (b ≡ true) → (Q × P) ↔ (a && b ≡ true)
both_iff {a = a} {b = b} p q =
    ((λ h. and_both a b (p.0 h.1) (q.0 h.0)), (λ e. (q.1 (and_right a b e), p.1 (and_left a b e))))

pub passes_iff : (t : Option AttributeTest) (xs : List Attribute) → PassesTest t xs ↔ (passes_test t xs ≡ true)
passes_iff none xs = ((λ h. refl), (λ e. tt))
passes_iff (just a) xs = (has_found a.name a.value, found_has a.name a.value xs)

pub picks_iff : (p : Path) (names : List (List ℕ)) (xs : List Attribute) → Picks p names xs ↔ (picks p names xs ≡ true)
picks_iff p names xs = both_iff (passes_iff p.test xs) (selects_iff p.steps names)

-- ---- the verdict

module _ (ps : List Path) (names : List (List ℕ)) (xs : List Attribute) where
  marked_iff : (p : Path) → ((p.marked ≡ true) × Picks p names xs) ↔ ((p.marked && picks p names xs) ≡ true)
  marked_iff p = (
    λ h. and_both p.marked (picks p names xs) h.0 ((picks_iff p names xs).0 h.1),
    λ e. (and_left p.marked _ e, (picks_iff p names xs).1 (and_right p.marked _ e)),
  )

  -- whether a marked path picks it, and whether any does
  abbrev by_marked : Bool
  by_marked = some (λ p. p.marked && picks p names xs) ps

  abbrev by_some : Bool
  by_some = some (λ p. picks p names xs) ps

  marked_true : by_marked ≡ true → ByMarked ps names xs
  marked_true = some_true _ (λ p. p.marked && picks p names xs) marked_iff ps

  true_marked : ByMarked ps names xs → by_marked ≡ true
  true_marked = true_some _ (λ p. p.marked && picks p names xs) marked_iff ps

  selected_true : by_some ≡ true → BySome ps names xs
  selected_true = some_true _ (λ p. picks p names xs) (λ p. picks_iff p names xs) ps

  true_selected : BySome ps names xs → by_some ≡ true
  true_selected = true_some _ (λ p. picks p names xs) (λ p. picks_iff p names xs) ps

  marked_some : {qs : List Path} → ByMarked qs names xs → BySome qs names xs
  marked_some (this h) = this h.1
  marked_some (later h) = later (marked_some h)

  pub says : Says ps names xs (verdict_of ps names xs)
  unfolding verdict_of
  says = go by_marked by_some refl refl
    where
      go : (b c : Bool) → by_marked ≡ b → by_some ≡ c → Says ps names xs (decided b c)
      go true c e q = marked_true e
      go false true e q = (selected_true q, λ h. false≢true (sym e ∙ true_marked h))
      go false false e q = λ h. false≢true (sym q ∙ true_selected h)

  pub says_only : (v : Verdict) → Says ps names xs v → v ≡ verdict_of ps names xs
  unfolding verdict_of
  says_only v h = go by_marked by_some refl refl v h
    where
      go : (b c : Bool) → by_marked ≡ b → by_some ≡ c → (v : Verdict) → Says ps names xs v → v ≡ decided b c
      go true c e q Marked h = refl
      go true c e q Selected h = absurd (h.1 (marked_true e))
      go true c e q Unselected h = absurd (h (marked_some (marked_true e)))
      go false c e q Marked h = absurd (false≢true (sym e ∙ true_marked h))
      go false true e q Selected h = refl
      go false true e q Unselected h = absurd (h (selected_true q))
      go false false e q Selected h = absurd (false≢true (sym q ∙ true_selected h.0))
      go false false e q Unselected h = refl

-- ---- by states and fits: `names` lead to the parent, n is the element's own name and xs are its attributes

module _ (d : List ℕ) (sound : list_answer d ≡ Ok tt) (names : List (List ℕ)) (n : List ℕ) (xs : List Attribute) where
  -- the verdict of which no attribute is looked at
  abbrev plain : Verdict
  plain = verdict_by (state_of (list_paths d) names) (fit_for (list_paths d) n)

  -- the verdict by the paths whose steps select the element and whose test it passes
  abbrev picked : Verdict
  picked =
      let f = fit_for (list_paths d) n in
      picked_by f (passing_of (list_paths d) (selecting_by (state_of (list_paths d) names) f) xs)

  pub verdict_told : picked ≡ verdict_of (list_paths d) (names ++ n ∷ []) xs
  verdict_told =
      let s = sound_sized d sound in
      picked_verdict (list_paths d) (names ++ n ∷ []) n xs (selecting_are (list_paths d) s.few s.short names n)

  pub told : Says (list_paths d) (names ++ n ∷ []) xs picked
  told = rw verdict_told (says (list_paths d) (names ++ n ∷ []) xs)

  pub told_only : (v : Verdict) → Says (list_paths d) (names ++ n ∷ []) xs v → v ≡ picked
  told_only v h = says_only (list_paths d) (names ++ n ∷ []) xs v h ∙ sym verdict_told

  plain_names : plain ≡ names_verdict (list_paths d) (names ++ n ∷ [])
  plain_names =
      let s = sound_sized d sound in
      verdict_plain (list_paths d) s.few s.short names n

  -- two ways to the verdict without them: no path's steps select the element; no path has a test
  pub unselected_told : plain ≡ Unselected → plain ≡ verdict_of (list_paths d) (names ++ n ∷ []) xs
  unselected_told e = e ∙ sym (unselected_picked (list_paths d) (names ++ n ∷ []) xs (sym plain_names ∙ e))

  pub untested_told : Untested (list_paths d) → plain ≡ verdict_of (list_paths d) (names ++ n ∷ []) xs
  untested_told u = plain_names ∙ sym (untested_verdict (list_paths d) (names ++ n ∷ []) xs u)
