-- The test decides the definition, `lays_iff` and on names `selects_iff`: places can be chosen exactly where the test holds. The list stays
-- as it is, and the test is at what is left of it behind a place. In order: at the same place; the places below; all.
use mathlib.Core.Path.{◌≡◌, refl, sym, ap, ◌∙◌, subst}
use mathlib.Core.Bool.{Bool, true, false, false≢true, true≢false, ◌&&◌, ◌||◌}
use mathlib.Core.List.{List, [], ◌∷◌, ◌++◌, append_assoc, append-nil}
use mathlib.Core.Logic.{◌↔◌, ◌⊎◌, inl, inr}
use Prim.Native.Nat.{ℕ, zero, suc, ◌+◌, ◌-◌, ◌≤◌, ◌<◌}
use native.Mathlib.Omega.{arith}
use lib.ListN.{length, length-append}
use Rattle.xml.proofs.Bools.{and_left, and_right, and_both, or_left, or_right, or_either}
use Rattle.xml.proofs.Same.{same_equal, same_refl}
use Rattle.paths.specs.Path.{Test, any, named, Step}
use Rattle.compiled.specs.Kinds.{stays, goes, far}
use Rattle.compiled.specs.Bits.{passes}
use Rattle.matcher.specs.Select.{At, root, under, Stands, Laid, all, next, Reaches, Passes, PassesName, Selects}
use Rattle.matcher.specs.Moves.{Moves, same, down}
use Rattle.matcher.specs.Test.{staying, lays, passes_name, selects}
use Rattle.matcher.proofs.Moving.{below_moves}
use Rattle.matcher.proofs.Laying.{at_positive, at_behind, at_one}

-- ---- tests of a name

passes_true : (x : Test) (n : List ℕ) → passes n x ≡ true → Passes x n
passes_true any n e = tt
passes_true (named m) n e = same_equal m n e

true-passes : (x : Test) (n : List ℕ) → Passes x n → passes n x ≡ true
true-passes any n h = refl
true-passes (named m) n h = rw h (same_refl n)

pub passes_decides : (s : Step) (n : List ℕ) → PassesName s n ↔ (passes_name s n ≡ true)
passes_decides s n = (true-passes s.test n, passes_true s.test n)

-- ---- places

at_inside : {A : Type 0} {xs : List A} {p : ℕ} {x : A} → At xs p x → p ≤ length xs
at_inside root = omega arith
at_inside (under a) = let z = at_inside a in omega arith

split : (k p : ℕ) → k < p → (p ≡ k + 1) ⊎ (k + 1 < p)
split k p l = go (p - (k + 1)) refl
  where
    go : (d : ℕ) → p - (k + 1) ≡ d → (p ≡ k + 1) ⊎ (k + 1 < p)
    go zero e = inl (omega arith)
    go (suc d) e = inr (omega arith)

module _ {A : Type 0} (Fits : Step → A → Type 0) (xs : List A) where
  laid_end : {b e : ℕ} {ps : List ℕ} → Laid Fits xs b [] ps e → b ≡ e
  laid_end all = refl

  -- the steps can be laid to the end, where the step before stands at k
  abbrev From : ℕ → List Step → Type 0
  From k ss = (ps : List ℕ) × Laid Fits xs k ss ps (length xs)

  -- and the first of them below k
  record Lower (k : ℕ) (s : Step) (ss : List Step) : Type 0 where
    place : ℕ
    may : goes s.kind ≡ true
    lower : k < place
    near : far s.kind ≡ false → place ≡ k + 1
    what : A
    there : At xs place what
    fits : Fits s what
    rest : From place ss

  abbrev Under : ℕ → List Step → Type 0
  Under k [] = k ≡ length xs
  Under k (s ∷ ss) = Lower k s ss

  from_none : (k : ℕ) → Under k [] ↔ From k []
  from_none k = (λ e. ([], subst (λ (u : ℕ). Laid Fits xs k [] [] u) e all), λ r. laid_end r.1)

  from_lower : (k : ℕ) (s : Step) (ss : List Step) → Lower k s ss → From k (s ∷ ss)
  from_lower k s ss r = (
    r.place ∷ r.rest.0,
    next
        (record {
          below = (below_moves s.kind k r.place).1 (down r.may r.lower r.near);
          what = r.what;
          there = r.there;
          fits = r.fits;
        })
        r.rest.1,
  )

  -- a step stands: it has not moved, or it has gone below
  from_moves : (C : Type 0) (k : ℕ) (s : Step) (ss : List Step)
      → ((h : Stands Fits xs k s k) → stays s.kind ≡ true → 0 < k → From k ss → C) → (Lower k s ss → C) → From k (s ∷ ss) → C
  from_moves C k s ss stay go ([], x) = elim x [ ]
  from_moves C k s ss stay go (p ∷ ps, next h l) = step p h ((below_moves s.kind k p).0 h.below) (ps, l)
    where
      step : (p : ℕ) → Stands Fits xs k s p → Moves (stays s.kind) (goes s.kind) (far s.kind) k p → From p ss → C
      step p h (same q e z) r =
          stay (subst (Stands Fits xs k s) e h) q (omega arith) (subst (λ (u : ℕ). From u ss) e r)
      step p h (down q l n) r =
          go (record { place = p; may = q; lower = l; near = n; what = h.what; there = h.there; fits = h.fits; rest = r })

  module _ (test : Step → A → Bool) (decides : (s : Step) (x : A) → Fits s x ↔ (test s x ≡ true)) where
    -- ---- at the same place

    module _ (k : ℕ) (n : A) (here : At xs k n) (f : List Step → Bool) (behind : (ss : List Step) → (f ss ≡ true) ↔ Under k ss) where
      stay_lays : (ss : List Step) → (staying test n f ss ≡ true) ↔ From k ss
      stay_lays [] = (λ e. (from_none k).0 ((behind []).0 e), λ r. (behind []).1 ((from_none k).1 r))
      stay_lays (s ∷ ss) = go (staying test n f ss) (stay_lays ss)
        where
          go : (b : Bool) → ((b ≡ true) ↔ From k ss)
              → ((stays s.kind && (test s n && b)) || f (s ∷ ss) ≡ true) ↔ From k (s ∷ ss)
          go b same_place = (λ e. into (or_either (stays s.kind && (test s n && b)) (f (s ∷ ss)) e), from_moves _ k s ss stay below)
            where
              into : ((stays s.kind && (test s n && b)) ≡ true) ⊎ (f (s ∷ ss) ≡ true) → From k (s ∷ ss)
              into (inl e) =
                  let w = and_right (stays s.kind) (test s n && b) e in
                  let r = same_place.0 (and_right (test s n) b w) in
                  let m = same (and_left (stays s.kind) (test s n && b) e) refl (at_positive here) in (
                    k ∷ r.0,
                    next
                        (record {
                          below = (below_moves s.kind k k).1 m;
                          what = n;
                          there = here;
                          fits = (decides s n).1 (and_left (test s n) b w);
                        })
                        r.1,
                  )
              into (inr e) = from_lower k s ss ((behind (s ∷ ss)).0 e)

              stay : (h : Stands Fits xs k s k) → stays s.kind ≡ true → 0 < k → From k ss
                  → (stays s.kind && (test s n && b)) || f (s ∷ ss) ≡ true
              stay h q z r =
                  let v = (decides s n).0 (subst (Fits s) (at_one h.there here refl) h.fits) in
                  or_left (stays s.kind && (test s n && b)) (f (s ∷ ss))
                  (and_both (stays s.kind) (test s n && b) q (and_both (test s n) b v (same_place.1 r)))

              below : Lower k s ss → (stays s.kind && (test s n && b)) || f (s ∷ ss) ≡ true
              below r = or_right (stays s.kind && (test s n && b)) (f (s ∷ ss)) ((behind (s ∷ ss)).1 r)

    -- ---- the places below

    module _ (k : ℕ) (n : A) (here : At xs (k + 1) n) (s : Step) (ss : List Step) (b c : Bool)
        (first : (b ≡ true) ↔ From (k + 1) ss) (further : (c ≡ true) ↔ Under (k + 1) (s ∷ ss)) where
      into_lower : goes s.kind ≡ true → ((test s n && b) ≡ true) ⊎ ((far s.kind && c) ≡ true) → Lower k s ss
      into_lower g (inl e) =
          record {
            place = k + 1;
            may = g;
            lower = omega arith;
            near = λ q. refl;
            what = n;
            there = here;
            fits = (decides s n).1 (and_left (test s n) b e);
            rest = first.0 (and_right (test s n) b e);
          }
      into_lower g (inr e) =
          let r = further.0 (and_right (far s.kind) c e) in
          let l = r.lower in
          record {
            place = r.place;
            may = g;
            lower = omega arith;
            near = λ q. absurd (true≢false (sym (and_left (far s.kind) c e) ∙ q));
            what = r.what;
            there = r.there;
            fits = r.fits;
            rest = r.rest;
          }

      from_there : (r : Lower k s ss) → (r.place ≡ k + 1) ⊎ (k + 1 < r.place) → (test s n && b) || (far s.kind && c) ≡ true
      from_there r (inl e) =
          let v = (decides s n).0 (subst (Fits s) (at_one r.there here e) r.fits) in
          or_left (test s n && b) (far s.kind && c)
          (and_both (test s n) b v (first.1 (subst (λ (u : ℕ). From u ss) e r.rest)))
      from_there r (inr l) =
          let w = wide (far s.kind) refl in
          or_right (test s n && b) (far s.kind && c)
          (and_both (far s.kind) c w
          (further.1
          (record {
            place = r.place;
            may = r.may;
            lower = l;
            near = λ q. absurd (true≢false (sym w ∙ q));
            what = r.what;
            there = r.there;
            fits = r.fits;
            rest = r.rest;
          })))
        where
          wide : (f : Bool) → far s.kind ≡ f → f ≡ true
          wide true q = refl
          wide false q = absurd (let z = r.near q in omega arith)

      lower_iff : (goes s.kind && ((test s n && b) || (far s.kind && c)) ≡ true) ↔ Lower k s ss
      lower_iff = (
        λ e. into_lower (and_left (goes s.kind) _ e)
            (or_either (test s n && b) (far s.kind && c) (and_right (goes s.kind) _ e)),
        λ r. and_both (goes s.kind) ((test s n && b) || (far s.kind && c)) r.may
            (from_there r (split k r.place r.lower)),
      )

    under_iff : (ys zs : List A) → xs ≡ zs ++ ys → (k : ℕ) → k ≡ length zs → (ss : List Step) → (lays test ys ss ≡ true) ↔ Under k ss
    under_iff [] zs e k p [] = (λ q. p ∙ sym (ap length (e ∙ append-nil zs)), λ q. refl)
    under_iff [] zs e k p (s ∷ ss) = (
      λ q. absurd (false≢true q),
      λ r. absurd (let z = at_inside r.there in let y : length xs ≡ k = ap length (e ∙ append-nil zs) ∙ sym p in
          let x = r.lower in omega arith),
    )
    under_iff (y ∷ ys) zs e k p [] = (
      λ q. absurd (false≢true q),
      λ q. absurd (let z : length xs ≡ length zs + length (y ∷ ys) = ap length e ∙ length-append zs (y ∷ ys) in omega arith),
    )
    under_iff (y ∷ ys) zs e k p (s ∷ ss) =
        let here : At xs (k + 1) y = rw (e, p) (at_behind zs y ys) in
        let far_on = under_iff ys (zs ++ y ∷ []) (e ∙ sym (append_assoc zs (y ∷ []) ys)) (k + 1)
        (rw (length-append zs (y ∷ [])) (omega arith)) in
        lower_iff k y here s ss (staying test y (lays test ys) ss) (lays test ys (s ∷ ss))
        (stay_lays (k + 1) y here (lays test ys) far_on ss) (far_on (s ∷ ss))

    -- ---- all

    from_first : (ss : List Step) → Under 0 ss ↔ From 0 ss
    from_first [] = from_none 0
    from_first (s ∷ ss) = (from_lower 0 s ss, from_moves (Lower 0 s ss) 0 s ss (λ h q z r. absurd (omega arith)) (λ r. r))

    pub lays_iff : (ss : List Step) → Reaches Fits xs ss (length xs) ↔ (lays test xs ss ≡ true)
    lays_iff ss =
        let u = under_iff xs [] refl 0 refl ss in
        (λ r. u.1 ((from_first ss).1 r), λ e. (from_first ss).0 (u.0 e))

pub selects_iff : (ss : List Step) (names : List (List ℕ)) → Selects ss names ↔ (selects ss names ≡ true)
selects_iff ss names = lays_iff PassesName names passes_name passes_decides ss
