-- A list that another covers says no more of any element, so the narrow cut of the wide cut is the narrow cut, with as many selected.
-- In order: what a path of the narrow list picks, a path of the wide one does; what is selected without attributes is selected with
-- them; verdicts; forests. Last, a list within another is covered by it, `within_covered`.
use mathlib.Core.Path.{◌≡◌}
use mathlib.Core.Bool.{true}
use mathlib.Core.List.{List, [], ◌∷◌}
use mathlib.Core.Option.{Option, none}
use Rattle.xml.specs.Forest.{Name, Forest}
use Rattle.attributes.specs.Attribute.{Attribute}
use Rattle.paths.specs.Path.{AttributeTest, Path, none as nil, more}
use Rattle.matcher.specs.Pick.{PassesTest, Picks}
use Rattle.matcher.specs.Says.{Some, this, later, BySome, ByMarked, Says, verdict_of}
use Rattle.matcher.specs.declared.Verdict.{Verdict}
use Rattle.matcher.specs.declared.Verdict.TheVariants.{Unselected, Selected, Marked}
use Rattle.matcher.proofs.Meaning.{says}
use Rattle.trees.specs.Cut.{count, cut}
use Rattle.trees.specs.Written.{root_first, verdicts}
use Rattle.trees.proofs.Same.{AtMost, Narrower, cut_narrow}
use Rattle.covers.specs.Cover.{StandsFor, Covered}
use Rattle.covers.proofs.Picking.{covers_picks, covers_same}
use Rattle.demands.specs.Within.{StandsAs, Within}
use Rattle.demands.proofs.Selected.{marked_some}

module _ (P : Path → Type 0) (covers : (p q : Path) → StandsFor p q → P p → P q) where
  covered : (p : Path) → P p → (ws : List Path) → Some (λ q. StandsFor p q) ws → Some P ws
  covered p h [] x' = elim x' [ ]
  covered p h (q ∷ ws) (this c) = this (covers p q c h)
  covered p h (q ∷ ws) (later s) = later (covered p h ws s)

  wider : (ns ws : List Path) → Covered ns ws → Some P ns → Some P ws
  wider [] ws _ x3 = elim x3 [ ]
  wider (p ∷ ns) ws (more s w) (this h) = covered p h ws s
  wider (p ∷ ns) ws (more s w) (later h) = wider ns ws w h

some_map : {A : Type 0} {P Q : A → Type 0} → ((x : A) → P x → Q x) → {xs : List A} → Some P xs → Some Q xs
some_map f (this {x = x} h) = this (f x h)
some_map f (later h) = later (some_map f h)

-- an element of more says: by both lists, or by one with and without attributes
module _ (ns ws : List Path) (names : List Name) (xs ys : List Attribute) (some_more : BySome ns names xs → BySome ws names ys)
    (marked_more : ByMarked ns names xs → ByMarked ws names ys) where
  at_most : AtMost (verdict_of ns names xs) (verdict_of ws names ys)
  at_most = go (verdict_of ns names xs) (verdict_of ws names ys) (says ns names xs) (says ws names ys)
    where
      go : (x y : Verdict) → Says ns names xs x → Says ws names ys y → AtMost x y
      go Unselected y h k = tt
      go Selected Unselected h k = k (some_more h.0)
      go Selected Selected h k = tt
      go Selected Marked h k = tt
      go Marked Unselected h k = k (some_more (marked_some h))
      go Marked Selected h k = k.1 (marked_more h)
      go Marked Marked h k = tt

-- ---- without attributes

passes_fewer : (t : Option AttributeTest) (xs : List Attribute) → PassesTest t [] → PassesTest t xs
passes_fewer (mathlib.Core.Option.some _) xs h = elim h [ ]
passes_fewer none xs h = tt

picks_fewer : (names : List Name) (xs : List Attribute) (p : Path) → Picks p names [] → Picks p names xs
picks_fewer names xs p h = (h.0, passes_fewer p.test xs h.1)

pub verdicts_fewer : (ps : List Path) (up : List Name) (xs : List Attribute) → AtMost (verdicts ps up []) (verdicts ps up xs)
unfolding verdicts
verdicts_fewer ps up xs =
    let names = root_first up in
    at_most ps ps names [] xs (some_map (picks_fewer names xs)) (some_map (λ p h. (h.0, picks_fewer names xs p h.1)))

-- ---- one list covered by the other

module _ (ns ws : List Path) (all : Covered ns ws) where
  pub covered_most : (names : List Name) (xs : List Attribute) → AtMost (verdict_of ns names xs) (verdict_of ws names xs)
  covered_most names xs =
      at_most ns ws names xs xs (wider (λ p. Picks p names xs) (λ p q c h. covers_picks q p c.covered names xs h) ns ws all)
      (wider (λ p. (p.marked ≡ true) × Picks p names xs)
      (λ p q c h. (c.marked_too h.0, covers_picks q p c.covered names xs h.1)) ns ws all)

  pub verdicts_at_most : (up : List Name) (xs : List Attribute) → AtMost (verdicts ns up xs) (verdicts ws up xs)
  unfolding verdicts
  verdicts_at_most up xs = covered_most (root_first up) xs

  verdicts_narrower : Narrower (verdicts ns) (verdicts ws)
  verdicts_narrower = record { most = verdicts_at_most; fewer = verdicts_fewer ns }

  pub narrow_cut : (f : Forest) → cut (verdicts ns) [] (cut (verdicts ws) [] f) ≡ cut (verdicts ns) [] f
  narrow_cut f = (cut_narrow (verdicts ns) (verdicts ws) verdicts_narrower [] f).cut_same

  pub narrow_count : (f : Forest) → count (verdicts ns) [] (cut (verdicts ws) [] f) ≡ count (verdicts ns) [] f
  narrow_count f = (cut_narrow (verdicts ns) (verdicts ws) verdicts_narrower [] f).count_same

-- ---- one list within the other

stands_covered : (p q : Path) → StandsAs p q → StandsFor p q
stands_covered p q s = record { covered = covers_same q p s.steps_same s.test_same; marked_too = s.marked_too }

pub within_covered : {ws ns : List Path} → Within ns ws → Covered ns ws
within_covered nil = nil
within_covered (more {x = p} s w) = more (some_map (stands_covered p) s) (within_covered w)

pub within_most : (ns ws : List Path) → Within ns ws → (names : List Name) (xs : List Attribute)
    → AtMost (verdict_of ns names xs) (verdict_of ws names xs)
within_most ns ws w = covered_most ns ws (within_covered w)
