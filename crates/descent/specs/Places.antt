-- "At each element it tries the places of every path from the top, with no state kept": the places that a step can have, from those that
-- the step before it can have. Place 0 stands before the root, place p + 1 is the level p of the names that are kept. In order: where a
-- step may stand; the test of a name; one step; the places of some steps. proofs/Examples.antt has a path worked through.
use Rattle.std.specs.Prelude.{◌≡◌, Bool, true, false, cond, ◌&&◌, ◌||◌, List, ◌↔◌, ℕ, zero, suc, ◌+◌, ◌≤◌, ◌<◌, eqb, length, get_or}
use Rattle.xml.specs.Productions.{same}
use Rattle.paths.specs.Path.{Step}
use Rattle.paths.specs.declared.Kind.{Kind}
use Rattle.tags.specs.Kept.{name_from}
use Rattle.compiled.specs.Kinds.{stays, goes, far}
use Rattle.matcher.specs.Select.{Reaches, PassesName}

-- by whether the step before can stand right above a place, anywhere above it, and there
unfoldable pub may_stand : Kind → Bool → Bool → Bool → Bool
may_stand k right above there = (stays k && there) || (goes k && cond (far k) above right)

-- the test of len bytes at a place of the list, 0 for `*`, on a name
abbrev pub passes_by : List ℕ → ℕ → ℕ → List ℕ → Bool
passes_by list test len n = cond (eqb len 0) true (same (name_from list test len) n)

-- whether one of the places up to p is among some
abbrev pub some_up_to : List Bool → ℕ → Bool
some_up_to can zero = get_or can zero false
some_up_to can (suc p) = some_up_to can p || get_or can (suc p) false

-- the name at the level p
abbrev pub name_at : List ℕ → List ℕ → List ℕ → ℕ → List ℕ
name_at d starts lens p = name_from d (get_or starts p 0) (get_or lens p 0)

-- whether a step can have the place p + 1, where the step before can have those of `can`
abbrev pub can_stand : Kind → (List ℕ → Bool) → (ℕ → List ℕ) → List Bool → ℕ → Bool
can_stand k passes name can p =
    may_stand k (get_or can p false) (some_up_to can p) (get_or can (p + 1) false) && passes (name p)

-- one step: no step takes place 0
pub record Stepped (k : Kind) (passes : List ℕ → Bool) (name : ℕ → List ℕ) (level : ℕ) (can can' : List Bool) : Type 0 where
  pub long : length can' ≡ length can
  pub none : get_or can' 0 false ≡ false
  pub each : (p : ℕ) → p < level → get_or can' (p + 1) false ≡ can_stand k passes name can p

-- the names of so many levels are inside the document, 64 at most
pub record Inside (d starts lens : List ℕ) (level : ℕ) : Type 0 where
  pub deep : level ≤ 64
  pub starts_long : length starts ≡ 64
  pub lens_long : length lens ≡ 64
  pub inside : (i : ℕ) → i < level → get_or starts i 0 + get_or lens i 0 ≤ length d

-- the last of these steps can have just the places of `can`, on these names
pub record Can (names : List (List ℕ)) (level : ℕ) (ss : List Step) (can : List Bool) : Type 0 where
  pub long : length can ≡ 65
  pub each : (p : ℕ) → p ≤ level → (get_or can p false ≡ true) ↔ Reaches PassesName names ss p
