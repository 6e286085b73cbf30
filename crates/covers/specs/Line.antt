-- What the code knows of a line of a list, by places: where its steps end, what stands at its end, and of which path it is. Last the lines
-- of a list, as many as it has paths.
use Rattle.std.specs.Prelude.{◌≡◌, Bool, cond, List, [], ◌∷◌, ◌++◌, ℕ, ◌+◌, ◌-◌, ◌≤◌, eqb, length, take, drop}
use Rattle.std.proofs.Math.Option.{some}
use Rattle.paths.specs.Path.{Path, print_step, print_all, print_attribute, IsPath}
use Rattle.paths.specs.Reader.{steps, Ending, print_end, end_at}
use Rattle.paths.specs.Judge.{list_paths}
use Rattle.covers.specs.Cover.{plain}
use Rattle.covers.specs.declared.line.Line.{Line}

-- where the steps of the line at a place end, and whether they are plain
pub record StepsAre (d : List ℕ) (at end : ℕ) (is_plain : Bool) : Type 0 where
  pub plain_is : is_plain ≡ plain (steps (drop at d)).all
  pub rest_is : (steps (drop at d)).rest ≡ drop end d
  pub begun : at ≤ end
  pub inside : end ≤ length d

-- where a test ends whose value has `size` bytes at the place `value`; there is none where its name has no byte
abbrev pub test_end : ℕ → ℕ → ℕ → ℕ → ℕ
test_end at len value size = cond (eqb len 0) at (value + size + 2)

-- what stands behind the steps of a line
pub record TailIs (r : Line) (e : Ending) : Type 0 where
  pub end_is : r.end ≡ r.steps + length (print_attribute e.test)
  pub next_is : r.next ≡ r.steps + length (print_end e)
  pub marked_is : r.marked ≡ e.marked

pub record LineIs (d : List ℕ) (at : ℕ) (r : Line) : Type 0 where
  pub from_is : r.from ≡ at
  pub steps_are : StepsAre d at r.steps r.plain
  pub tail : (e : Ending) → end_at (drop r.steps d) ≡ some e → TailIs r e

-- its places are in order and in the list
pub record Inside (d : List ℕ) (r : Line) : Type 0 where
  pub begun : r.from ≤ r.steps
  pub tested : r.steps ≤ r.end
  pub inside : r.end ≤ length d

-- a path without its mark
abbrev pub body : Path → List ℕ
body p = print_all print_step p.steps ++ print_attribute p.test

-- what stands from one place to another
abbrev pub part : List ℕ → ℕ → ℕ → List ℕ
part d from end = take (end - from) (drop from d)

-- the line is that of the path p
pub record LineOf (d : List ℕ) (r : Line) (p : Path) : Type 0 where
  pub is : IsPath p
  pub within : Inside d r
  pub plain_is : r.plain ≡ plain p.steps
  pub marked_is : r.marked ≡ p.marked
  pub body_is : part d r.from r.end ≡ body p
  pub test_is : part d r.steps r.end ≡ print_attribute p.test

-- one by one
pub data Each {A B : Type 0} (R : A → B → Type 0) : List A → List B → Type 0 where
  none : Each R [] []
  more : {x : A} {y : B} {xs : List A} {ys : List B} → R x y → Each R xs ys → Each R (x ∷ xs) (y ∷ ys)

-- the first `count` lines are those of the list's paths
pub record Lined (d : List ℕ) (all : List Line) (count : ℕ) : Type 0 where
  pub long : length all ≡ 32
  pub few : count ≤ 32
  pub each : Each (LineOf d) (take count all) (list_paths d)
