-- Where the reading of a sound list is: at a path;
-- at a path's line, with the tables of the paths before; and after the line's steps.
use Rattle.std.specs.Prelude.{◌≡◌, false, List, [], ◌∷◌, ◌++◌, ℕ, zero, suc, ◌+◌, length, Option, None, Some, Ok}
use Rattle.paths.specs.Path.{Path, print_step, print_all, print_list}
use Rattle.paths.specs.Judge.{list_answer, list_paths}
use Rattle.paths.specs.declared.LineEnd.{LineEnd}
use Rattle.compiled.specs.Kinds.{stays, goes, far}
use Rattle.compiled.specs.Bits.{step_bits, last_bit}
use Rattle.compiled.specs.Built.{Built}
use Rattle.compiled.specs.declared.build.Line.{Line}
use Rattle.compiled.specs.declared.build.Tail.{Tail}

-- path p of a sound list
pub record AtPath (d : List ℕ) (p : ℕ) : Type 0 where
  pub sound : list_answer d ≡ Ok tt
  pub done : List Path
  pub path : Path
  pub rest : List Path
  pub all : list_paths d ≡ done ++ path ∷ rest
  pub p_is : p ≡ length done

-- its line begins at the place
pub record AtLine (d at len head next rows : List ℕ) (names p place : ℕ) : Type 0 where
  pub here : AtPath d p
  pub place_is : place ≡ length (print_list here.done)
  pub built : Built d at len head next rows names here.done

-- its steps are entered
pub record LineDone (d at len head next rows : List ℕ) (p : ℕ) (r : Line) : Type 0 where
  pub here : AtPath d p
  pub built : Built d at len head next rows r.names (here.done ++ here.path ∷ [])
  pub end_is : r.end ≡ length (print_list here.done) + length (print_all print_step here.path.steps)
  pub last_is : r.last ≡ last_bit here.path
  pub stays_is : r.stays ≡ step_bits (λ s. stays s.kind) here.path
  pub goes_is : r.goes ≡ step_bits (λ s. goes s.kind) here.path
  pub far_is : r.far ≡ step_bits (λ s. far s.kind) here.path

-- a line's end: the place of its test's name, its mark, and the next line's place; at no line's end no test, no mark and the place itself
abbrev pub tail_of : Option LineEnd → ℕ → Tail
tail_of (Some y) at = record { test = y.name; marked = y.marked; next = y.next }
tail_of None at = record { test = 0; marked = false; next = at }

-- a place, if there is a test, whose name is nowhere at 0
abbrev pub if_tested : ℕ → ℕ → ℕ
if_tested zero place = 0
if_tested (suc name) place = place
