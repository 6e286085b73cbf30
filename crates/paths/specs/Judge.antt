-- The answer on a list, and its paths, as executable definitions. In order: sizes; the lines that are sound, from the first on; the answer.
-- proofs/Meaning.antt shows that the answer is the one that specs/Answer.antt says.
use Rattle.std.specs.Prelude.{Bool, true, cond, ◌&&◌, List, [], ◌∷◌, ℕ, ◌+◌, ltb, leb, length, Result, Ok, Err}
use Rattle.std.proofs.Math.Option.{Option, none, some}
use Rattle.paths.specs.Path.{Step, AttributeTest, Path, test_size, print_line}
use Rattle.paths.specs.Reader.{Run, read_all, line_at}
use Rattle.paths.specs.declared.ListError.{ListError}
use Rattle.paths.specs.declared.ListError.TheVariants.{TooLong, Malformed, TooLarge}

abbrev pub small_names : List Step → Bool
small_names [] = true
small_names (x ∷ xs) = leb (test_size x.test) 255 && small_names xs

abbrev pub small_test : Option AttributeTest → Bool
small_test none = true
small_test (some x) = leb (length x.name) 255 && leb (length x.value) 255

unfoldable pub within : Path → Bool
within p = leb (length p.steps) 16 && (small_names p.steps && small_test p.test)

-- a line that is neither malformed nor too large
abbrev pub small_only : Option Path → Option Path
small_only none = none
small_only (some p) = cond (within p) (some p) none

unfoldable pub sound_at : List ℕ → Option Path
sound_at s = small_only (line_at s)

unfoldable pub lines : List ℕ → Run Path
lines = read_all print_line sound_at 0

-- what is said of line n, which is not sound
abbrev pub fault_of : Option Path → ℕ → ListError
fault_of none n = Malformed n
fault_of (some p) n = TooLarge n

-- n sound lines, at most 32, and what is left
abbrev pub judge_rest : List ℕ → ℕ → Result (Unit {0}) ListError
judge_rest [] n = Ok tt
judge_rest (b ∷ s) n = Err (cond (leb 32 n) (TooLarge 33) (fault_of (line_at (b ∷ s)) (n + 1)))

unfoldable pub judge : Run Path → Result (Unit {0}) ListError
judge r = cond (ltb 32 (length r.all)) (Err (TooLarge 33)) (judge_rest r.rest (length r.all))

unfoldable pub list_answer : List ℕ → Result (Unit {0}) ListError
list_answer s = cond (ltb 8192 (length s)) (Err TooLong) (judge (lines s))

-- the paths of a sound list; none where it is refused
abbrev pub paths_by : Result (Unit {0}) ListError → List Path → List Path
paths_by (Ok u) ps = ps
paths_by (Err e) ps = []

unfoldable pub list_paths : List ℕ → List Path
list_paths s = paths_by (list_answer s) (lines s).all
