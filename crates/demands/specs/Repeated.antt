-- What is said of repeated lines is said with: a path that stands in a list, and all paths of a list in another; a list with one line
-- more; two lists that have the same outcome. The theorems are in proofs/Repeated.antt.
use Rattle.std.specs.Prelude.{◌≡◌, List, ◌++◌, ℕ, Result}
use Rattle.paths.specs.Path.{Path, All, print_line, print_list}
use Rattle.matcher.specs.Says.{Some}
use Rattle.cutter.specs.Answer.{answer_of, bytes_after, number_of, second_of, third_of}
use Rattle.cutter.specs.declared.answer.Cut.{Cut}
use Rattle.refusals.specs.declared.CutError.{CutError}

abbrev pub Stands : Path → List Path → Type 0
Stands p ps = Some (λ q. q ≡ p) ps

-- each path of the first list stands in the second
abbrev pub AllStand : List Path → List Path → Type 0
AllStand ps qs = All (λ p. Stands p qs) ps

-- the lines of `xs`, a line p, the lines of `ys`
abbrev pub with_line : List Path → Path → List Path → List ℕ
with_line xs p ys = print_list xs ++ print_line p ++ print_list ys

-- two answers have the same three numbers. Name tests are counted for each line, so a line more may add to the fourth
pub record SameNumbers (a b : Result Cut CutError) : Type 0 where
  pub number_same : number_of a ≡ number_of b
  pub second_same : second_of a ≡ second_of b
  pub third_same : third_of a ≡ third_of b

-- two lists give the same numbers, and leave the same bytes, for every document and every buffer
pub record SameOutcome (list list' : List ℕ) : Type 0 where
  pub answer_same : (d : List ℕ) (room : ℕ) → SameNumbers (answer_of list d room) (answer_of list' d room)
  pub bytes_same : (d o : List ℕ) → bytes_after list d o ≡ bytes_after list' d o
