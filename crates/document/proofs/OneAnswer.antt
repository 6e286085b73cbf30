-- Two results that a public function's contract allows are equal: one theorem for each function, over the contract that the toolchain makes
-- of the source. `keep` is lent two arrays that it changes and answers nothing: what it hands back is the arrays.
use mathlib.Core.Path.{refl, sym, ◌∙◌}
use mathlib.Core.List.{List}
use Prim.Native.Nat.{ℕ}
use Rattle.contracts.specs.One.{OneResult, OneOutcome}
use Rattle.document.proofs.place.place.Reads as place
use Rattle.document.proofs.place.keep.Reads as keep
use Rattle.document.proofs.place.end_of.Reads as end_of_lem
use Rattle.document.proofs.Open.none.Reads as none
use Rattle.document.proofs.Open.after.Reads as after
use Rattle.document.proofs.judge.start_of.Reads as start_of_lem
use Rattle.document.proofs.judge.judge.Reads as judge

-- `place::place`
pub place_one : OneResult place.Asked place.Learnt
place_one κs a z z' e e' x p q = p ∙ sym q

-- `place::keep`: the places and the lengths of the names
pub keep_one : OneOutcome keep.Asked keep.Learnt {S = List ℕ × List ℕ} (λ κs e. (e.0.now, e.1.0.now))
keep_one κs a z z' e e' x p q = (refl, cc)

-- `place::end_of`
pub end_of_one : OneResult end_of_lem.Asked end_of_lem.Learnt
end_of_one κs a z z' e e' x p q = p ∙ sym q

-- `Open::none`
pub none_one : OneResult none.Asked none.Learnt
none_one κs a z z' e e' x p q = p ∙ sym q

-- `Open::after`
pub after_one : OneResult after.Asked after.Learnt
after_one κs a z z' e e' x p q = p ∙ sym q

-- `judge::start_of`
pub start_of_one : OneResult start_of_lem.Asked start_of_lem.Learnt
start_of_one κs a z z' e e' x p q = p ∙ sym q

-- `judge::judge`
pub judge_one : OneResult judge.Asked judge.Learnt
judge_one κs a z z' e e' x p q = p ∙ sym q
