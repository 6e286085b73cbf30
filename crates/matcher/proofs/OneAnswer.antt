-- Two results that a public function's contract allows are equal: one theorem for each function, over the contract that the toolchain makes
-- of the source. What is lent to the functions of `fit` cannot be changed by them, and the others are lent nothing.
use mathlib.Core.Path.{sym, ◌∙◌}
use Rattle.contracts.specs.One.{OneResult}
use Rattle.matcher.proofs.fit.row_of.Reads as row_of
use Rattle.matcher.proofs.fit.fit_by.Reads as fit_by_lem
use Rattle.matcher.proofs.fit.fit_of.Reads as fit_of
use Rattle.matcher.proofs.fit.Fit.verdict_of.Reads as verdict_of_lem
use Rattle.matcher.proofs.state.MatchState.fresh.Reads as fresh
use Rattle.matcher.proofs.state.MatchState.same.Reads as same_state
use Rattle.matcher.proofs.state.MatchState.deeper.Reads as deeper
use Rattle.matcher.proofs.state.MatchState.verdict_on.Reads as verdict_on
use Rattle.matcher.proofs.state.MatchState.selecting.Reads as selecting
use Rattle.matcher.proofs.state.MatchState.tests_on.Reads as tests_on

-- `fit::row_of`
pub row_of_one : OneResult row_of.Asked row_of.Learnt
row_of_one κs a z z' e e' x p q = p ∙ sym q

-- `fit::fit_by`
pub fit_by_one : OneResult fit_by_lem.Asked fit_by_lem.Learnt
fit_by_one κs a z z' e e' x p q = p ∙ sym q

-- `fit::fit_of`
pub fit_of_one : OneResult fit_of.Asked fit_of.Learnt
fit_of_one κs a z z' e e' x p q = p ∙ sym q

-- `fit::Fit::verdict_of`
pub verdict_of_one : OneResult verdict_of_lem.Asked verdict_of_lem.Learnt
verdict_of_one κs a z z' e e' x p q = p ∙ sym q

-- `state::MatchState::fresh`
pub fresh_one : OneResult fresh.Asked fresh.Learnt
fresh_one κs a z z' e e' x p q = p ∙ sym q

-- `state::MatchState::same`
pub same_one : OneResult same_state.Asked same_state.Learnt
same_one κs a z z' e e' x p q = p ∙ sym q

-- `state::MatchState::deeper`
pub deeper_one : OneResult deeper.Asked deeper.Learnt
deeper_one κs a z z' e e' x p q = p ∙ sym q

-- `state::MatchState::verdict_on`
pub verdict_on_one : OneResult verdict_on.Asked verdict_on.Learnt
verdict_on_one κs a z z' e e' x p q = p ∙ sym q

-- `state::MatchState::selecting`
pub selecting_one : OneResult selecting.Asked selecting.Learnt
selecting_one κs a z z' e e' x p q = p ∙ sym q

-- `state::MatchState::tests_on`
pub tests_on_one : OneResult tests_on.Asked tests_on.Learnt
tests_on_one κs a z z' e e' x p q = p.0 ∙ sym q.0
