-- `states_of` meets its contract. The invariant: the states of the first k levels are made, as the laws of proofs/Restanding.antt have
-- them.
use mathlib.Core.Path.{refl, ◌∙◌}
use mathlib.Core.Logic.{inl, inr}
use native.Mathlib.Omega.{arith}
use Rattle.std.proofs.lemmas.Bool.{cases_lt}
use Rattle.matcher.proofs.Serving.{row_few, row_fit}
use Rattle.seats.proofs.Restanding.{standing_start, standing_next, standing_last, standing_less}
use Rattle.seats.proofs.standing.states_of.Goals as goal

pub loop-k-init : goal.loop-k-init
loop-k-init c =
    standing_start _ c.fresh-fresh.ensures _ _ _

pub fit_by-fit-requires : goal.fit_by-fit-requires
fit_by-fit-requires c =
    row_few c.requires.0 _ c.row_of-row.ensures

pub loop-k-preserved : goal.loop-k-preserved
loop-k-preserved c =
    standing_next c.loop-k.invariant (omega arith) refl (c.fit_by-fit.ensures ∙ row_fit c.requires.0 _ c.row_of-row.ensures)
    c.deeper-below.ensures

pub returns : goal.returns
returns c =
    elim (cases_lt c.loop-k.k 63) [
      | inl h ↦ standing_less c.loop-k.invariant (omega (arith, c.loop-k-test.false))
      | inr h ↦ standing_last c.loop-k.invariant (omega (arith, c.loop-k-test.false, c.loop-k.auto.k-end)) _
    ]
