-- `enter_line` meets its contract. The invariant: the tables are those of the paths before and of the steps read of this path; `bit` is the
-- next step's bit, and the sums have the bits of those that may stay, go, go far. The measure is what is left of the list.
-- proofs/InLine.antt has the laws.
use native.Mathlib.Omega.{arith}
use Rattle.compiled.proofs.InLine.{line_bit, line_stays, line_goes, line_far, lining}
use Rattle.compiled.proofs.build.enter_line.Goals as goal

pub steps-init : goal.steps-init
steps-init c = search lining

pub add_step-count-requires : goal.add_step-count-requires
add_step-count-requires c = search lining

pub overflow_add-stays : goal.overflow_add-stays
overflow_add-stays c =
    let v = c.steps.invariant in
    omega (arith, line_bit v, line_stays v)

pub overflow_add-goes : goal.overflow_add-goes
overflow_add-goes c =
    let v = c.steps.invariant in
    omega (arith, line_bit v, line_goes v)

pub overflow_add-far : goal.overflow_add-far
overflow_add-far c =
    let v = c.steps.invariant in
    omega (arith, line_bit v, line_far v)

pub overflow_mul-bit : goal.overflow_mul-bit
overflow_mul-bit c =
    let v = c.steps.invariant in
    omega (arith, line_bit v)

pub steps-smaller : goal.steps-smaller
steps-smaller c = search lining

pub steps-preserved : goal.steps-preserved
steps-preserved c = search lining

pub overflow_cast-result : goal.overflow_cast-result
overflow_cast-result c =
    omega (arith, line_bit c.steps.invariant)

pub overflow_cast-result-2 : goal.overflow_cast-result-2
overflow_cast-result-2 c = search lining

pub overflow_cast-result-3 : goal.overflow_cast-result-3
overflow_cast-result-3 c = search lining

pub overflow_cast-result-4 : goal.overflow_cast-result-4
overflow_cast-result-4 c = search lining

pub returns : goal.returns
returns c = search lining
