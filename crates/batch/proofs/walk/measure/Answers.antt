-- `measure` meets its contract. The loop's invariant: what is needed so far, and what the documents from the place on add, is the length
-- of the result. The measure is what is left of the batch.
use mathlib.Core.Path.{refl}
use native.Mathlib.Omega.{arith}
use Rattle.batch.proofs.Walking.{measure_start, measure_whole, measure_four, measure_fits, measure_next, measure_end}
use Rattle.batch.proofs.walk.measure.Goals as goal

pub loop-at-init : goal.loop-at-init
loop-at-init c = (measure_start _ _ c.requires.1, refl)

pub length_at-requires : goal.length_at-requires
length_at-requires c = measure_four _ _ c.loop-at.invariant.0 c.loop-at-test.true

pub overflow_add-to : goal.overflow_add-to
overflow_add-to c =
    omega (
      arith,
      measure_whole _ _ c.loop-at.invariant.0 c.loop-at-test.true c.length_at.ensures,
      c.loop-at.invariant.0.small,
    )

pub overflow_add-needed : goal.overflow_add-needed
overflow_add-needed c = omega (arith, c.loop-at.invariant.0.is, c.loop-at.invariant.0.under)

pub slice_bounds-measured-end : goal.slice_bounds-measured-end
slice_bounds-measured-end c = measure_whole _ _ c.loop-at.invariant.0 c.loop-at-test.true c.length_at.ensures

pub measured-requires : goal.measured-requires
measured-requires c = c.requires.0

pub overflow_add-needed-in-loop-at : goal.overflow_add-needed-in-loop-at
overflow_add-needed-in-loop-at c =
    omega (
      arith,
      measure_fits _ _ c.loop-at.invariant.0 c.loop-at-test.true c.length_at.ensures c.measured.ensures,
    )

pub loop-at-smaller : goal.loop-at-smaller
loop-at-smaller c =
    omega (
      arith,
      measure_whole _ _ c.loop-at.invariant.0 c.loop-at-test.true c.length_at.ensures,
    )

pub loop-at-preserved : goal.loop-at-preserved
loop-at-preserved c = (
  measure_next _ _ c.loop-at.invariant.0 c.loop-at-test.true c.length_at.ensures c.measured.ensures,
  omega (arith, c.loop-at.invariant.1),
)

pub shape_of-log : goal.shape_of-log
shape_of-log c = omega (arith, c.loop-at.invariant.1)

pub returns : goal.returns
returns c = measure_end _ _ c.loop-at.invariant.0 c.loop-at-test.false
