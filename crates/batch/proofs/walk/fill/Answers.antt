-- `fill` meets its contract. The loop's invariant: what is laid so far, and the entries of the documents from the place on, is the result.
-- The measure is what is left of the batch.
use mathlib.Core.Path.{refl}
use Rattle.batch.proofs.Walking.{fill_same}
use Rattle.batch.proofs.Walking.{fill_some, fill_start, fill_whole, fill_four, fill_inside, fill_room, fill_fits, fill_few}
use Rattle.batch.proofs.Walking.{fill_next, fill_end}
use native.Mathlib.Omega.{arith}
use Rattle.batch.proofs.walk.fill.Goals as goal

pub bounds-out-0 : goal.bounds-out-0
bounds-out-0 c = fill_some _ _ c.args.out.now c.requires.2

pub loop-at-init : goal.loop-at-init
loop-at-init c = (
  fill_start _ _ c.args.out.now c.requires.1 c.requires.2,
  refl,
)

pub length_at-requires : goal.length_at-requires
length_at-requires c = fill_four _ _ _ c.loop-at.invariant.0 c.loop-at-test.true

pub overflow_add-to : goal.overflow_add-to
overflow_add-to c =
    omega (
      arith,
      fill_whole _ _ _ c.loop-at.invariant.0 c.loop-at-test.true c.length_at.ensures,
      c.loop-at.invariant.0.small,
    )

pub slice_bounds-lay_entry-end : goal.slice_bounds-lay_entry-end
slice_bounds-lay_entry-end c = fill_whole _ _ _ c.loop-at.invariant.0 c.loop-at-test.true c.length_at.ensures

pub slice_bounds-lay_entry-count-in-loop-at : goal.slice_bounds-lay_entry-count-in-loop-at
slice_bounds-lay_entry-count-in-loop-at c = omega (arith, fill_inside _ _ _ c.loop-at.invariant.0)

pub lay_entry-part-requires : goal.lay_entry-part-requires
lay_entry-part-requires c = (
  c.requires.0,
  fill_room _ _ _ c.loop-at.invariant.0 c.loop-at-test.true c.length_at.ensures,
)

pub overflow_add-put : goal.overflow_add-put
overflow_add-put c =
    omega (
      arith,
      fill_fits _ _ _ c.loop-at.invariant.0
          c.loop-at-test.true c.length_at.ensures c.lay_entry-part.ensures.value,
    )

pub overflow_add-put-in-loop-at : goal.overflow_add-put-in-loop-at
overflow_add-put-in-loop-at c =
    omega (
      arith,
      fill_fits _ _ _ c.loop-at.invariant.0 c.loop-at-test.true c.length_at.ensures c.lay_entry-part.ensures.value,
    )

pub overflow_add-selected : goal.overflow_add-selected
overflow_add-selected c =
    omega (
      arith,
      fill_few _ _ _ c.loop-at.invariant.0 c.loop-at-test.true c.length_at.ensures c.lay_entry-part.ensures.value,
    )

pub loop-at-smaller : goal.loop-at-smaller
loop-at-smaller c =
    omega (
      arith,
      fill_whole _ _ _ c.loop-at.invariant.0 c.loop-at-test.true c.length_at.ensures,
    )

pub loop-at-preserved : goal.loop-at-preserved
loop-at-preserved c = (
  fill_next _ _ _ c.loop-at.invariant.0 c.loop-at-test.true c.length_at.ensures c.lay_entry-part.ensures.value
      c.lay_entry-part.ensures.out_after,
  omega (arith, c.loop-at.invariant.1),
)

pub shape_of-out : goal.shape_of-out
shape_of-out c = fill_same _ _ c.args.out.now c.loop-at.invariant.0

pub shape_of-log : goal.shape_of-log
shape_of-log c = omega (arith, c.loop-at.invariant.1)

pub returns : goal.returns
returns c =
    let all = fill_end _ _ _ c.loop-at.invariant.0 c.loop-at-test.false c.requires.2 in
    record {
      value = all.0;
      out_after = all.1;
    }
