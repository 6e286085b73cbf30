-- `compile` meets its contract. The invariant: the tables are those of the paths whose lines are read, and the rows stand in their place
-- in `t`. The measure is what is left of the list. proofs/OverLines.antt has the laws, and proofs/Laid.antt those of the tables laid one
-- behind the other.
use native.Mathlib.Omega.{arith}
use mathlib.Core.Path.{◌∙◌}
use Rattle.compiled.proofs.InLine.{path_few}
use Rattle.compiled.proofs.OverLines.{over_lines, lines_long, lines_end}
use Rattle.compiled.proofs.OverLines.{at_size, len_size, head_size, next_size}
use Rattle.compiled.proofs.OverLines.{stays_size, goes_size, far_size, lasts_size, marks_size, tests_size}
use Rattle.compiled.proofs.compile.compile.Goals as goal

pub loop-place-init : goal.loop-place-init
loop-place-init c = search over_lines

pub enter_line-line-requires : goal.enter_line-line-requires
enter_line-line-requires c = search over_lines

pub offset_bounds-stays-p : goal.offset_bounds-stays-p
offset_bounds-stays-p c = omega (arith, path_few c.enter_line-line.ensures.here)

pub bounds-stays-p : goal.bounds-stays-p
bounds-stays-p c = path_few c.enter_line-line.ensures.here

pub offset_bounds-goes-p : goal.offset_bounds-goes-p
offset_bounds-goes-p c = omega (arith, path_few c.enter_line-line.ensures.here)

pub bounds-goes-p : goal.bounds-goes-p
bounds-goes-p c = path_few c.enter_line-line.ensures.here

pub offset_bounds-far-p : goal.offset_bounds-far-p
offset_bounds-far-p c = omega (arith, path_few c.enter_line-line.ensures.here)

pub bounds-far-p : goal.bounds-far-p
bounds-far-p c = path_few c.enter_line-line.ensures.here

pub offset_bounds-lasts-p : goal.offset_bounds-lasts-p
offset_bounds-lasts-p c = omega (arith, path_few c.enter_line-line.ensures.here)

pub bounds-lasts-p : goal.bounds-lasts-p
bounds-lasts-p c = path_few c.enter_line-line.ensures.here

pub offset_bounds-marks-p : goal.offset_bounds-marks-p
offset_bounds-marks-p c = omega (arith, path_few c.enter_line-line.ensures.here)

pub bounds-marks-p : goal.bounds-marks-p
bounds-marks-p c = path_few c.enter_line-line.ensures.here

pub if_tested-requires : goal.if_tested-requires
if_tested-requires c = search over_lines

pub offset_bounds-tests-p : goal.offset_bounds-tests-p
offset_bounds-tests-p c = omega (arith, path_few c.enter_line-line.ensures.here)

pub bounds-tests-p : goal.bounds-tests-p
bounds-tests-p c = path_few c.enter_line-line.ensures.here

pub overflow_add-p : goal.overflow_add-p
overflow_add-p c = omega (arith, path_few c.enter_line-line.ensures.here)

pub loop-place-smaller : goal.loop-place-smaller
loop-place-smaller c = search over_lines

pub loop-place-preserved : goal.loop-place-preserved
loop-place-preserved c = search over_lines

pub spread-requires : goal.spread-requires
spread-requires c = search over_lines

pub lay_names-requires : goal.lay_names-requires
lay_names-requires c =
    let v = c.loop-place.invariant in
    let l = c.loop-place-test.false in
    (at_size v, len_size v, head_size v, next_size v, lines_long v l c.spread.ensures)

pub lay_columns-requires : goal.lay_columns-requires
lay_columns-requires c =
    let v = c.loop-place.invariant in
    let l = c.loop-place-test.false in (
      stays_size v,
      goes_size v,
      far_size v,
      lasts_size v,
      marks_size v,
      tests_size v,
      c.lay_names.auto.t ∙ lines_long v l c.spread.ensures,
    )

pub returns : goal.returns
returns c =
    lines_end c.loop-place.invariant c.loop-place-test.false c.spread.ensures c.lay_names.ensures
    c.lay_columns.ensures
