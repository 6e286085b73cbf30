-- `lines_of` meets its contract. The invariant: the first lines are those of the paths read. The measure is what is left of the list.
-- proofs/Lines.antt has the laws.
use Rattle.covers.proofs.Lines.{lining}
use Rattle.covers.proofs.line.lines_of.Goals as goal

pub loop-at-init : goal.loop-at-init
loop-at-init c = search lining

pub line_at-line-requires : goal.line_at-line-requires
line_at-line-requires c = search lining

pub offset_bounds-all-count : goal.offset_bounds-all-count
offset_bounds-all-count c = search lining

pub bounds-all-count : goal.bounds-all-count
bounds-all-count c = search lining

pub overflow_add-count : goal.overflow_add-count
overflow_add-count c = search lining

pub loop-at-smaller : goal.loop-at-smaller
loop-at-smaller c = search lining

pub loop-at-preserved : goal.loop-at-preserved
loop-at-preserved c = search lining

pub returns : goal.returns
returns c = search lining
