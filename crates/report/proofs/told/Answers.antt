-- `told` meets its contract: all that `tell` lays is at the front of the buffer, which is long enough.
-- proofs/Telling.antt has the law.
use native.Mathlib.Omega.{arith}
use mathlib.Core.Path.{sym}
use lib.Seq.{length-take-le}
use Rattle.writer.proofs.Laying.{wrote_long}
use Rattle.report.proofs.Telling.{front_laid}
use Rattle.report.proofs.told.Goals as goal

pub slice_bounds-tell-end : goal.slice_bounds-tell-end
slice_bounds-tell-end c =
    sym (length-take-le _ _ (omega (arith, c.requires.0)))

pub slice_bounds-tell-end-2 : goal.slice_bounds-tell-end-2
slice_bounds-tell-end-2 c =
    sym (length-take-le _ _ (omega (arith, c.requires.1)))

pub slice_bounds-result-end : goal.slice_bounds-result-end
slice_bounds-result-end c =
    let told = c.tell-end.ensures in
    sym (length-take-le _ _ (omega (arith, told.upper_bound, wrote_long told.wrote, c.requires.2)))

pub returns : goal.returns
returns c =
    let told = c.tell-end.ensures in
    front_laid told.wrote told.upper_bound c.requires.2
