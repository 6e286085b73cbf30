-- `tell` meets its contract: a way out for each of `too long`, `kept` and `refused`. A cut that is kept is within the room.
-- proofs/Telling.antt has the laws.
use borrow.Author.Rules.{rules}
use native.Mathlib.Omega.{arith}
use Rattle.report.proofs.Telling.{telling, second_fits, tell_kept, tell_refused}
use mathlib.Core.Path.{refl, sym}
use lib.Seq.{length-take-le}
use Rattle.report.proofs.tell.Goals as goal

pub returns-then-input-gt-DOCUMENT : goal.returns-then-input-gt-DOCUMENT
returns-then-input-gt-DOCUMENT c = record {
  wrote = search telling;
  upper_bound = omega (arith, c.copy.ensures.long);
}

pub slice_bounds-room-end : goal.slice_bounds-room-end
slice_bounds-room-end c =
    let cut = c.choughbell_cut-numbers.ensures in
    omega (arith, second_fits _ _ _ cut.value cut.out_after c.if-number-eq0.true)

pub slice_bounds-kept-end : goal.slice_bounds-kept-end
slice_bounds-kept-end c =
    let cut = c.choughbell_cut-numbers.ensures in
    sym (length-take-le _ _ (omega (arith, second_fits _ _ _ cut.value cut.out_after c.if-number-eq0.true)))

pub returns-then-number-eq0 : goal.returns-then-number-eq0
returns-then-number-eq0 c = let cut = c.choughbell_cut-numbers.ensures in
    let kept = c.kept.ensures in record {
      wrote = tell_kept c.args.list.now c.args.input.now (search rules) _ (search rules) cut.value cut.out_after
          c.if-number-eq0.true refl (search rules);
      upper_bound = kept.upper_bound;
    }

pub returns : goal.returns
returns c = let cut = c.choughbell_cut-numbers.ensures in
    let line = c.line.ensures in record {
      wrote = tell_refused c.args.list.now c.args.input.now (search rules) _ (search rules) cut.value cut.out_after
          c.if-number-eq0.false (search rules);
      upper_bound = omega (arith, line.upper_bound);
    }
