-- `mended` meets its contract. The invariant is `Keeping`: what is kept from the place on is what is kept of the document. The buffer stays
-- as it was until the loop is left. The measure is what is left of the document.
use Prim.Native.Nat.{◌-◌}
use Rattle.mend.proofs.Keeping.{keeping, kept_answer}
use Rattle.mend.proofs.kept.mended.Goals as goal

pub loop-table-init : goal.loop-table-init
loop-table-init c = search keeping

pub place-placement-requires : goal.place-placement-requires
place-placement-requires c = search keeping

pub returns-then-not-stays : goal.returns-then-not-stays
returns-then-not-stays c =
    let v = c.loop-table.invariant in
    let all = kept_answer v.2 c.item-next.ensures c.place-placement.ensures c.halved-half.ensures c.stays.ensures
    c.if-not-stays.true c.laid.result v.1 (c.laid.ensures.value, c.laid.ensures.out_after) in
    record {
      value = all.0;
      out_after = all.1;
    }

pub loop-table-smaller : goal.loop-table-smaller
loop-table-smaller c = search keeping

pub loop-table-preserved : goal.loop-table-preserved
loop-table-preserved c = search keeping
