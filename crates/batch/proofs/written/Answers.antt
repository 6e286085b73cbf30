-- `written` meets its contract:
-- there is room by the bound, or by what was measured, or too little.
use Rattle.batch.proofs.Answering.{twice_enough, short_says}
use Rattle.batch.proofs.written.Goals as goal

pub filled-requires : goal.filled-requires
filled-requires c = (
  c.requires.0,
  c.requires.1,
  twice_enough _ _ c.args.out.now c.requires.1 c.if-batch-out.true,
)

pub returns-then-out-needed : goal.returns-then-out-needed
returns-then-out-needed c =
    let all = short_says _ _ _ c.requires.1 c.measure-needed.ensures c.if-out-needed.true in
    record {
      value = all.0;
      out_after = all.1;
    }
