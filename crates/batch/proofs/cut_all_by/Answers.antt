-- `cut_all_by` meets its contract:
-- a layout at fault decides, and a sound one leaves it to the room.
use mathlib.Core.Path.{sym, ◌∙◌}
use Rattle.batch.proofs.Answering.{fault_says}
use Rattle.batch.proofs.cut_all_by.Goals as goal

pub written-requires : goal.written-requires
written-requires c = (
  c.requires,
  sym c.judge.ensures ∙ c.in-Ok.is,
)

pub returns-in-Err : goal.returns-in-Err
returns-in-Err c =
    let all = fault_says _ _ _ c.judge.ensures c.in-Err.is in
    record {
      value = all.0;
      out_after = all.1;
    }
