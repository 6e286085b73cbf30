-- `keep` meets its contract:
-- below the last level one entry is set, and past it nothing is, as `set` has it.
use Rattle.document.proofs.Placing.{keeping}
use Rattle.document.proofs.place.keep.Goals as goal

pub returns-then-reached-lt-LEVELS : goal.returns-then-reached-lt-LEVELS
returns-then-reached-lt-LEVELS c = record {
  starts_after = search keeping;
  lens_after = search keeping;
}

pub returns-else-reached-lt-LEVELS : goal.returns-else-reached-lt-LEVELS
returns-else-reached-lt-LEVELS c = record {
  starts_after = search keeping;
  lens_after = search keeping;
}
