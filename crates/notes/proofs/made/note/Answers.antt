-- `note` meets its contract:
-- while there is room one entry is set; past it nothing is, as `set` has it.
use Rattle.notes.proofs.Making.{noting}
use Rattle.notes.proofs.made.note.Goals as goal

pub returns-then-noted-log : goal.returns-then-noted-log
returns-then-noted-log c = record {
  value = search noting;
  log_after = search noting;
}

pub returns : goal.returns
returns c = record {
  value = search noting;
  log_after = search noting;
}
