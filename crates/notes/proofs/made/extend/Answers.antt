-- `extend` meets its contract:
-- the last note is made longer, or one is made.
use Rattle.notes.proofs.Making.{extending}
use Rattle.notes.proofs.made.extend.Goals as goal

pub overflow_sub-last : goal.overflow_sub-last
overflow_sub-last c = search extending

pub offset_bounds-log-noted : goal.offset_bounds-log-noted
offset_bounds-log-noted c = search extending

pub bounds-log-noted : goal.bounds-log-noted
bounds-log-noted c = search extending

pub word_of-requires : goal.word_of-requires
word_of-requires c = search extending

pub overflow_sub-log : goal.overflow_sub-log
overflow_sub-log c = search extending

pub offset_bounds-log-noted-then-ends_at : goal.offset_bounds-log-noted-then-ends_at
offset_bounds-log-noted-then-ends_at c = search extending

pub bounds-log-noted-then-ends_at : goal.bounds-log-noted-then-ends_at
bounds-log-noted-then-ends_at c = search extending

pub returns-then-ends_at : goal.returns-then-ends_at
returns-then-ends_at c = record {
  value = search extending;
  log_after = search extending;
}

pub returns : goal.returns
returns c = record {
  value = search extending;
  log_after = search extending;
}
