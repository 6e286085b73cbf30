-- `lay` meets its contract:
-- one text for each kind.
use Rattle.notes.proofs.Replaying.{laid_note}
use Rattle.notes.proofs.replay.lay.Goals as goal

pub returns-then-kind-eq0 : goal.returns-then-kind-eq0
returns-then-kind-eq0 c = record {
  wrote = search laid_note;
  upper_bound = search laid_note;
}

pub returns-then-kind-eq1 : goal.returns-then-kind-eq1
returns-then-kind-eq1 c = record {
  wrote = search laid_note;
  upper_bound = search laid_note;
}

pub returns-then-kind-eq2 : goal.returns-then-kind-eq2
returns-then-kind-eq2 c = record {
  wrote = search laid_note;
  upper_bound = search laid_note;
}

pub returns : goal.returns
returns c = record {
  wrote = search laid_note;
  upper_bound = search laid_note;
}
