-- `finish` meets its contract:
-- nothing is open; open in the output; the end of a kept entry.
use Rattle.output.proofs.Outs.{entry_there, entry_last, finishes}
use Rattle.output.proofs.step.finish.Goals as goal

pub returns-then-l-eq0 : goal.returns-then-l-eq0
returns-then-l-eq0 c = record {
  moves = search finishes;
  stays = search finishes;
}

pub returns-then-l-reached : goal.returns-then-l-reached
returns-then-l-reached c = record {
  moves = search finishes;
  stays = search finishes;
}

pub overflow_sub-from : goal.overflow_sub-from
overflow_sub-from c =
    let there = entry_there c.requires.6 c.if-l-reached.false in
    search (finishes, there)

pub returns : goal.returns
returns c =
    let there = entry_there c.requires.6 c.if-l-reached.false in
    let last = entry_last c.requires.6 c.if-l-reached.false in
    search (finishes, there, last)
