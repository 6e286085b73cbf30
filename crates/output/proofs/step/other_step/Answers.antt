-- `other_step` meets its contract:
-- an end tag, at which something is written or nothing, or an item that is no tag.
use Rattle.output.proofs.Steps.{end_silent}
use Rattle.output.proofs.Outs.{ready_first, finish_from, finish_to, finish_step, other_step}
use Rattle.output.proofs.step.other_step.Goals as goal

pub returns-then-silent : goal.returns-then-silent
returns-then-silent c =
    let p = c.requires in
    let q = c.in-Finish.is in
    finish_step _ p.2 _ _ _ q (end_silent (finish_from _ _ _ _ p.3 q) (c.silent.ensures.0 c.if-silent.true))

pub finish-requires : goal.finish-requires
finish-requires c =
    let p = c.requires in
    let q = c.in-Finish.is in (
      ready_first p.0,
      p.1,
      p.2,
      finish_from _ _ _ _ p.3 q,
      finish_to _ _ _ _ p.3 q,
      p.5,
      c.silent.ensures.1 c.if-silent.false,
    )

pub returns : goal.returns
returns c = other_step c.args.at c.requires.2 c.args.item c.in_default.not-Finish c.requires.3 c.requires.4
