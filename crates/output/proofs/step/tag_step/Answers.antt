-- `tag_step` meets its contract:
-- a start, and for an empty tag an end of no bytes after it, at which something is written or nothing.
use native.Mathlib.Omega.{arith}
use Rattle.output.proofs.Steps.{end_silent}
use Rattle.output.proofs.Outs.{ready_then, tag_behind, tag_ends, stays_same, tagging}
use Rattle.output.proofs.step.tag_step.Goals as goal

pub returns-then-silent : goal.returns-then-silent
returns-then-silent c =
    tag_ends _ _ c.start-inner.ensures c.if-empty.true (end_silent (omega
    arith) (c.silent.ensures.0 c.if-silent.true)) stays_same

pub finish-requires : goal.finish-requires
finish-requires c =
    let p = c.requires
    in
    let m = c.start-inner.ensures in (
      ready_then p.0 m,
      tag_behind _ _ m p.1 p.3 p.4,
      m.order,
      omega arith,
      p.5,
      p.6,
      c.silent.ensures.1 c.if-silent.false,
    )

pub returns-then-empty : goal.returns-then-empty
returns-then-empty c = search tagging
