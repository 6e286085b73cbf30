-- `lay_steps` meets its contract. The invariant is `Stepped`: the steps up to a place are laid, and the others are read from there on.
-- The measure is what is left of the list.
use Prim.Native.Nat.{◌+◌, ◌-◌}
use lib.ListN.{drop}
use native.Mathlib.Omega.{arith}
use Rattle.packed.proofs.Spelling.{take_short}
use Rattle.packed.proofs.Laying.{step_inside, step_small, stepping}
use Rattle.packed.proofs.lay.lay_steps.Goals as goal

pub overflow_cast-step : goal.overflow_cast-step
overflow_cast-step c =
    omega (arith, step_small c.loop-step.invariant c.step_at.ensures c.in-Some.is)

pub overflow_add-e : goal.overflow_add-e
overflow_add-e c =
    omega (arith, step_inside c.args.list.now c.loop-step.end c.step_at.ensures c.in-Some.is)

pub slice_bounds-copy-end : goal.slice_bounds-copy-end
slice_bounds-copy-end c = search stepping

pub copy-place-requires : goal.copy-place-requires
copy-place-requires c =
    let k = c.in-Some.step.name in
    let l = c.in-Some.step.len in
    let v = c.loop-step.invariant in
    let t = take_short (k + l - k) (drop k c.args.list.now) in
    let s = step_small v c.step_at.ensures c.in-Some.is in
    omega (arith, c.put-b.ensures.long, c.put-a.ensures.long, v.near, v.inside, c.requires.2, c.requires.3)

pub loop-step-smaller : goal.loop-step-smaller
loop-step-smaller c = search stepping

pub loop-step-preserved : goal.loop-step-preserved
loop-step-preserved c = search stepping

pub returns-in-None : goal.returns-in-None
returns-in-None c = search stepping
