-- `lay_text` meets its contract. The invariant is `Gathered`: what is gathered up to the place i, and how deep that place is.
-- The measure is what is left of the document.
use Rattle.rows.proofs.Gathering.{gathering}
use native.Mathlib.Omega.{arith}
use Rattle.rows.proofs.Gathering.{aside_stops, closes_stops, opens_stops, whole_stops, nearer, ahead_by, said_ready}
use Rattle.rows.proofs.Gathering.{gathered_stop, gathered_close, gathered_down, gathered_whole, gathered_up, gathered_over}
use Rattle.rows.proofs.Gathering.{gathered_said}
use Rattle.rows.proofs.gather.lay_text.Goals as goal

pub loop-depth-init : goal.loop-depth-init
loop-depth-init c = search gathering

pub returns-in-Stops : goal.returns-in-Stops
returns-in-Stops c =
    let all = gathered_stop c.loop-depth.invariant c.item-next.ensures
    c.end_of-end.ensures c.part_of.ensures
    c.requires.0 c.in-Stops.is in
    record {
      lays = all.0;
      to_bound = all.1;
    }

pub returns-then-depth-eq0 : goal.returns-then-depth-eq0
returns-then-depth-eq0 c =
    let all = gathered_close c.loop-depth.invariant c.item-next.ensures
    c.end_of-end.ensures c.part_of.ensures
    c.requires.0 c.in-Closes.is c.if-depth-eq0.true in
    record {
      lays = all.0;
      to_bound = all.1;
    }

pub loop-depth-smaller-in-Closes : goal.loop-depth-smaller-in-Closes
loop-depth-smaller-in-Closes c =
    nearer c.loop-depth.invariant c.item-next.ensures
    c.end_of-end.ensures c.part_of.ensures c.in-Closes.is
    closes_stops

pub loop-depth-preserved-in-Closes : goal.loop-depth-preserved-in-Closes
loop-depth-preserved-in-Closes c =
    gathered_up c.loop-depth.invariant c.item-next.ensures
    c.end_of-end.ensures c.part_of.ensures
    c.in-Closes.is c.if-depth-eq0.false

pub loop-depth-smaller-in-Opens : goal.loop-depth-smaller-in-Opens
loop-depth-smaller-in-Opens c =
    nearer c.loop-depth.invariant c.item-next.ensures
    c.end_of-end.ensures c.part_of.ensures c.in-Opens.is opens_stops

pub loop-depth-preserved-in-Opens : goal.loop-depth-preserved-in-Opens
loop-depth-preserved-in-Opens c =
    gathered_down c.loop-depth.invariant c.item-next.ensures
    c.end_of-end.ensures c.part_of.ensures
    c.in-Opens.is

pub loop-depth-smaller-in-Whole : goal.loop-depth-smaller-in-Whole
loop-depth-smaller-in-Whole c =
    nearer c.loop-depth.invariant c.item-next.ensures
    c.end_of-end.ensures c.part_of.ensures c.in-Whole.is whole_stops

pub loop-depth-preserved-in-Whole : goal.loop-depth-preserved-in-Whole
loop-depth-preserved-in-Whole c =
    gathered_whole c.loop-depth.invariant c.item-next.ensures
    c.end_of-end.ensures c.part_of.ensures
    c.in-Whole.is

pub slice_bounds-lay_said-count : goal.slice_bounds-lay_said-count
slice_bounds-lay_said-count c =
    let (f, m) = ahead_by c.loop-depth.invariant
    c.item-next.ensures c.end_of-end.ensures
    c.part_of.ensures c.in-Aside.is aside_stops in
    omega arith

pub slice_bounds-lay_said-start : goal.slice_bounds-lay_said-start
slice_bounds-lay_said-start c =
    let (f, m) = ahead_by c.loop-depth.invariant
    c.item-next.ensures c.end_of-end.ensures
    c.part_of.ensures c.in-Aside.is aside_stops in
    omega arith

pub slice_bounds-lay_said-end : goal.slice_bounds-lay_said-end
slice_bounds-lay_said-end c =
    let (f, m) = ahead_by c.loop-depth.invariant
    c.item-next.ensures c.end_of-end.ensures
    c.part_of.ensures c.in-Aside.is aside_stops in
    omega arith

pub lay_said-laid-requires : goal.lay_said-laid-requires
lay_said-laid-requires c =
    said_ready c.loop-depth.invariant
    c.item-next.ensures
    c.end_of-end.ensures c.part_of.ensures
    c.in-Aside.is c.requires.0 c.requires.2

pub loop-depth-smaller-then-depth-eq0-2 : goal.loop-depth-smaller-then-depth-eq0-2
loop-depth-smaller-then-depth-eq0-2 c =
    nearer c.loop-depth.invariant
    c.item-next.ensures
    c.end_of-end.ensures
    c.part_of.ensures
    c.in-Aside.is aside_stops

pub loop-depth-preserved-then-depth-eq0-2 : goal.loop-depth-preserved-then-depth-eq0-2
loop-depth-preserved-then-depth-eq0-2 c =
    gathered_said c.loop-depth.invariant
    c.item-next.ensures
    c.end_of-end.ensures
    c.part_of.ensures
    c.in-Aside.is
    c.if-depth-eq0-2.true (c.lay_said-laid.ensures.lays, c.lay_said-laid.ensures.to_bound)

pub loop-depth-smaller : goal.loop-depth-smaller
loop-depth-smaller c =
    nearer c.loop-depth.invariant c.item-next.ensures
    c.end_of-end.ensures c.part_of.ensures c.in-Aside.is
    aside_stops

pub loop-depth-preserved : goal.loop-depth-preserved
loop-depth-preserved c =
    gathered_over c.loop-depth.invariant c.item-next.ensures
    c.end_of-end.ensures c.part_of.ensures c.in-Aside.is
    c.if-depth-eq0-2.false
