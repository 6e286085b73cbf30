-- `pass_of_four` meets its contract. Between two tapes the reader is where each client is that takes part: `Reading`, and four times
-- `Going`. The measure is what is left of the document. Each need is handed its law of proofs/Going.antt.
use Prim.Native.Nat.{◌-◌}
use Rattle.together.proofs.Going.{read_start, read_on, read_lies, read_less, go_start, go_small, go_sits}
use Rattle.together.proofs.Going.{next_going, next_over, next_fault}
use Rattle.together.proofs.pass_of_four.Goals as goal

pub loop-why-init : goal.loop-why-init
loop-why-init c =
    let e = c.none-opened.ensures in
    let q = c.start_of-at.ensures in
    let s = c.none-none.ensures in (
      read_start _ e q,
      go_start _ _ _ _ _ _ e q s,
      go_start _ _ _ _ _ _ e q s,
      go_start _ _ _ _ _ _ e q s,
      go_start _ _ _ _ _ _ e q s,
    )

pub items-read-requires : goal.items-read-requires
items-read-requires c =
    let p = c.requires in
    let v = c.loop-why.invariant.0 in
    (p.0, v.names, v.opens, v.within, v.long)

pub through-s1-requires : goal.through-s1-requires
through-s1-requires c =
    let p = c.requires in
    let v = c.loop-why.invariant.1 in
    let i = c.items-read.ensures.reeling in
    (p.0, go_small v p.1, i.few, go_sits v p.1 (read_lies i))

pub through-s2-requires : goal.through-s2-requires
through-s2-requires c =
    let p = c.requires in
    let v = c.loop-why.invariant.2 in
    let i = c.items-read.ensures.reeling in
    (p.0, go_small v p.2, i.few, go_sits v p.2 (read_lies i))

pub through-s3-requires : goal.through-s3-requires
through-s3-requires c =
    let p = c.requires in
    let v = c.loop-why.invariant.3 in
    let i = c.items-read.ensures.reeling in
    (p.0, go_small v p.3, i.few, go_sits v p.3 (read_lies i))

pub through-s4-requires : goal.through-s4-requires
through-s4-requires c =
    let p = c.requires in
    let v = c.loop-why.invariant.4 in
    let i = c.items-read.ensures.reeling in
    (p.0, go_small v p.4, i.few, go_sits v p.4 (read_lies i))

pub shape_of-o1-in-Fault : goal.shape_of-o1-in-Fault
shape_of-o1-in-Fault c =
    (next_going c.items-read.ensures.reeling c.loop-why.invariant.1 c.through-s1.ensures).same

pub shape_of-o2-in-Fault : goal.shape_of-o2-in-Fault
shape_of-o2-in-Fault c =
    (next_going c.items-read.ensures.reeling c.loop-why.invariant.2 c.through-s2.ensures).same

pub shape_of-o3-in-Fault : goal.shape_of-o3-in-Fault
shape_of-o3-in-Fault c =
    (next_going c.items-read.ensures.reeling c.loop-why.invariant.3 c.through-s3.ensures).same

pub shape_of-o4-in-Fault : goal.shape_of-o4-in-Fault
shape_of-o4-in-Fault c =
    (next_going c.items-read.ensures.reeling c.loop-why.invariant.4 c.through-s4.ensures).same

pub shape_of-g1-in-Fault : goal.shape_of-g1-in-Fault
shape_of-g1-in-Fault c =
    (next_going c.items-read.ensures.reeling c.loop-why.invariant.1 c.through-s1.ensures).room

pub shape_of-g2-in-Fault : goal.shape_of-g2-in-Fault
shape_of-g2-in-Fault c =
    (next_going c.items-read.ensures.reeling c.loop-why.invariant.2 c.through-s2.ensures).room

pub shape_of-g3-in-Fault : goal.shape_of-g3-in-Fault
shape_of-g3-in-Fault c =
    (next_going c.items-read.ensures.reeling c.loop-why.invariant.3 c.through-s3.ensures).room

pub shape_of-g4-in-Fault : goal.shape_of-g4-in-Fault
shape_of-g4-in-Fault c =
    (next_going c.items-read.ensures.reeling c.loop-why.invariant.4 c.through-s4.ensures).room

pub returns-in-Fault : goal.returns-in-Fault
returns-in-Fault c =
    let i = c.items-read.ensures in
    let v = c.loop-why.invariant in
    let q = c.in-Fault.is in
    record {
      first_passed = next_fault i.reeling v.1 c.through-s1.ensures i.stopped _ q;
      second_passed = next_fault i.reeling v.2 c.through-s2.ensures i.stopped _ q;
      third_passed = next_fault i.reeling v.3 c.through-s3.ensures i.stopped _ q;
      fourth_passed = next_fault i.reeling v.4 c.through-s4.ensures i.stopped _ q;
    }

pub shape_of-o1-in-Over : goal.shape_of-o1-in-Over
shape_of-o1-in-Over c =
    (next_going c.items-read.ensures.reeling c.loop-why.invariant.1 c.through-s1.ensures).same

pub shape_of-o2-in-Over : goal.shape_of-o2-in-Over
shape_of-o2-in-Over c =
    (next_going c.items-read.ensures.reeling c.loop-why.invariant.2 c.through-s2.ensures).same

pub shape_of-o3-in-Over : goal.shape_of-o3-in-Over
shape_of-o3-in-Over c =
    (next_going c.items-read.ensures.reeling c.loop-why.invariant.3 c.through-s3.ensures).same

pub shape_of-o4-in-Over : goal.shape_of-o4-in-Over
shape_of-o4-in-Over c =
    (next_going c.items-read.ensures.reeling c.loop-why.invariant.4 c.through-s4.ensures
    ).same

pub shape_of-g1-in-Over : goal.shape_of-g1-in-Over
shape_of-g1-in-Over c =
    (next_going c.items-read.ensures.reeling c.loop-why.invariant.1 c.through-s1.ensures).room

pub shape_of-g2-in-Over : goal.shape_of-g2-in-Over
shape_of-g2-in-Over c =
    (next_going c.items-read.ensures.reeling c.loop-why.invariant.2 c.through-s2.ensures).room

pub shape_of-g3-in-Over : goal.shape_of-g3-in-Over
shape_of-g3-in-Over c =
    (next_going c.items-read.ensures.reeling c.loop-why.invariant.3 c.through-s3.ensures).room

pub shape_of-g4-in-Over : goal.shape_of-g4-in-Over
shape_of-g4-in-Over c =
    (next_going c.items-read.ensures.reeling c.loop-why.invariant.4 c.through-s4.ensures
    ).room

pub returns-in-Over : goal.returns-in-Over
returns-in-Over c =
    let i = c.items-read.ensures in
    let v = c.loop-why.invariant in
    let q = c.in-Over.is in
    record {
      first_passed = next_over i.reeling v.1 c.through-s1.ensures i.stopped q c.ended-e1.ensures;
      second_passed = next_over i.reeling v.2 c.through-s2.ensures i.stopped q c.ended-e2.ensures;
      third_passed = next_over i.reeling v.3 c.through-s3.ensures i.stopped q c.ended-e3.ensures;
      fourth_passed = next_over i.reeling v.4 c.through-s4.ensures i.stopped q c.ended-e4.ensures;
    }

pub loop-why-smaller : goal.loop-why-smaller
loop-why-smaller c =
    read_less c.items-read.ensures.reeling c.items-read.ensures.stopped c.in-Full.is

pub loop-why-preserved : goal.loop-why-preserved
loop-why-preserved c =
    let i = c.items-read.ensures.reeling in
    let v = c.loop-why.invariant in (
      read_on i,
      next_going i v.1 c.through-s1.ensures,
      next_going i v.2 c.through-s2.ensures,
      next_going i v.3 c.through-s3.ensures,
      next_going i v.4 c.through-s4.ensures,
    )
