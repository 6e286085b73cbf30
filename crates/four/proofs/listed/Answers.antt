-- `listed` meets its contract:
-- a document that is refused before its items are read is refused to each client whose list is sound; else they are read.
use Rattle.four.proofs.Serving.{head_readable, refused_both}
use Rattle.four.proofs.listed.Goals as goal

pub measured-requires : goal.measured-requires
measured-requires c =
    let p = c.requires in
    let a = c.read-a1.ensures in
    let b = c.read-a2.ensures in
    let d = c.read-a3.ensures in
    let e = c.read-a4.ensures in (
      head_readable _ c.head_of.ensures c.in-Ok.is,
      record { said = a.value; tables = a.t_after; small = p.0 },
      record { said = b.value; tables = b.t_after; small = p.1 },
      record { said = d.value; tables = d.t_after; small = p.2 },
      record { said = e.value; tables = e.t_after; small = p.3 },
    )

pub returns-in-Err : goal.returns-in-Err
returns-in-Err c =
    let h = c.head_of.ensures in
    let q = c.in-Err.is in
    let w = c.from.ensures in
    let one = refused_both _ _ _ _ c.read-a1.ensures.value h q (rw (← w) c.by_list-first.ensures) in
    let two = refused_both _ _ _ _ c.read-a2.ensures.value h q (rw (← w) c.by_list-second.ensures) in
    let three = refused_both _ _ _ _ c.read-a3.ensures.value h q (rw (← w) c.by_list-third.ensures) in
    let four = refused_both _ _ _ _ c.read-a4.ensures.value h q (rw (← w) c.by_list-fourth.ensures) in
    record {
      first_value = one.0;
      second_value = two.0;
      third_value = three.0;
      fourth_value = four.0;
      o1_after = one.1;
      o2_after = two.1;
      o3_after = three.1;
      o4_after = four.1;
    }
