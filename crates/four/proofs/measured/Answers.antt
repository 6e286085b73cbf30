-- `measured` meets its contract:
-- what the pass that measured says of a client is answered; its notes, or the second pass into its buffer, leave its cut there.
use Rattle.std.proofs.Common.{arith}
use Rattle.four.proofs.Serving.{joins_sound, joins_left, client_inside, client_answer, client_done, client_laid, none_left}
use Rattle.four.proofs.measured.Goals as goal

pub pass_of_four-m-requires : goal.pass_of_four-m-requires
pass_of_four-m-requires c =
    let p = c.requires in (
      p.0.small,
      joins_sound p.1 c.sound-w1.ensures,
      joins_sound p.2 c.sound-w2.ensures,
      joins_sound p.3 c.sound-w3.ensures,
      joins_sound p.4 c.sound-w4.ensures,
    )

pub serve-p1-requires : goal.serve-p1-requires
serve-p1-requires c =
    let p = c.requires in
    let small = p.1.small in (
      p.0.small,
      omega arith,
      client_inside p.1 c.sound-w1.ensures c.pass_of_four-m.ensures.first_passed,
    )

pub serve-p2-requires : goal.serve-p2-requires
serve-p2-requires c =
    let p = c.requires in
    let small = p.2.small in (
      p.0.small,
      omega arith,
      client_inside p.2 c.sound-w2.ensures c.pass_of_four-m.ensures.second_passed,
    )

pub serve-p3-requires : goal.serve-p3-requires
serve-p3-requires c =
    let p = c.requires in
    let small = p.3.small in (
      p.0.small,
      omega arith,
      client_inside p.3 c.sound-w3.ensures c.pass_of_four-m.ensures.third_passed,
    )

pub serve-p4-requires : goal.serve-p4-requires
serve-p4-requires c =
    let p = c.requires in
    let small = p.4.small in (
      p.0.small,
      omega arith,
      client_inside p.4 c.sound-w4.ensures c.pass_of_four-m.ensures.fourth_passed,
    )

pub returns-then-not-v1-v2 : goal.returns-then-not-v1-v2
returns-then-not-v1-v2 c =
    let p = c.requires in
    let m = c.pass_of_four-m.ensures in
    let n = none_left _ _ _ _ c.if-not-v1-v2.true in record {
      first_value = client_answer p.0 p.1 c.sound-w1.ensures m.first_passed c.serve-p1.ensures;
      second_value = client_answer p.0 p.2 c.sound-w2.ensures m.second_passed c.serve-p2.ensures;
      third_value = client_answer p.0 p.3 c.sound-w3.ensures m.third_passed c.serve-p3.ensures;
      fourth_value = client_answer p.0 p.4 c.sound-w4.ensures m.fourth_passed c.serve-p4.ensures;
      o1_after = client_done p.0 p.1 c.sound-w1.ensures m.first_passed c.serve-p1.ensures n.0;
      o2_after = client_done p.0 p.2 c.sound-w2.ensures m.second_passed c.serve-p2.ensures n.1;
      o3_after = client_done p.0 p.3 c.sound-w3.ensures m.third_passed c.serve-p3.ensures n.2;
      o4_after = client_done p.0 p.4 c.sound-w4.ensures m.fourth_passed c.serve-p4.ensures n.3;
    }

pub pass_of_four-requires : goal.pass_of_four-requires
pass_of_four-requires c =
    let p = c.requires in (
      p.0.small,
      joins_left p.1 c.serve-p1.ensures (omega arith),
      joins_left p.2 c.serve-p2.ensures (omega arith),
      joins_left p.3 c.serve-p3.ensures (omega arith),
      joins_left p.4 c.serve-p4.ensures (omega arith),
    )

pub returns : goal.returns
returns c =
    let p = c.requires in
    let m = c.pass_of_four-m.ensures in
    let n = c.pass_of_four.ensures in record {
      first_value = client_answer p.0 p.1 c.sound-w1.ensures m.first_passed c.serve-p1.ensures;
      second_value = client_answer p.0 p.2 c.sound-w2.ensures m.second_passed c.serve-p2.ensures;
      third_value = client_answer p.0 p.3 c.sound-w3.ensures m.third_passed c.serve-p3.ensures;
      fourth_value = client_answer p.0 p.4 c.sound-w4.ensures m.fourth_passed c.serve-p4.ensures;
      o1_after = client_laid p.0 p.1 c.sound-w1.ensures m.first_passed c.serve-p1.ensures n.first_passed;
      o2_after = client_laid p.0 p.2 c.sound-w2.ensures m.second_passed c.serve-p2.ensures n.second_passed;
      o3_after = client_laid p.0 p.3 c.sound-w3.ensures m.third_passed c.serve-p3.ensures n.third_passed;
      o4_after = client_laid p.0 p.4 c.sound-w4.ensures m.fourth_passed c.serve-p4.ensures n.fourth_passed;
    }
