-- `lay_char` meets its contract: by the four cases of UTF-8.
-- proofs/Laying.antt has the laws.
use Rattle.rows.proofs.Laying.{char_four, char_three, char_two, char_one}
use Rattle.rows.proofs.said.lay_char.Goals as goal

pub returns-then-c-lt128 : goal.returns-then-c-lt128
returns-then-c-lt128 c =
    let all = char_one c.if-c-lt128.true (c.lay.ensures.lays, c.lay.ensures.to_bound) in
    record {
      lays = all.0;
      to_bound = all.1;
    }

pub returns-then-c-lt2048 : goal.returns-then-c-lt2048
returns-then-c-lt2048 c =
    let all = char_two c.if-c-lt128.false c.if-c-lt2048.true
    c.later.ensures (c.lay_two.ensures.lays, c.lay_two.ensures.to_bound) in
    record {
      lays = all.0;
      to_bound = all.1;
    }

pub returns-then-c-lt65536 : goal.returns-then-c-lt65536
returns-then-c-lt65536 c =
    let all = char_three c.if-c-lt2048.false
    c.if-c-lt65536.true
    c.later-then-c-lt65536.ensures
    c.later-then-c-lt65536-2.ensures
    (c.lay-first.ensures.lays, c.lay-first.ensures.to_bound)
    (c.lay_two-rest.ensures.lays, c.lay_two-rest.ensures.to_bound) in
    record {
      lays = all.0;
      to_bound = all.1;
    }

pub returns : goal.returns
returns c =
    let all = char_four c.if-c-lt65536.false
    c.later-2.ensures
    c.later-3.ensures
    c.later-4.ensures
    (c.lay_two-first.ensures.lays, c.lay_two-first.ensures.to_bound)
    (c.lay_two-rest-2.ensures.lays, c.lay_two-rest-2.ensures.to_bound) in
    record {
      lays = all.0;
      to_bound = all.1;
    }
