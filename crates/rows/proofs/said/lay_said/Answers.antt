-- `lay_said` meets its contract: by the first bytes of the item.
-- proofs/Saying.antt has the laws.
use Rattle.rows.proofs.Saying.{said_text, said_reference, said_markup, said_section}
use Rattle.rows.proofs.said.lay_said.Goals as goal

pub returns-then-stands : goal.returns-then-stands
returns-then-stands c =
    let all = said_section c.args.raw.now
    c.stands.ensures c.if-stands.true
    (c.lay_section.ensures.lays, c.lay_section.ensures.to_bound) in
    record {
      lays = all.0;
      to_bound = all.1;
    }

pub returns-then-stands-2 : goal.returns-then-stands-2
returns-then-stands-2 c =
    let all = said_markup c.args.raw.now
    c.stands.ensures c.if-stands.false c.stands-2.ensures
    c.if-stands-2.true in
    record {
      lays = all.0;
      to_bound = all.1;
    }

pub returns-then-stands-3 : goal.returns-then-stands-3
returns-then-stands-3 c =
    let all = said_reference c.args.raw.now c.stands.ensures
    c.if-stands.false
    c.stands-2.ensures
    c.if-stands-2.false c.stands-3.ensures
    c.if-stands-3.true (c.lay_reference.ensures.lays, c.lay_reference.ensures.to_bound) in
    record {
      lays = all.0;
      to_bound = all.1;
    }

pub returns : goal.returns
returns c =
    let all = said_text c.args.raw.now c.stands.ensures
    c.if-stands.false
    c.stands-2.ensures
    c.if-stands-2.false c.stands-3.ensures
    c.if-stands-3.false (c.lay_lines.ensures.lays, c.lay_lines.ensures.to_bound) in
    record {
      lays = all.0;
      to_bound = all.1;
    }
