-- `lay_field` meets its contract: its text is searched first, and then laid between quotes, or without.
-- proofs/Rowing.antt has the laws.
use native.Mathlib.Omega.{arith}
use Rattle.rows.specs.Tokens.{text_from}
use Rattle.rows.proofs.Rowing.{field_laid, quoted_near}
use Rattle.rows.proofs.gather.lay_field.Goals as goal

pub lay_text-laid-requires : goal.lay_text-laid-requires
lay_text-laid-requires c =
    let p = c.requires in (
      p.0,
      p.1,
      omega (
        arith,
        quoted_near c.lay_text-found.result.special
            c.quote-a.ensures,
        p.2,
      ),
    )

pub quote-requires : goal.quote-requires
quote-requires c =
    omega (
      arith,
      c.lay_text-laid.ensures.to_bound,
      quoted_near c.lay_text-found.result.special
          c.quote-a.ensures,
      c.requires.2,
    )

pub returns : goal.returns
returns c =
    let s = c.args in
    let all = field_laid (text_from 0 s.doc.now s.at) c.lay_text-found.ensures.lays.holds c.quote-a.ensures
    (c.lay_text-laid.ensures.lays, c.lay_text-laid.ensures.to_bound) c.quote.ensures in
    record {
      wrote = all.0;
      upper_bound = all.1;
    }
