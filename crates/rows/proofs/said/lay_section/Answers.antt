-- `lay_section` meets its contract: what stands between its marks, or nothing where they do not fit.
-- proofs/Saying.antt has the laws.
use mathlib.Core.Path.{refl}
use Rattle.rows.proofs.Saying.{section_laid, section_none}
use Rattle.rows.proofs.said.lay_section.Goals as goal

pub returns-then-raw-lt12 : goal.returns-then-raw-lt12
returns-then-raw-lt12 c =
    let all = section_none c.args.raw.now c.if-raw-lt12.true in
    record {
      lays = all.0;
      to_bound = all.1;
    }

pub returns : goal.returns
returns c =
    let all = section_laid c.args.raw.now
    c.if-raw-lt12.false refl (c.lay_lines.ensures.lays, c.lay_lines.ensures.to_bound) in
    record {
      lays = all.0;
      to_bound = all.1;
    }
