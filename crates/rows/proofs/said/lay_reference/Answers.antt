-- `lay_reference` meets its contract: the character that it says, in UTF-8.
-- proofs/Saying.antt has the laws.
use Rattle.rows.proofs.Saying.{says_laid, says_fault, referring}
use Rattle.rows.proofs.said.lay_reference.Goals as goal

pub lay_char-requires : goal.lay_char-requires
lay_char-requires c = search referring

pub returns-in-Some : goal.returns-in-Some
returns-in-Some c =
    let all = says_laid c.args.raw.now
    c.reference.ensures c.in-Some.is
    (c.lay_char.ensures.lays, c.lay_char.ensures.to_bound) in
    record {
      lays = all.0;
      to_bound = all.1;
    }

pub returns-in-None : goal.returns-in-None
returns-in-None c =
    let all = says_fault c.args.raw.now c.reference.ensures
    c.in-None.is in
    record {
      lays = all.0;
      to_bound = all.1;
    }
