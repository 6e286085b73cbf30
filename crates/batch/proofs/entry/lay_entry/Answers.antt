-- `lay_entry` meets its contract:
-- the cut stands behind four bytes, which then say its length.
use Rattle.batch.proofs.Entering.{entry_laid}
use Rattle.batch.proofs.entry.lay_entry.Goals as goal

pub returns : goal.returns
returns c =
    let all = entry_laid _ _ _ c.requires.1 c.cut_by_with.ensures.value c.cut_by_with.ensures.out_after c.told-part.ensures
    c.lay_length.ensures in
    record {
      value = all.0;
      out_after = all.1;
    }
