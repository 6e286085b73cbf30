-- `list` meets its contract: the version, and behind it all lines.
-- proofs/Laying.antt has the law.
use Rattle.packed.proofs.Laying.{list_laid}
use Rattle.packed.proofs.lay.list.Goals as goal

pub returns : goal.returns
returns c =
    list_laid c.args.text.now c.put.ensures c.lay_lines.ensures
