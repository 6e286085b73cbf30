-- `pack` meets its contract: where it is written, the packed form stands in front.
-- proofs/Answering.antt has the law.
use mathlib.Core.Path.{sym, ◌∙◌}
use Rattle.packed.proofs.Answering.{pack_laid}
use Rattle.packed.proofs.pack.Goals as goal

pub returns-clause-out_after : goal.returns-clause-out_after
returns-clause-out_after c =
    pack_laid c.args.text.now (sym c.answer.ensures ∙ c.in_ok-answer.was) c.args.out.now c.list-n.ensures c.if-out-n.false c.list.ensures
