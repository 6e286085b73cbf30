-- `laid` meets its contract: no root, no room,
-- or the bytes that are kept and the end tags.
use Rattle.mend.proofs.Laying.{not_false, laid_mended, laid_bytes}
use Rattle.mend.proofs.laid.laid.Goals as goal

pub returns : goal.returns
returns c = record {
  value = laid_mended _ _ _ c.args.opened _ c.requires.2 c.end_tags-length.ensures _ (not_false _ c.if-not-opened.false)
      c.if-out-length.false;
  out_after = laid_bytes _ _ _ c.args.opened _ c.requires.2 c.end_tags-length.ensures c.if-out-length.false c.copy-end.ensures
      c.end_tags.ensures;
}
