-- `mend` meets its contract:
-- too long, another encoding, or what is mended of the document of characters.
use Rattle.mend.proofs.Mending.{both, mend_long, mend_other, mend_rest}
use Rattle.mend.proofs.mend.Goals as goal

pub returns-then-doc-gt-BYTES : goal.returns-then-doc-gt-BYTES
returns-then-doc-gt-BYTES c =
    let all = both _ _ (mend_long _ _ c.if-doc-gt-BYTES.true) in
    record {
      value = all.0;
      out_after = all.1;
    }

pub returns-then-names_other : goal.returns-then-names_other
returns-then-names_other c =
    let all = both _ _ (mend_other _ _ c.if-doc-gt-BYTES.false c.start_of-start.ensures c.names_other.ensures c.if-names_other.true) in
    record {
      value = all.0;
      out_after = all.1;
    }

pub returns : goal.returns
returns c =
    let all = both _ _
    (mend_rest _ _ c.if-doc-gt-BYTES.false c.start_of-start.ensures c.names_other.ensures c.if-names_other.false
    c.readable_end-end.result c.readable_end-end.ensures.1 c.mended.ensures.value c.mended.ensures.out_after) in
    record {
      value = all.0;
      out_after = all.1;
    }
