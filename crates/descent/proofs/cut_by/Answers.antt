-- `cut_by` meets its contract: too long, another encoding, a sequence that is no character, or what is said of a document of characters.
-- proofs/Answering.antt has the laws.
use mathlib.Core.Path.{sym, ◌∙◌}
use Rattle.document.proofs.Judging.{judged_named}
use Rattle.descent.proofs.Answering.{plain_long, plain_other, plain_char}
use Rattle.descent.proofs.cut_by.Goals as goal

pub returns-then-doc-gt-BYTES : goal.returns-then-doc-gt-BYTES
returns-then-doc-gt-BYTES c =
    let all = plain_long _ _ _ c.if-doc-gt-BYTES.true in
    rw c.from.ensures record {
      value = all.0;
      out_after = all.1;
    }

pub returns-then-names_other : goal.returns-then-names_other
returns-then-names_other c =
    let s = c.start_of-start.ensures in
    let n = c.names_other.ensures in
    let all = plain_other _ _ _ c.if-doc-gt-BYTES.false s n c.if-names_other.true in
    rw c.from-then-names_other.ensures record {
      value = all.0;
      out_after = all.1;
    }

pub written-requires : goal.written-requires
written-requires c =
    let s = c.start_of-start.ensures in
    let n = c.names_other.ensures in (
      c.requires,
      c.if-doc-gt-BYTES.false,
      judged_named _ s n c.if-names_other.false,
      sym c.check.ensures ∙ c.in-Ok.is,
    )

pub returns-in-Err : goal.returns-in-Err
returns-in-Err c =
    let s = c.start_of-start.ensures in
    let n = c.names_other.ensures in
    let l = c.if-doc-gt-BYTES.false in
    let u = judged_named _ s n c.if-names_other.false in
    let all = plain_char _ _ _ l u c.check.ensures c.in-Err.is in
    rw c.from-in-Err.ensures record {
      value = all.0;
      out_after = all.1;
    }
