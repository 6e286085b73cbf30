-- `rows_by` meets its contract: too long, another encoding, a sequence that is no character, or what is said of a document of characters.
use mathlib.Core.Path.{sym, ◌∙◌}
use Rattle.document.proofs.Judging.{judged_named}
use Rattle.sheet.proofs.Answering.{both_by, by_long, by_other, by_char}
use Rattle.sheet.proofs.rows_by.Goals as goal

pub returns-then-doc-gt-BYTES : goal.returns-then-doc-gt-BYTES
returns-then-doc-gt-BYTES c =
    let all = both_by _ _ _ (by_long _ _ _ c.if-doc-gt-BYTES.true) in
    rw c.from.ensures record {
      value = all.0;
      out_after = all.1;
    }

pub returns-then-names_other : goal.returns-then-names_other
returns-then-names_other c =
    let all = both_by _ _ _ (by_other _ _ _ c.if-doc-gt-BYTES.false c.start_of-start.ensures c.names_other.ensures c.if-names_other.true) in
    rw c.from-then-names_other.ensures record {
      value = all.0;
      out_after = all.1;
    }

pub written-requires : goal.written-requires
written-requires c = (
  c.requires,
  c.if-doc-gt-BYTES.false,
  judged_named _ c.start_of-start.ensures c.names_other.ensures c.if-names_other.false,
  sym c.check.ensures ∙ c.in-Ok.is,
)

pub returns-in-Err : goal.returns-in-Err
returns-in-Err c =
    let n = judged_named _ c.start_of-start.ensures c.names_other.ensures c.if-names_other.false in
    let all = both_by _ _ _ (by_char _ _ _ c.if-doc-gt-BYTES.false n c.check.ensures c.in-Err.is) in
    rw c.from-in-Err.ensures record {
      value = all.0;
      out_after = all.1;
    }
