-- `same_name` meets its contract: up to eight bytes are compared as two words, where both places have eight; else as a text.
-- proofs/Ending.antt has the law of the words.
use native.Mathlib.Omega.{arith}
use borrow.Author.Rules.{rules}
use Rattle.quick.proofs.Ending.{name_part, name_same}
use Rattle.quick.proofs.end.same_name.Goals as goal

pub returns-then-doc-x-ge8 : goal.returns-then-doc-x-ge8
returns-then-doc-x-ge8 c =
    name_same c.args.doc.now (λ k. omega (arith, c.shared_slice_known-1.given k))
    c.args.a c.args.x c.args.n (search rules) (search rules) (search rules)
    c.word_at.ensures c.word_at-then-doc-x-ge8.ensures c.first.ensures

pub returns : goal.returns
returns c =
    let start = c.args in
    name_part start.doc.now start.a start.x start.n c.stands.ensures
