-- `before16` meets its contract: where the first word has no mark, the first mark is that of the second, eight bytes on.
-- proofs/Words.antt has the laws.
use native.Mathlib.Omega.{arith}
use borrow.Author.Rules.{rules}
use Rattle.readers.specs.Plain.{is_mark}
use Rattle.words.specs.Word.{one_of}
use Rattle.words.proofs.First.{first_le}
use Rattle.scans.proofs.Words.{first_word, second_word}
use Rattle.scans.proofs.mark.before16.Goals as goal

pub overflow_add-result : goal.overflow_add-result
overflow_add-result c = omega (arith, c.first.ensures, first_le c.marks-back.result)

pub returns-then-front-eq0 : goal.returns-then-front-eq0
unfolding is_mark one_of
returns-then-front-eq0 c =
    let start = c.args in
    second_word (is_mark start.q) start.s.now start.i (λ k. omega (arith, c.shared_slice_known-1.given k)) (search rules)
    c.word_at.ensures c.marks-front.ensures c.if-front-eq0.true
    c.word_at-2.ensures c.marks-back.ensures c.first.ensures

pub returns : goal.returns
unfolding is_mark one_of
returns c =
    let start = c.args in
    first_word (is_mark start.q) start.s.now start.i (λ k. omega (arith, c.shared_slice_known-1.given k)) (search rules)
    c.word_at.ensures c.marks-front.ensures c.if-front-eq0.false c.first-2.ensures
