-- `ascii8` meets its contract: the first byte that is set in the mask of the word.
-- proofs/Words.antt has the law.
use native.Mathlib.Omega.{arith}
use borrow.Author.Rules.{rules}
use Rattle.words.specs.Word.{is_no_name}
use Rattle.chars.proofs.Words.{word_first}
use Rattle.chars.proofs.name.ascii8.Goals as goal

pub returns : goal.returns
returns c =
    let start = c.args in
    word_first is_no_name start.s.now start.i (λ k. omega (arith, c.shared_slice_known-1.given k)) (search rules)
    c.word_at.ensures c.name_ends.ensures c.first.ensures
