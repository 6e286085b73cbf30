-- `word_at` meets its contract: the number that the library makes of the eight bytes is theirs.
-- proofs/Join.antt has the law.
use mathlib.Core.Path.{◌≡◌, ap, ◌∙◌}
use Prim.Native.Nat.{ℕ, ◌+◌, ◌-◌}
use native.Mathlib.Omega.{arith}
use lib.ListN.{length, take, drop}
use Rattle.words.specs.Word.{number_of}
use Rattle.words.proofs.Join.{word_is}
use Rattle.words.proofs.word.word_at.Goals as goal

pub returns : goal.returns
returns c =
    let start = c.args in
    let whole = rw c.unwrap.ensures at c.try_into.ensures.1 in
    let eight : (start.i + 8) - start.i ≡ 8 = omega arith in
    c.from_le_bytes.ensures
    ∙ word_is c.unwrap.result (ap length whole.same ∙ whole.long)
    ∙ ap number_of (whole.same ∙ ap (λ (n : ℕ). take n (drop start.i start.s.now)) eight)
