-- Two results that a writer's contract allows are equal, the place after the text and the buffer with it: one theorem for each writer, over
-- the contract that the toolchain makes of the source. All four contracts have one form, `Wrote`.
use mathlib.Core.Path.{◌≡◌, sym, ◌∙◌}
use mathlib.Core.List.{List}
use Prim.Native.Nat.{ℕ}
use Rattle.contracts.specs.One.{OneOutcome}
use Rattle.writer.specs.Wrote.{Wrote}
use Rattle.writer.proofs.put.Reads as put
use Rattle.writer.proofs.copy.Reads as copy
use Rattle.writer.proofs.start_tag.Reads as start_tag_lem
use Rattle.writer.proofs.end_tag.Reads as end_tag_lem

pub wrote_one : {o o₁ o₂ s : List ℕ} {at r₁ r₂ : ℕ} → Wrote o at s r₁ o₁ → Wrote o at s r₂ o₂ → (r₁ ≡ r₂) × (o₁ ≡ o₂)
wrote_one p q = (p.long ∙ sym q.long, p.laid ∙ sym q.laid)

-- `put`
pub put_one : OneOutcome put.Asked put.Learnt (λ κs e. e.0.now)
put_one κs a z z' e e' x = wrote_one

-- `copy`
pub copy_one : OneOutcome copy.Asked copy.Learnt (λ κs e. e.0.now)
copy_one κs a z z' e e' x = wrote_one

-- `start_tag`
pub start_tag_one : OneOutcome start_tag_lem.Asked start_tag_lem.Learnt (λ κs e. e.0.now)
start_tag_one κs a z z' e e' x = wrote_one

-- `end_tag`
pub end_tag_one : OneOutcome end_tag_lem.Asked end_tag_lem.Learnt (λ κs e. e.0.now)
end_tag_one κs a z z' e e' x = wrote_one
