-- Two results that the contract of `choughbell_four` or `choughbell_four_with` allows are equal, over the contracts that the toolchain
-- makes of the source: all sixteen numbers and every byte of the four buffers. Of the logs nothing is said.
use mathlib.Core.Path.{refl, sym, ◌∙◌}
use mathlib.Core.List.{[], ◌∷◌}
use Rattle.contracts.specs.One.{OneOutcome}
use Rattle.clients.proofs.Results.{all_same}
use Rattle.clients_c.proofs.choughbell_four.Reads as four
use Rattle.clients_c.proofs.choughbell_four_with.Reads as four_with

pub four_one : OneOutcome four.Asked four.Learnt
    (λ κs e. e.1.1.1.1.1.1.1.1.1.0.now ∷ e.1.1.1.1.1.0.now ∷ e.1.1.1.1.1.1.0.now ∷ e.1.1.1.1.1.1.1.0.now ∷ e.1.1.1.1.1.1.1.1.0.now ∷ [])
four_one κs a z z' e e' x p q = (
  refl,
  all_same (p.0 ∙ sym q.0) (p.1.0 ∙ sym q.1.0) (p.1.1.0 ∙ sym q.1.1.0) (p.1.1.1.0 ∙ sym q.1.1.1.0)
      (p.1.1.1.1 ∙ sym q.1.1.1.1),
)

pub four_with_one : OneOutcome four_with.Asked four_with.Learnt
    (λ κs e. e.1.1.1.1.1.1.1.1.1.1.1.1.1.0.now ∷ e.1.1.1.1.1.0.now ∷ e.1.1.1.1.1.1.0.now ∷ e.1.1.1.1.1.1.1.0.now ∷ e.1.1.1.1.1.1.1.1.0.now ∷
    [])
four_with_one κs a z z' e e' x p q = (
  refl,
  all_same (p.0 ∙ sym q.0) (p.1.0 ∙ sym q.1.0) (p.1.1.0 ∙ sym q.1.1.0) (p.1.1.1.0 ∙ sym q.1.1.1.0)
      (p.1.1.1.1 ∙ sym q.1.1.1.1),
)
