-- Two results that the contract of `pass_of_four` allows are alike for each client, as two of `pass` are: the outcome but for the number of
-- notes; where the document is sound, every byte of the buffer, and what the notes stand for, unless some were left out. Buffer and log of
-- a client that sits out are equal. Over the contract that the toolchain makes of the source.
use mathlib.Core.Path.{◌≡◌, sym, ◌∙◌}
use mathlib.Core.Bool.{Bool, true, false}
use mathlib.Core.List.{List}
use Prim.Native.Nat.{ℕ}
use Rattle.std.specs.Prelude.{Result, Ok}
use Rattle.document.specs.Judge.{scanned}
use Rattle.document.specs.declared.ItemError.{ItemError}
use Rattle.notes.specs.Alike.{Alike}
use Rattle.passes.specs.declared.Measured.{Measured}
use Rattle.passes.proofs.OneAnswer.{unnoted, Same, outcome_one, sound_one}
use Rattle.together.specs.Joined.{PassedFor}
use Rattle.together.proofs.pass_of_four.Reads as pass_of_four

pub record SameFor (live : Bool) (d : List ℕ) (r : Result Measured ItemError) (o g : List ℕ) (r' : Result Measured ItemError)
    (o' g' : List ℕ) : Type 0 where
  pub outcome : live ≡ true → unnoted r ≡ unnoted r'
  pub sound : live ≡ true → scanned d ≡ Ok tt → Same d r o g r' o' g'
  pub stays : live ≡ false → (o ≡ o') × (g ≡ g')

client_one : (live counts : Bool) (list d o₀ g₀ : List ℕ) (r r' : Result Measured ItemError) (o g o' g' : List ℕ)
    → PassedFor live counts list d o₀ g₀ r o g
    → PassedFor live counts list d o₀ g₀ r' o' g' → SameFor live d r o g r' o' g'
client_one live counts list d o₀ g₀ r r' o g o' g' p q =
    record {
      outcome = λ z. outcome_one counts list d o₀ r r' o g o' g' (p.passed z) (q.passed z);
      sound = λ z. sound_one counts list d o₀ r r' o g o' g' (p.passed z) (q.passed z);
      stays = λ z. ((p.stays z).0 ∙ sym (q.stays z).0, (p.stays z).1 ∙ sym (q.stays z).1);
    }

-- `pass_of_four`
pub pass_of_four_one : Alike pass_of_four.Asked pass_of_four.Learnt
    (λ κs a z e z' e'. SameFor a.1.1.1.1.1.1.1.1.1.0 a.1.1.1.1.1.1.1.1.1.1.1.1.1.1.0.now
    z.first e.1.1.1.1.1.1.1.1.1.1.1.1.1.1.1.0.now
    e.1.1.1.1.1.1.1.1.1.1.1.1.1.1.1.1.1.1.1.0.now
    z'.first e'.1.1.1.1.1.1.1.1.1.1.1.1.1.1.1.0.now
    e'.1.1.1.1.1.1.1.1.1.1.1.1.1.1.1.1.1.1.1.0.now
    × SameFor a.1.1.1.1.1.1.1.1.1.1.0 a.1.1.1.1.1.1.1.1.1.1.1.1.1.1.0.now
    z.second e.1.1.1.1.1.1.1.1.1.1.1.1.1.1.1.1.0.now
    e.1.1.1.1.1.1.1.1.1.1.1.1.1.1.1.1.1.1.1.1.0.now
    z'.second e'.1.1.1.1.1.1.1.1.1.1.1.1.1.1.1.1.0.now
    e'.1.1.1.1.1.1.1.1.1.1.1.1.1.1.1.1.1.1.1.1.0.now
    × SameFor a.1.1.1.1.1.1.1.1.1.1.1.0 a.1.1.1.1.1.1.1.1.1.1.1.1.1.1.0.now
    z.third e.1.1.1.1.1.1.1.1.1.1.1.1.1.1.1.1.1.0.now
    e.1.1.1.1.1.1.1.1.1.1.1.1.1.1.1.1.1.1.1.1.1.0.now
    z'.third e'.1.1.1.1.1.1.1.1.1.1.1.1.1.1.1.1.1.0.now
    e'.1.1.1.1.1.1.1.1.1.1.1.1.1.1.1.1.1.1.1.1.1.0.now
    × SameFor a.1.1.1.1.1.1.1.1.1.1.1.1.0 a.1.1.1.1.1.1.1.1.1.1.1.1.1.1.0.now
    z.fourth e.1.1.1.1.1.1.1.1.1.1.1.1.1.1.1.1.1.1.0.now
    e.1.1.1.1.1.1.1.1.1.1.1.1.1.1.1.1.1.1.1.1.1.1.0.now
    z'.fourth e'.1.1.1.1.1.1.1.1.1.1.1.1.1.1.1.1.1.1.0.now
    e'.1.1.1.1.1.1.1.1.1.1.1.1.1.1.1.1.1.1.1.1.1.1.0.now)
pass_of_four_one κs a z z' e e' x p q = (
  client_one _ _ _ _ _ _ z.first z'.first _ _ _ _ p.0 q.0,
  client_one _ _ _ _ _ _ z.second z'.second _ _ _ _ p.1.0 q.1.0,
  client_one _ _ _ _ _ _ z.third z'.third _ _ _ _ p.1.1.0 q.1.1.0,
  client_one _ _ _ _ _ _ z.fourth z'.fourth _ _ _ _ p.1.1.1 q.1.1.1,
)
