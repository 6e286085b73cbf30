-- A contract leaves one answer. A contract is two claims: Q of what is handed over, which the caller shows; and P of what is handed over,
-- the result and the parameters at exit, which the caller learns. For a function F the toolchain makes both of the source: `Asked` and
-- `Learnt` of F.Reads. A theorem over these two names is about the contract itself, and not about a copy of it.
-- κs are the lifetimes of the references lent, a is what is handed over, z is the result, e the parameters at exit.
use Rattle.std.specs.Prelude.{◌≡◌}

module _ {K : Type 0} {A Z E : K → Type 0} (Q : (κs : K) → A κs → Type 0) (P : (κs : K) → A κs → Z κs → E κs → Type 0) where
  -- whatever is handed over as asked, two results of which the contract holds are the same
  abbrev pub OneResult : Type 0
  OneResult = (κs : K) (a : A κs) (z z' : Z κs) (e e' : E κs) → Q κs a → P κs a z e → P κs a z' e' → z ≡ z'

  -- and with the results what is seen of the parameters at exit, as what was lent by `&mut`
  abbrev pub OneOutcome : {S : Type 0} → ((κs : K) → E κs → S) → Type 0
  OneOutcome see =
      (κs : K) (a : A κs) (z z' : Z κs) (e e' : E κs) → Q κs a → P κs a z e → P κs a z' e' → (z ≡ z') × (see κs e ≡ see κs e')
