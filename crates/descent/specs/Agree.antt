-- "Prove that numbers, bytes and counts equal the first engine's for every list, document and room."
-- Two contracts agree, for functions that are handed the same: whatever each hands back, as its contract says, is alike.
-- κs are the lifetimes of the references lent, a is what is handed over, z and z' are the results, e and e' the parameters at exit.
use Rattle.std.specs.Prelude.{◌≡◌}

module _ {K : Type 0} {A Z Z' E E' : K → Type 0} (Q : (κs : K) → A κs → Type 0) (P : (κs : K) → A κs → Z κs → E κs → Type 0)
    (Q' : (κs : K) → A κs → Type 0) (P' : (κs : K) → A κs → Z' κs → E' κs → Type 0) where
  -- the results are alike, and what is seen of the parameters at exit is the same
  abbrev pub Agree : {S : Type 0} → ((κs : K) → Z κs → Z' κs → Type 0) → ((κs : K) → E κs → S) → ((κs : K) → E' κs → S) → Type 0
  Agree alike see see' =
      (κs : K) (a : A κs) (z : Z κs) (z' : Z' κs) (e : E κs) (e' : E' κs) → Q κs a → Q' κs a → P κs a z e → P' κs a z' e'
      → alike κs z z' × (see κs e ≡ see' κs e')
