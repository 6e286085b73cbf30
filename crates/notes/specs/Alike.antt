-- Two results that a contract allows are alike: what `OneOutcome` of the crate contracts is where they are equal. The same text can be
-- noted in more ways than one, so of a function that hands notes over not every number is told by its contract.
-- κs are the lifetimes of the references lent, a is what is handed over, z is the result, e the parameters at exit.
module _ {K : Type 0} {A Z E : K → Type 0} (Q : (κs : K) → A κs → Type 0) (P : (κs : K) → A κs → Z κs → E κs → Type 0) where
  -- whatever is handed over as asked, two results of which the contract holds are as R has it
  abbrev pub Alike : ((κs : K) → A κs → Z κs → E κs → Z κs → E κs → Type 0) → Type 0
  Alike R = (κs : K) (a : A κs) (z z' : Z κs) (e e' : E κs) → Q κs a → P κs a z e → P κs a z' e' → R κs a z e z' e'
