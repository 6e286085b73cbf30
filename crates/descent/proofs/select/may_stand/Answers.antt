-- `may_stand` meets its contract, by the kinds.
-- What the kinds share is in the crate `matcher`.
use Rattle.descent.proofs.Places.{standing}
use Rattle.descent.proofs.select.may_stand.Goals as goal

pub returns-in-Child : goal.returns-in-Child
returns-in-Child c = search standing

pub returns-in-Descendant : goal.returns-in-Descendant
returns-in-Descendant c = search standing

pub returns-in-SelfStep : goal.returns-in-SelfStep
returns-in-SelfStep c = search standing

pub returns-in-DescendantOrSelf : goal.returns-in-DescendantOrSelf
returns-in-DescendantOrSelf c = search standing
