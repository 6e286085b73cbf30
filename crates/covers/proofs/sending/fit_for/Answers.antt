-- `fit_for` meets its contract, by the kinds.
-- proofs/Sent.antt has the laws.
use Rattle.covers.proofs.Sent.{fitting}
use Rattle.covers.proofs.sending.fit_for.Goals as goal

pub returns-in-Child : goal.returns-in-Child
returns-in-Child c = search fitting

pub returns-in-Descendant : goal.returns-in-Descendant
returns-in-Descendant c = search fitting

pub returns-in-SelfStep : goal.returns-in-SelfStep
returns-in-SelfStep c = search fitting

pub returns-in-DescendantOrSelf : goal.returns-in-DescendantOrSelf
returns-in-DescendantOrSelf c = search fitting
