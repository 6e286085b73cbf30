-- A quote, what stands in it, and the same quote again.
-- One law for each return is in Declarations.
use Rattle.instructions.proofs.Declarations.{quoting}
use Rattle.instructions.proofs.declaration.quoted.Goals as goal

pub returns-then-at-doc : goal.returns-then-at-doc
returns-then-at-doc c = search quoting

pub returns-then-q : goal.returns-then-q
returns-then-q c = search quoting

pub returns-in_err-e : goal.returns-in_err-e
returns-in_err-e c = rw c.from_residual.ensures (search (quoting, c.in_err-e.was))

pub returns : goal.returns
returns c = search (quoting, c.in_ok-e.was)
