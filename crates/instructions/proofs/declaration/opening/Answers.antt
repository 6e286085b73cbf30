-- `<?xml` and a version: one law for each return is in Declarations.
-- The sum fits, since `<?xml` stands inside the document.
use native.Mathlib.Omega.{arith}
use Rattle.instructions.proofs.Declarations.{opening_inside, opening}
use Rattle.instructions.proofs.declaration.opening.Goals as goal

pub returns-then-not-stands : goal.returns-then-not-stands
returns-then-not-stands c = search opening

pub overflow_add-at : goal.overflow_add-at
overflow_add-at c =
    let s = c.args in
    omega (arith, opening_inside s.doc.now s.at c.stands.ensures c.if-not-stands.false-raw)

pub setting-requires : goal.setting-requires
setting-requires c = search opening

pub returns : goal.returns
returns c = search opening
