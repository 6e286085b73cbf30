-- What stands behind the encoding: one law for each return is in Declarations.
-- The sum fits, since `?>` stands inside the document.
use native.Mathlib.Omega.{arith}
use Rattle.instructions.proofs.Declarations.{closing}
use Rattle.instructions.proofs.Over.{two_inside}
use Rattle.instructions.proofs.declaration.closing.Goals as goal

pub overflow_add-result : goal.overflow_add-result
overflow_add-result c =
    omega (
      arith,
      two_inside c.args.doc.now c.after_space-k.result 0x3F 0x3E c.stands.ensures
          c.if-stands.true,
    )

pub returns-then-stands : goal.returns-then-stands
returns-then-stands c = search closing

pub returns : goal.returns
returns c = search closing
