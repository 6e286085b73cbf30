-- Five bytes, letters tested in both cases, are `UTF-8`; another length is not.
-- One law for each return is in Declarations.
use native.Mathlib.Omega.{arith}
use Rattle.instructions.proofs.Declarations.{utf8_other}
use Rattle.instructions.proofs.declaration.is_utf8.Goals as goal

pub returns : goal.returns
returns c =
    let n = c.if-to-from-eq5.false in
    utf8_other c.args.doc.now c.args.from c.args.to c.requires.0 c.requires.1 (λ e. omega arith)
