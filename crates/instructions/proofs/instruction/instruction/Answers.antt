-- The instruction: one law for each return is in Instructions.
-- The sums fit, since `<?` stands inside the document.
use native.Mathlib.Omega.{arith}
use Rattle.instructions.proofs.Instructions.{opened_inside, instructing}
use Rattle.instructions.proofs.instruction.instruction.Goals as goal

pub returns-then-not-stands : goal.returns-then-not-stands
returns-then-not-stands c = search instructing

pub overflow_add-at : goal.overflow_add-at
overflow_add-at c =
    let s = c.args in
    omega (arith, opened_inside s.doc.now s.at c.stands.ensures c.if-not-stands.false-raw)

pub overflow_add-at-2 : goal.overflow_add-at-2
overflow_add-at-2 c =
    let s = c.args in
    omega (arith, opened_inside s.doc.now s.at c.stands.ensures c.if-not-stands.false-raw)

pub returns-in_err-e : goal.returns-in_err-e
returns-in_err-e c = rw c.from_residual.ensures (search (instructing, c.in_err-e.was))

pub is_xml-requires : goal.is_xml-requires
is_xml-requires c = search (instructing, c.in_ok-e.was)

pub returns-then-is_xml : goal.returns-then-is_xml
returns-then-is_xml c = search (instructing, c.in_ok-e.was)

pub instruction_end-requires : goal.instruction_end-requires
instruction_end-requires c = search (instructing, c.in_ok-e.was)

pub returns : goal.returns
returns c = search (instructing, c.in_ok-e.was)
