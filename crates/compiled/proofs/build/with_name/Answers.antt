-- `with_name` meets its contract: no bytes are `*`;
-- a name that is found keeps its place; a new one is stored after the others.
use Rattle.compiled.proofs.Enter.{enter_any, enter_there, enter_new}
use Rattle.compiled.proofs.build.with_name.Goals as goal

pub returns-then-n-eq0 : goal.returns-then-n-eq0
returns-then-n-eq0 c =
    enter_any c.if-n-eq0.true

pub returns-then-k-ne0 : goal.returns-then-k-ne0
returns-then-k-ne0 c =
    enter_there c.args.names c.args.a c.args.n c.requires.1
    c.if-n-eq0.false c.find-k.ensures c.if-k-ne0.true

pub returns : goal.returns
returns c =
    enter_new c.args.names c.args.a c.args.n c.requires.1
    c.if-n-eq0.false
    c.find-k.ensures c.if-k-ne0.false
    c.requires.0 c.hash-h.ensures.0
