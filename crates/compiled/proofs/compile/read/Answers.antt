-- `read` meets its contract:
-- a sound list is compiled, and any other has no path.
use mathlib.Core.Path.{refl, sym, ◌∙◌}
use Rattle.compiled.proofs.Reading.{read_refused}
use Rattle.compiled.proofs.compile.read.Goals as goal

pub compile-requires : goal.compile-requires
compile-requires c = (sym c.answer.ensures ∙ c.in_ok-answer.was, refl)

pub returns-in_err-answer-clause-t_after : goal.returns-in_err-answer-clause-t_after
returns-in_err-answer-clause-t_after c = read_refused c.args.list.now c.answer.ensures c.in_err-answer.was
