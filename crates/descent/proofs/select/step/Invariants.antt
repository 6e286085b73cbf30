-- `step` meets its contract. The invariant: the places up to p are found, and those behind it are as they were; `right` and `above` tell of
-- those that the step before can have. proofs/Places.antt has the laws.
use Rattle.descent.specs.Places.{passes_by, name_at}
use Rattle.descent.proofs.Places.{Trying}
use Rattle.descent.proofs.select.step.Given as goal

abbrev pub invariant-loop-p : goal.invariant-loop-p
invariant-loop-p l =
    Trying l.kind (passes_by l.list l.test l.len) (name_at l.doc l.starts l.lens) l.level l.initial.can l.can l.right l.above l.p
