-- `end_tags` meets its contract. The invariant is `Closing`: the end tags of the levels from `level` on are laid.
use Rattle.mend.proofs.Closing.{Closing}
use Rattle.mend.proofs.laid.end_tags.Given as goal

abbrev pub invariant-loop-level : goal.invariant-loop-level
invariant-loop-level l = Closing l.doc l.starts l.lens l.initial.out l.at l.fn.opened.level.0 l.level l.end l.out
