-- `two_colons` meets its contract. The loop's invariant: two colons stand side by side in the name just if they do from the place i on.
-- proofs/Colons.antt has the laws.
use Rattle.paths.proofs.Colons.{Apart}
use Rattle.paths.proofs.two_colons.Given as goal

abbrev pub invariant-loop-i : goal.invariant-loop-i
invariant-loop-i l = Apart l.name l.i
