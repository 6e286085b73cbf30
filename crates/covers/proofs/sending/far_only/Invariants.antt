-- `far_only` meets its contract. The invariant: the first p entries are masked.
-- proofs/Sent.antt has the laws.
use Rattle.covers.proofs.Sent.{Masking}
use Rattle.covers.proofs.sending.far_only.Given as goal

abbrev pub invariant-loop-p : goal.invariant-loop-p
invariant-loop-p l = Masking l.fit.passes l.fit.far l.passes l.p
