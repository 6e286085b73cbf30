-- `sent_bits` meets its contract. The invariant: a run from here on gives what it gives from the line's front. The measure is what is left
-- of the list. proofs/Sent.antt has the laws.
use Rattle.covers.proofs.Sent.{sending}
use Rattle.covers.proofs.sending.sent_bits.Goals as goal

pub loop-step-init : goal.loop-step-init
loop-step-init c = search sending

pub overflow_add-stop : goal.overflow_add-stop
overflow_add-stop c = search sending

pub slice_bounds-fit_for-end : goal.slice_bounds-fit_for-end
slice_bounds-fit_for-end c = search sending

pub loop-step-smaller : goal.loop-step-smaller
loop-step-smaller c = search sending

pub loop-step-preserved : goal.loop-step-preserved
loop-step-preserved c = search sending

pub returns-in-None : goal.returns-in-None
returns-in-None c = search sending
