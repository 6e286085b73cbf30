-- `Seat::none` meets its contract:
-- each field is as it says.
use Rattle.seats.proofs.seat.Seat.none.Goals as goal

pub returns : goal.returns
returns c = cc
