-- `through` meets its contract:
-- a client that is live goes through the tags, and one that sits out stays as it is.
use mathlib.Core.Path.{refl, sym, ◌∙◌}
use mathlib.Core.Bool.{false≢true}
use Rattle.seats.proofs.seat.through.Goals as goal

pub all_through-requires : goal.all_through-requires
all_through-requires c =
    let live = c.if-live.true in (
      c.requires.0,
      c.requires.1,
      c.requires.2,
      c.requires.3.serves live,
      c.requires.3.begun live,
      c.requires.3.lies live,
    )

pub returns-then-live : goal.returns-then-live
returns-then-live c =
    record {
      went = λ e. c.all_through.ensures;
      stays = λ e. absurd (false≢true (sym e ∙ c.if-live.true));
    }

pub returns : goal.returns
returns c =
    record { went = λ e. absurd (false≢true (sym c.if-live.false ∙ e)); stays = λ e. (refl, refl, refl, refl, refl) }
