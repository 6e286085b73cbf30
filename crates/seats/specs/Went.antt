-- A client's way through the tags of a tape: what it asks for, and what it comes to. A client that sits out asks for nothing, and all of
-- it stays. Names with a prime are of what is there afterwards.
use Rattle.std.specs.Prelude.{◌≡◌, Bool, true, false, List, ℕ, length}
use Rattle.paths.specs.Judge.{list_paths}
use Rattle.matcher.specs.Fit.{Serves}
use Rattle.trees.specs.Engine.{Engine}
use Rattle.trees.specs.Written.{verdicts}
use Rattle.passes.proofs.Passing.{counted_tests}
use Rattle.tape.specs.Taped.{Spot, Taped, behind}
use Rattle.seats.specs.Made.{RunStands, Came, starts_after, lens_after}
use Rattle.seats.specs.Seated.{Seated, Begun, seat_spot}
use Rattle.seats.specs.declared.seat.Seat.{Seat}

-- so many tags of the tape t are those of some items from the spot s on; behind these items the place `to` is reached, and whether the next
-- item is the document's first is `first`
pub record Lies (d t : List ℕ) (s : Spot) (tags to : ℕ) (first : Bool) : Type 0 where
  pub items : ℕ
  pub taped : Taped d t s items tags
  pub to_is : (behind d s items).at ≡ to
  pub first_is : (behind d s items).first ≡ first

-- by the tables tb of a sound list, from where the client stands through so many tags of the tape t
pub record Sits (live counts : Bool) (list tb d t starts lens : List ℕ) (s : Seat) (o g : List ℕ) (tags to : ℕ) (first : Bool) : Type 0
  where
    pub serves : live ≡ true → Serves list tb
    pub begun : live ≡ true → Begun counts list d starts lens s o g
    pub lies : live ≡ true → Lies d t (seat_spot d starts lens s) tags to first

-- Whatever the buffer was at the beginning, the client stands behind so many items; and whatever engine its run stood for, it stands for
-- what the items make of that.
pub record Went (counts : Bool) (list d starts lens : List ℕ) (s : Seat) (o g : List ℕ) (items : ℕ) (starts' lens' : List ℕ) (r : Seat)
    (o' g' : List ℕ) : Type 0 where
  pub seated : (o₀ : List ℕ) → Seated counts list d o₀ starts lens s o g → Seated counts list d o₀ starts' lens' r o' g'
  pub spot : seat_spot d starts' lens' r ≡ behind d (seat_spot d starts lens s) items
  pub came : (o₀ : List ℕ) (x : Engine) → RunStands d starts lens o₀ s.opened.level.0 s.at s.run o g x
      → Came (verdicts (list_paths list)) (counted_tests counts (list_paths list)) d (seat_spot d starts lens s) x s.tests s.run.kept
      items starts' lens' o₀ r.opened.level.0 r.at r.run r.tests o' g'
  pub starts_are : starts' ≡ starts_after d (seat_spot d starts lens s) starts items
  pub lens_are : lens' ≡ lens_after d (seat_spot d starts lens s) lens items
  pub room : length o' ≡ length o
  pub log_room : length g' ≡ length g

-- whatever items they are whose tags lie on the tape
abbrev pub WentBy : Bool → List ℕ → List ℕ → List ℕ → List ℕ → List ℕ → Seat → List ℕ → List ℕ → ℕ → ℕ → Bool → List ℕ → List ℕ → Seat
    → List ℕ → List ℕ → Type 0
WentBy counts list d t starts lens s o g tags to first starts' lens' r o' g' =
    (y : Lies d t (seat_spot d starts lens s) tags to first) → Went counts list d starts lens s o g y.items starts' lens' r o' g'

pub record Through (live counts : Bool) (list d t starts lens : List ℕ) (s : Seat) (o g : List ℕ) (tags to : ℕ) (first : Bool)
    (starts' lens' : List ℕ) (r : Seat) (o' g' : List ℕ) : Type 0 where
  pub went : live ≡ true → WentBy counts list d t starts lens s o g tags to first starts' lens' r o' g'
  pub stays : live ≡ false → (starts' ≡ starts) × (lens' ≡ lens) × (r ≡ s) × (o' ≡ o) × (g' ≡ g)
