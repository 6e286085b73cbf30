-- `all_through` meets its contract. The invariant is `Gone`: from wherever the client stood, what it has come to is a pass in itself, and
-- it stands behind k tags. Each need is handed its law of proofs/Going.antt.
-- where the client began, and whether at the document's first item, is asked for no more
use mathlib.Core.Bool.{Bool}
use Prim.Native.Nat.{ℕ}
use Rattle.seats.specs.Seated.{Begun, seat_spot}
use Rattle.seats.specs.Went.{Lies}
use Rattle.seats.proofs.Going.{Gone}
use Rattle.seats.proofs.seat.all_through.Given as goal

abbrev pub invariant-loop-k : goal.invariant-loop-k
invariant-loop-k l =
    (a : ℕ) (b : Bool)
    → Begun l.counts l.list l.doc l.initial.starts l.initial.lens
    (record { run = l.initial.run; opened = l.initial.opened; at = a; first = b; tests = l.initial.tests }) l.initial.out l.initial.log
    → (y : Lies l.doc l.tape
    (seat_spot l.doc l.initial.starts l.initial.lens (record {
      run = l.initial.run;
      opened = l.initial.opened;
      at = a;
      first = b;
      tests = l.initial.tests;
    })) l.tags l.to l.first)
    → Gone l.counts l.list l.t l.doc l.tape y.items l.tags l.initial.starts l.initial.lens
    (record { run = l.initial.run; opened = l.initial.opened; at = a; first = b; tests = l.initial.tests }) l.initial.out l.initial.log
    l.states l.memo l.slots l.starts l.lens l.opened l.run l.tests
    l.k l.out l.log
