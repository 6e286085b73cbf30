-- `pass_of_four` meets its contract. Between two tapes the reader is where each client is that takes part: `Reading`, and four times
-- `Going`. The measure is what is left of the document. Each need is handed its law of proofs/Going.antt.
use Prim.Native.Nat.{◌-◌}
use lib.ListN.{length}
use Rattle.tape.specs.Taped.{spot_of}
use Rattle.together.proofs.Going.{Reading, Going}
use Rattle.together.proofs.pass_of_four.Given as goal

abbrev pub invariant-loop-why : goal.invariant-loop-why
invariant-loop-why l =
    Reading l.doc l.starts l.lens l.tape l.opened l.at
    × Going l.w1 l.counts l.l1 l.doc l.initial.o1 l.initial.g1 l.starts1 l.lens1 l.s1 l.o1 l.g1
    (spot_of l.doc l.starts l.lens l.opened l.at l.first)
    × Going l.w2 l.counts l.l2 l.doc l.initial.o2 l.initial.g2 l.starts2 l.lens2 l.s2 l.o2 l.g2
    (spot_of l.doc l.starts l.lens l.opened l.at l.first)
    × Going l.w3 l.counts l.l3 l.doc l.initial.o3 l.initial.g3 l.starts3 l.lens3 l.s3 l.o3 l.g3
    (spot_of l.doc l.starts l.lens l.opened l.at l.first)
    × Going l.w4 l.counts l.l4 l.doc l.initial.o4 l.initial.g4 l.starts4 l.lens4 l.s4 l.o4 l.g4
    (spot_of l.doc l.starts l.lens l.opened l.at l.first)

abbrev pub decreases-loop-why : goal.decreases-loop-why
decreases-loop-why l =
    length l.doc - l.at
