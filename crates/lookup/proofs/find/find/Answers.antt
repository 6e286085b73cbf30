-- `find` meets its contract. The loop's invariant: whatever names the tables are of, the chain from k on goes to the place of the name.
-- The measure is k: a link goes down.
use native.Mathlib.Omega.{arith}
use borrow.Author.Rules.{rules}
use Rattle.lookup.proofs.Search.{finding, tables_heads, room_next, find_here, find_more}
use Rattle.lookup.proofs.find.find.Goals as goal

pub bounds-head-hash : goal.bounds-head-hash
bounds-head-hash c =
    let l = tables_heads c.requires in omega (
      arith,
      c.hash.ensures.1,
    )

pub loop-k-init : goal.loop-k-init
loop-k-init c = rw c.from-k.ensures (search finding)

pub bounds-at-k : goal.bounds-at-k
bounds-at-k c = search finding

pub bounds-len-k : goal.bounds-len-k
bounds-len-k c = search finding

pub same-requires : goal.same-requires
same-requires c = rw (c.from.ensures, c.from-in-loop-k.ensures) (search finding)

pub returns-then-same : goal.returns-then-same
returns-then-same c =
    find_here c.loop-k.invariant (search rules) (rw (c.from.ensures, c.from-in-loop-k.ensures) at c.same.ensures) c.if-same.true

pub bounds-next-k : goal.bounds-next-k
bounds-next-k c =
    room_next c.loop-k.invariant (search rules)

pub loop-k-smaller : goal.loop-k-smaller
loop-k-smaller c = rw c.from-k-in-loop-k.ensures (search finding)

pub loop-k-preserved : goal.loop-k-preserved
loop-k-preserved c =
    rw c.from-k-in-loop-k.ensures
    (find_more c.loop-k.invariant (search rules) (rw (c.from.ensures, c.from-in-loop-k.ensures) at c.same.ensures) c.if-same.false)

pub returns : goal.returns
returns c = search finding
