-- `is_packed` meets its contract: where the text was packed, the input is compared with it.
-- proofs/Answering.antt has the laws.
use native.Mathlib.Omega.{arith}
use Prim.Native.Nat.{ℕ}
use lib.ListN.{replicate, length-replicate}
use Rattle.packed.proofs.Answering.{equal_same, not_packed, written_inside, written_packed}
use Rattle.packed.proofs.is_packed.Goals as goal

pub slice_bounds-eq-end : goal.slice_bounds-eq-end
slice_bounds-eq-end c =
    let n =
    written_inside c.args.packed.now c.args.text.now (replicate 8833 0) (length-replicate {A = ℕ} 8833 0)
    c.pack.ensures.value c.in-Ok.is in
    omega arith

pub returns-in-Ok : goal.returns-in-Ok
returns-in-Ok c =
    written_packed c.args.packed.now c.args.text.now (replicate 8833 0) (length-replicate {A = ℕ} 8833 0)
    c.pack.ensures.value c.in-Ok.is c.pack.ensures.out_after (equal_same _ _ _ c.eq.ensures)

pub returns-in-Err : goal.returns-in-Err
returns-in-Err c =
    not_packed c.args.packed.now c.args.text.now (replicate 8833 0) (length-replicate {A = ℕ} 8833 0)
    c.pack.ensures.value c.in-Err.is
