-- `unpack` meets its contract: one law for each answer.
-- proofs/Answering.antt has them.
use lib.ListN.{length-replicate}
use Prim.Native.Nat.{ℕ}
use Rattle.packed.proofs.Answering.{unpack_long, unpack_none, unpack_short, unpack_written}
use Rattle.packed.proofs.unpack.Goals as goal

pub returns-then-n-gt-BYTES : goal.returns-then-n-gt-BYTES
returns-then-n-gt-BYTES c =
    let r =
    unpack_long c.args.packed.now c.args.out.now c.list-n.ensures c.if-n-gt-BYTES.true in
    record { value = r.0; out_after = r.1 }

pub returns-then-not-is_packed : goal.returns-then-not-is_packed
returns-then-not-is_packed c =
    let r =
    unpack_none c.args.packed.now c.args.out.now c.list-n.ensures (length-replicate {A = ℕ} 8192 0) c.if-n-gt-BYTES.false
    c.is_packed.ensures c.if-not-is_packed.true in
    record { value = r.0; out_after = r.1 }

pub returns-then-out-n : goal.returns-then-out-n
returns-then-out-n c =
    let r =
    unpack_short c.args.packed.now c.args.out.now c.list-n.ensures (length-replicate {A = ℕ} 8192 0) c.if-n-gt-BYTES.false
    c.is_packed.ensures c.if-not-is_packed.false c.if-out-n.true in
    record { value = r.0; out_after = r.1 }

pub returns : goal.returns
returns c =
    let r =
    unpack_written c.args.packed.now c.args.out.now c.list-n.ensures (length-replicate {A = ℕ} 8192 0) c.if-n-gt-BYTES.false
    c.is_packed.ensures c.if-not-is_packed.false c.if-out-n.false c.copy.ensures in
    record { value = r.0; out_after = r.1 }
