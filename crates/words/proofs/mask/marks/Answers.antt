-- `marks` meets its contract: no sum carries, and each byte of the result is the mask's.
-- proofs/Marks.antt has both laws.
use Prim.Native.Nat.{◌^◌, ◌<◌}
use native.Mathlib.Omega.{arith}
use Rattle.words.proofs.Marks.{differs_lt, marks_are}
use Rattle.words.proofs.mask.marks.Goals as goal

pub overflow_add-others : goal.overflow_add-others
overflow_add-others c = let h : c.args.w < 2 ^ 64 = omega arith in record { fits = differs_lt h c.args.a c.requires.0 }

pub overflow_add-others-2 : goal.overflow_add-others-2
overflow_add-others-2 c = let h : c.args.w < 2 ^ 64 = omega arith in record { fits = differs_lt h c.args.b c.requires.1 }

pub overflow_add-others-3 : goal.overflow_add-others-3
overflow_add-others-3 c = let h : c.args.w < 2 ^ 64 = omega arith in record { fits = differs_lt h c.args.c c.requires.2 }

pub returns : goal.returns
returns c =
    let h : c.args.w < 2 ^ 64 = omega arith in
    marks_are h c.args.a c.args.b c.args.c c.requires.0 c.requires.1 c.requires.2
