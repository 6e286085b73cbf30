-- `name_ends` meets its contract: no sum carries, and each byte of the result is the mask's.
-- proofs/Names.antt has both laws.
use Prim.Native.Nat.{◌^◌, ◌<◌}
use native.Mathlib.Omega.{arith}
use Rattle.words.proofs.Each.{each_lt}
use Rattle.words.proofs.Names.{letter_over, letter_under, digit_over, digit_under, no_slash, no_line, endings_are}
use Rattle.words.proofs.mask.name_ends.Goals as goal

pub overflow_add-letters : goal.overflow_add-letters
overflow_add-letters c = let h : c.args.w < 2 ^ 64 = omega arith in record { fits = each_lt (letter_over h) }

pub overflow_add-letters-2 : goal.overflow_add-letters-2
overflow_add-letters-2 c = let h : c.args.w < 2 ^ 64 = omega arith in record { fits = each_lt (letter_under h) }

pub overflow_add-digits : goal.overflow_add-digits
overflow_add-digits c = let h : c.args.w < 2 ^ 64 = omega arith in record { fits = each_lt (digit_over h) }

pub overflow_add-digits-2 : goal.overflow_add-digits-2
overflow_add-digits-2 c = let h : c.args.w < 2 ^ 64 = omega arith in record { fits = each_lt (digit_under h) }

pub overflow_add-digits-3 : goal.overflow_add-digits-3
overflow_add-digits-3 c = let h : c.args.w < 2 ^ 64 = omega arith in record { fits = each_lt (no_slash h) }

pub overflow_add-lines : goal.overflow_add-lines
overflow_add-lines c = let h : c.args.w < 2 ^ 64 = omega arith in record { fits = each_lt (no_line h) }

pub returns : goal.returns
returns c = let h : c.args.w < 2 ^ 64 = omega arith in endings_are h
