-- Two results that the contract of `told` allows show the same bytes, over the contract that the toolchain makes of the source.
-- The result is a part of the buffer, which is lent for as long as the result is used.
use mathlib.Core.Path.{◌≡◌, sym, ◌∙◌}
use contract.Lifetimes.{Lfts}
use denote.Triple.Clauses.{AtExit}
use borrow.Fn.Kinds.{Dens, res_t, ended_of}
use Rattle.report.proofs.told.Kinds as kinds
use Rattle.report.proofs.told.Reads as told

pub told_one : (κs : Lfts 3) (a : Dens κs kinds.ps) (z z' : (res_t kinds.r κs).Denot) (e e' : AtExit (ended_of 3 kinds.ps kinds.r) κs)
    → told.Learnt κs a z e → told.Learnt κs a z' e' → z.now ≡ z'.now
told_one κs a z z' e e' p q = p ∙ sym q
