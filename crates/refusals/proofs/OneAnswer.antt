-- Two results that the contract of `fault_of` allows are equal, over the contract that the toolchain makes of the source.
use mathlib.Core.Path.{sym, ◌∙◌}
use Rattle.contracts.specs.One.{OneResult}
use Rattle.refusals.proofs.fault_of.Reads as fault

-- `fault_of`
pub fault_of_one : OneResult fault.Asked fault.Learnt
fault_of_one κs a z z' e e' x p q = p ∙ sym q
