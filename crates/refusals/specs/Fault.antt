-- An item at a place is at fault: the document is refused for it.
use Rattle.std.specs.Prelude.{ℕ}
use Rattle.document.specs.declared.Why.{Why}
use Rattle.document.specs.declared.DocumentError.TheVariants.{At}
use Rattle.refusals.specs.declared.CutError.{CutError}
use Rattle.refusals.specs.declared.CutError.TheVariants as errors

abbrev pub fault_of : Why → ℕ → CutError
fault_of why at = errors.Document (At why at)
