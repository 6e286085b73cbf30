-- `next` meets its contract: by an `&` that begins a reference, or not. proofs/Signs.antt has the laws.
use Rattle.references.proofs.Signs.{coming}
use Rattle.references.proofs.next.next.Goals as goal

pub returns-in-Some : goal.returns-in-Some
returns-in-Some c = search coming

pub returns-in-None : goal.returns-in-None
returns-in-None c = search coming

pub returns : goal.returns
returns c = search coming
