-- Two results that a public function's contract allows are equal: one theorem for each function, over the contract that the toolchain makes
-- of the source. What is lent to `find` and `hash` cannot be changed by them, so the result is all that they hand back.
use mathlib.Core.Path.{sym, ◌∙◌}
use Rattle.contracts.specs.One.{OneResult}
use Rattle.lookup.proofs.hashing.hash.Reads as hash
use Rattle.lookup.proofs.find.find.Reads as find

-- `hashing::hash`
pub hash_one : OneResult hash.Asked hash.Learnt
hash_one κs a z z' e e' x p q = p.0 ∙ sym q.0

-- `find::find`, where the tables are those of some names, as it asks
pub find_one : OneResult find.Asked find.Learnt
find_one κs a z z' e e' t p q = p.is t.names t.indexed ∙ sym (q.is t.names t.indexed)
