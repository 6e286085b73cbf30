-- What stands between two texts: the shape that [15] Comment and [18] CDSect share.
-- `comment_of` and `section_of` of the crate readers are this, with their texts.
use Rattle.std.specs.Prelude.{List, ℕ}
use Rattle.std.proofs.Math.Option.{Option}
use Rattle.readers.specs.Read.{and_then, expect, seek}

-- the text first, and on up to the first place of the text stop, where the text last stands; then what follows that
unfoldable pub between_of : List ℕ → List ℕ → List ℕ → List ℕ → Option (List ℕ)
between_of first stop last s = and_then (expect first s) (λ t. expect last (seek stop t))
