-- The laws of `read`:
-- the tables of no path are zeros, and a refused list has no path.
use mathlib.Core.Path.{◌≡◌, refl, sym, ◌∙◌}
use mathlib.Core.List.{List, [], ◌∷◌}
use Prim.Native.Nat.{ℕ, ◌+◌}
use lib.ListN.{replicate, replicate-append-replicate}
use Rattle.std.specs.Prelude.{Result, Err}
use Rattle.paths.specs.Judge.{list_answer, list_paths}
use Rattle.paths.specs.declared.ListError.{ListError}
use Rattle.compiled.specs.Bits.{column, stays_of, goes_of, far_of, lasts_of, marks_of, other_fit}
use Rattle.lookup.specs.Names.{names_of, chains_of}
use Rattle.lookup.specs.Index.{padded}
use Rattle.compiled.specs.Compiled.{joined, rows_of, tests_of, tables_of}
use Rattle.compiled.proofs.NameRows.{joined_zeros}

rows_none : replicate 16416 0 ≡ rows_of []
unfolding rows_of other_fit column padded names_of
rows_none = sym (joined_zeros 513)

-- zeros of any lengths, joined
abbrev total : List ℕ → ℕ
total [] = 0
total (n ∷ ns) = n + total ns

abbrev zeros : List ℕ → List (List ℕ)
zeros [] = []
zeros (n ∷ ns) = replicate n 0 ∷ zeros ns

zeros-joined : (ns : List ℕ) → joined (zeros ns) ≡ replicate (total ns) 0
zeros-joined [] = refl
zeros-joined (n ∷ ns) = rw (zeros-joined ns) (replicate-append-replicate n (total ns) 0)

pub tables_none : replicate 18400 0 ≡ tables_of []
unfolding tables_of stays_of goes_of far_of lasts_of marks_of tests_of column padded names_of chains_of
tables_none = rw (← rows_none) (sym (zeros-joined (512 ∷ 512 ∷ 256 ∷ 512 ∷ 16416 ∷ 32 ∷ 32 ∷ 32 ∷ 32 ∷ 32 ∷ 32 ∷ [])))

pub read_refused : (d : List ℕ) {a : Result (Unit {0}) ListError} {x : ListError} → a ≡ list_answer d → a ≡ Err x
    → replicate 18400 0 ≡ tables_of (list_paths d)
unfolding list_paths
read_refused d {a} {x} e n = rw (sym e ∙ n) tables_none
