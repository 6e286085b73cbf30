-- What the matcher asks of a list of paths, as numbers of 16 bits:
-- bit j for step j + 1 of a path, one number for each of 32 paths.
use Rattle.std.specs.Prelude.{Bool, true, false, cond, List, [], ◌∷◌, map, ℕ, ◌+◌, ◌-◌, ◌*◌, ◌^◌, length}
use Rattle.xml.specs.Productions.{same}
use Rattle.paths.specs.Path.{Test, any, named, Step, Path}
use Rattle.lookup.specs.Index.{padded}
use Rattle.compiled.specs.Kinds.{stays, goes, far}

abbrev pub bit : Bool → ℕ
bit true = 1
bit false = 0

-- the first is bit 0
abbrev pub bits_of : List Bool → ℕ
bits_of [] = 0
bits_of (b ∷ bs) = bit b + 2 * bits_of bs

abbrev pub step_bits : (Step → Bool) → Path → ℕ
step_bits f p = bits_of (map f p.steps)

-- a number for each of 32 paths, 0 where there is none
unfoldable pub column : (Path → ℕ) → List Path → List ℕ
column f ps = padded 32 (map f ps)

-- ---- the steps that may stay, go below, go far; the last step, and where the path is marked

unfoldable pub stays_of : List Path → List ℕ
stays_of = column (step_bits (λ s. stays s.kind))

unfoldable pub goes_of : List Path → List ℕ
goes_of = column (step_bits (λ s. goes s.kind))

unfoldable pub far_of : List Path → List ℕ
far_of = column (step_bits (λ s. far s.kind))

abbrev pub last_bit : Path → ℕ
last_bit p = 2 ^ (length p.steps - 1)

unfoldable pub lasts_of : List Path → List ℕ
lasts_of = column last_bit

unfoldable pub marks_of : List Path → List ℕ
marks_of = column (λ p. cond p.marked (last_bit p) 0)

-- ---- the steps that pass a name: "each name test equals the name there, `*` any name"

abbrev pub passes : List ℕ → Test → Bool
passes n any = true
passes n (named m) = same m n

unfoldable pub fit_of : List Path → List ℕ → List ℕ
fit_of ps n = column (step_bits (λ s. passes n s.test)) ps

-- those that pass a name which no step has
abbrev pub passes_any : Test → Bool
passes_any any = true
passes_any (named m) = false

unfoldable pub other_fit : List Path → List ℕ
other_fit = column (step_bits (λ s. passes_any s.test))
