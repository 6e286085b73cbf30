-- The matcher on numbers of 16 bits. Bit j of a path's state: its step j + 1 may take the next place from above, if it goes below at all.
-- In order: the steps of one path that take an element's place, and its bits one level deeper; a state, from a fresh one down to an
-- element; what a state and a fit say of an element: the verdict on its name, the paths whose steps select it, as bits, and how many name
-- tests are tried there. An element's fit is in specs/Fit.antt.
use Rattle.std.specs.Prelude.{Bool, true, false, List, [], ◌∷◌, ℕ, zero, suc, ◌+◌, ◌-◌, ◌*◌, ◌%◌, get_or, replicate}
use Rattle.std.specs.Int.Bits.{bit_and, bit_or}
use Rattle.std.specs.Int.Count.{ones}
use Rattle.paths.specs.Path.{Path}
use Rattle.compiled.specs.Bits.{bits_of}
use Rattle.compiled.specs.Built.{listed}
use Rattle.matcher.specs.Fit.{fit_for}
use Rattle.matcher.specs.Says.{decided}
use Rattle.matcher.specs.declared.Verdict.{Verdict}
use Rattle.matcher.specs.declared.fit.Fit.{Fit}
use Rattle.matcher.specs.declared.state.MatchState.{MatchState}

-- ---- one path

-- the bits `from`, and what follows from them: bit j + 1 follows from bit j where it is one of `on`. The carries of a sum run just so:
-- where `on` has a bit that `from` has not, the sum has it exactly when no carry comes in
unfoldable pub flood : ℕ → ℕ → ℕ
flood from on = bit_or from (on - bit_and on (from + bit_or from on))

-- the steps that take an element's place: they pass its name, and come from above or stay where the step before takes it
unfoldable pub hits_of : ℕ → ℕ → ℕ → ℕ → ℕ
hits_of state passes stays goes = flood (bit_and (bit_and state goes) passes) (bit_and stays passes)

-- a step that takes the place hands over to the step after it; one that may go far may take a place further down, too
unfoldable pub carried : ℕ → ℕ → ℕ → ℕ → ℕ → ℕ
carried state passes stays goes far = bit_or ((hits_of state passes stays goes % 32768) * 2) (bit_and state far)

-- ---- path p, by the bits of all paths

unfoldable pub hits_at : List ℕ → List ℕ → List ℕ → List ℕ → ℕ → ℕ
hits_at state passes stays goes p = hits_of (get_or state p 0) (get_or passes p 0) (get_or stays p 0) (get_or goes p 0)

unfoldable pub carried_at : List ℕ → List ℕ → List ℕ → List ℕ → List ℕ → ℕ → ℕ
carried_at state passes stays goes far p = carried (get_or state p 0) (get_or passes p 0) (get_or stays p 0) (get_or goes p 0)
    (get_or far p 0)

-- ---- states

-- step 1 of every path may take place 1
unfoldable pub fresh_state : MatchState
fresh_state = record { bits = replicate 32 1 }

unfoldable pub deeper_of : MatchState → Fit → MatchState
deeper_of m f = record { bits = listed (carried_at m.bits f.passes f.stays f.goes f.far) 0 32 }

-- a state carried down through elements of these fits, and the state of the last of them, from the root on
abbrev pub down : {A : Type 0} → (A → Fit) → MatchState → List A → MatchState
down fit m [] = m
down fit m (x ∷ xs) = down fit (deeper_of m (fit x)) xs

unfoldable pub state_of : List Path → List (List ℕ) → MatchState
state_of ps names = down (fit_for ps) fresh_state names

-- ---- the verdict

-- the bits of f 0, f 1, .. that are set in any of the first n
abbrev pub joined : (ℕ → ℕ) → ℕ → ℕ
joined f zero = 0
joined f (suc n) = bit_or (joined f n) (f n)

abbrev pub nonzero : ℕ → Bool
nonzero zero = false
nonzero (suc n) = true

-- the steps of path p that take an element's place and are among some
unfoldable pub hit_at : List ℕ → List ℕ → List ℕ → List ℕ → List ℕ → ℕ → ℕ
hit_at state passes stays goes among p = bit_and (hits_at state passes stays goes p) (get_or among p 0)

unfoldable pub any_hit : MatchState → Fit → List ℕ → Bool
any_hit m f among = nonzero (joined (hit_at m.bits f.passes f.stays f.goes among) 32)

unfoldable pub verdict_by : MatchState → Fit → Verdict
verdict_by m f = decided (any_hit m f f.marks) (any_hit m f f.lasts)

-- ---- the paths that select

-- bit p says that the last step of path p takes the element's place
unfoldable pub selecting_by : MatchState → Fit → ℕ
selecting_by m f = bits_of (listed (λ p. nonzero (hit_at m.bits f.passes f.stays f.goes f.lasts p)) 0 32)

-- ---- the name tests

-- a step is tried where it may take the place from above, and where it may stay and the step before takes the place
unfoldable pub tried_of : ℕ → ℕ → ℕ → ℕ → ℕ
tried_of state passes stays goes = bit_or (bit_and state goes) (bit_and ((hits_of state passes stays goes % 32768) * 2) stays)

-- how many steps of path p are
unfoldable pub tests_at : List ℕ → List ℕ → List ℕ → List ℕ → ℕ → ℕ
tests_at state passes stays goes p = ones (tried_of (get_or state p 0) (get_or passes p 0) (get_or stays p 0) (get_or goes p 0))

-- f 0 + f 1 + .. : n of them
abbrev pub summed : (ℕ → ℕ) → ℕ → ℕ
summed f zero = 0
summed f (suc n) = summed f n + f n

unfoldable pub tests_by : MatchState → Fit → ℕ
tests_by m f = summed (tests_at m.bits f.passes f.stays f.goes) 32
