-- A sending by the matcher's bits: which wide steps may go to a narrow step, as a fit; the wide list's states carried down the narrow
-- steps; the wide paths whose last step is met at the last. proofs/Sent.antt shows that these are the paths that have a sending.
use Rattle.std.specs.Prelude.{Bool, cond, ◌&&◌, ◌||◌, List, [], ◌∷◌, ℕ, drop, get_or}
use Rattle.std.specs.Int.Bits.{bit_and}
use Rattle.paths.specs.Path.{Step, Path}
use Rattle.paths.specs.Reader.{steps}
use Rattle.paths.specs.declared.Kind.{Kind}
use Rattle.compiled.specs.Kinds.{far}
use Rattle.compiled.specs.Bits.{step_bits, column, stays_of, goes_of, far_of, lasts_of, marks_of}
use Rattle.compiled.specs.Built.{listed}
use Rattle.matcher.specs.Fit.{fit_for}
use Rattle.matcher.specs.State.{fresh_state, deeper_of, selecting_by}
use Rattle.matcher.specs.declared.fit.Fit.{Fit}
use Rattle.matcher.specs.declared.state.MatchState.{MatchState}
use Rattle.covers.specs.Test.{is_child, wider}

-- a wide step s may go to a narrow step t: any to a child step, one that goes far to another; and its test is as wide
abbrev pub sends_by : Step → Step → Bool
sends_by s t = (is_child t.kind || far s.kind) && wider s.test t.test

-- the fit of a narrow step: the wide steps that may go there, with what the wide list says of its steps
abbrev pub send_fit : List Path → Step → Fit
send_fit ws t =
    record {
      passes = column (step_bits (λ s. sends_by s t)) ws;
      stays = stays_of ws;
      goes = goes_of ws;
      far = far_of ws;
      lasts = lasts_of ws;
      marks = marks_of ws;
    }

-- a fit that only those steps pass that may go far
unfoldable pub far_only : Fit → Fit
far_only f =
    record {
      passes = listed (λ p. bit_and (get_or f.passes p 0) (get_or f.far p 0)) 0 32;
      stays = f.stays;
      goes = f.goes;
      far = f.far;
      lasts = f.lasts;
      marks = f.marks;
    }

-- the same as it is made: of a narrow step of the kind k, whose name is n, and empty for `*`
unfoldable pub fit_by : List Path → Kind → List ℕ → Fit
fit_by ws k n = cond (is_child k) (fit_for ws n) (far_only (fit_for ws n))

-- the paths that are met at the last of some steps, from a state on; `bits` where there is no step
abbrev pub run_bits : List Path → MatchState → ℕ → List Step → ℕ
run_bits ws m bits [] = bits
run_bits ws m bits (x ∷ xs) = run_bits ws (deeper_of m (send_fit ws x)) (selecting_by m (send_fit ws x)) xs

-- of the narrow line at a place
unfoldable pub sent_bits : List Path → List ℕ → ℕ → ℕ
sent_bits ws narrow at = run_bits ws fresh_state 0 (steps (drop at narrow)).all
