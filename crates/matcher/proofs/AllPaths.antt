-- All paths: entry i of a state is path i's bits, and a hit is one of path i's, where its steps can be laid, `among_hit`. A path past the
-- last has no step: it can be laid nowhere. In order: fits; path i; states; hits; one more name.
use mathlib.Core.Path.{◌≡◌, refl, sym, ap, ap₂, ◌∙◌}
use mathlib.Core.Bool.{Bool, true, false, cond, ◌&&◌, and-false}
use mathlib.Core.List.{List, [], ◌∷◌, ◌++◌, map}
use mathlib.Core.Logic.{◌↔◌}
use mathlib.Core.Option.{none as nothing}
use Prim.Native.Nat.{ℕ, zero, suc, ◌≤◌, ◌<◌}
use native.Mathlib.Nat.{zero-add}
use native.Mathlib.Omega.{arith}
use lib.ListN.{length, get_or, replicate}
use lib.Bits.{bit_and, and_zero_r}
use Rattle.paths.specs.Path.{Step, Path, All, more}
use Rattle.compiled.specs.Bits.{step_bits, last_bit, column, stays_of, goes_of, far_of, lasts_of, marks_of}
use Rattle.compiled.proofs.Bits.{column_get}
use Rattle.compiled.proofs.Listed.{listed_get}
use Rattle.matcher.specs.Test.{lays}
use Rattle.matcher.specs.Fit.{fit_for}
use Rattle.matcher.specs.State.{hits_of, carried, hits_at, carried_at, fresh_state, deeper_of, down, state_of, nonzero, hit_at, tried_of}
use Rattle.matcher.specs.declared.fit.Fit.{Fit}
use Rattle.matcher.specs.declared.state.MatchState.{MatchState}
use Rattle.matcher.proofs.Telling.{stay_bits, go_bits, far_bits, fit_bits, down_path, path_hits, path_tried}
use Rattle.matcher.proofs.Hits.{lays_none, hits_lays}

-- ---- fits

-- of anything that steps may fit
abbrev pub fit_with : {A : Type 0} → (Step → A → Bool) → List Path → A → Fit
fit_with fits ps x =
    record {
      passes = column (step_bits (λ s. fits s x)) ps;
      stays = stays_of ps;
      goes = goes_of ps;
      far = far_of ps;
      lasts = lasts_of ps;
      marks = marks_of ps;
    }

-- ---- path i

abbrev pub no_path : Path
no_path = record { steps = []; test = nothing; marked = false }

abbrev pub path_at : List Path → ℕ → Path
path_at ps i = get_or ps i no_path

abbrev pub steps_at : List Path → ℕ → List Step
steps_at ps i = (path_at ps i).steps

bits_at : (g : Step → Bool) (ps : List Path) (i : ℕ) → get_or (column (step_bits g) ps) i 0 ≡ step_bits g (path_at ps i)
bits_at g ps i = column_get (step_bits g) ps i ∙ go ps i
  where
    go : (ps : List Path) (i : ℕ) → get_or (map (step_bits g) ps) i 0 ≡ step_bits g (path_at ps i)
    go [] i = refl
    go (p ∷ ps) zero = refl
    go (p ∷ ps) (suc i) = go ps i

stays_at : (ps : List Path) (i : ℕ) → get_or (stays_of ps) i 0 ≡ stay_bits (steps_at ps i)
unfolding stays_of
stays_at ps i = bits_at _ ps i

goes_at : (ps : List Path) (i : ℕ) → get_or (goes_of ps) i 0 ≡ go_bits (steps_at ps i)
unfolding goes_of
goes_at ps i = bits_at _ ps i

far_at : (ps : List Path) (i : ℕ) → get_or (far_of ps) i 0 ≡ far_bits (steps_at ps i)
unfolding far_of
far_at ps i = bits_at _ ps i

fresh_at : (n i : ℕ) → i < n → ◌≡◌ {A = ℕ} (get_or (replicate n 1) i 0) 1
fresh_at zero i l = absurd (omega arith)
fresh_at (suc n) zero l = refl
fresh_at (suc n) (suc i) l = fresh_at n i (omega arith)

module _ {A : Type 0} (fits : Step → A → Bool) (ps : List Path) where
  abbrev fit : A → Fit
  fit x = fit_with fits ps x

  module _ (state : List ℕ) (x : A) (i : ℕ) where
    hits_at_lem : hits_at state (fit x).passes (fit x).stays (fit x).goes i
        ≡ hits_of (get_or state i 0) (fit_bits fits (steps_at ps i) x) (stay_bits (steps_at ps i)) (go_bits (steps_at ps i))
    unfolding hits_at
    hits_at_lem =
        ap (λ (u : ℕ). hits_of (get_or state i 0) u (get_or (stays_of ps) i 0) (get_or (goes_of ps) i 0)) (bits_at (λ s. fits s x) ps i)
        ∙ ap₂ (hits_of (get_or state i 0) (fit_bits fits (steps_at ps i) x)) (stays_at ps i) (goes_at ps i)

    tried_at : tried_of (get_or state i 0) (get_or (fit x).passes i 0) (get_or (fit x).stays i 0) (get_or (fit x).goes i 0)
        ≡ tried_of (get_or state i 0) (fit_bits fits (steps_at ps i) x) (stay_bits (steps_at ps i)) (go_bits (steps_at ps i))
    tried_at =
        ap (λ (u : ℕ). tried_of (get_or state i 0) u (get_or (stays_of ps) i 0) (get_or (goes_of ps) i 0)) (bits_at (λ s. fits s x) ps i)
        ∙ ap₂ (tried_of (get_or state i 0) (fit_bits fits (steps_at ps i) x)) (stays_at ps i) (goes_at ps i)

    carried_at_lem : carried_at state (fit x).passes (fit x).stays (fit x).goes (fit x).far i
        ≡ carried (get_or state i 0) (fit_bits fits (steps_at ps i) x) (stay_bits (steps_at ps i)) (go_bits (steps_at ps i))
        (far_bits (steps_at ps i))
    unfolding carried_at
    carried_at_lem =
        ap₂ (λ (u v : ℕ). carried (get_or state i 0) u v (get_or (goes_of ps) i 0) (get_or (far_of ps) i 0)) (bits_at (λ s. fits s x) ps i)
        (stays_at ps i)
        ∙ ap₂ (carried (get_or state i 0) (fit_bits fits (steps_at ps i) x) (stay_bits (steps_at ps i))) (goes_at ps i) (far_at ps i)

  -- ---- states

  deeper_at : (m : MatchState) (x : A) (i : ℕ) → i < 32
      → get_or (deeper_of m (fit x)).bits i 0
      ≡ carried (get_or m.bits i 0) (fit_bits fits (steps_at ps i) x) (stay_bits (steps_at ps i)) (go_bits (steps_at ps i))
      (far_bits (steps_at ps i))
  unfolding deeper_of
  deeper_at m x i l =
      let at = carried_at m.bits (fit x).passes (fit x).stays (fit x).goes (fit x).far in
      listed_get at 0 0 32 i l ∙ ap at (zero-add i) ∙ carried_at_lem m.bits x i

  down_at : (m : MatchState) (xs : List A) (i : ℕ) → i < 32
      → get_or (down fit m xs).bits i 0 ≡ down_path fits (steps_at ps i) (get_or m.bits i 0) xs
  down_at m [] i l = refl
  down_at m (x ∷ xs) i l =
      down_at (deeper_of m (fit x)) xs i l ∙ ap (λ (y : ℕ). down_path fits (steps_at ps i) y xs) (deeper_at m x i l)

  state_at : (xs : List A) (i : ℕ) → i < 32 → get_or (down fit fresh_state xs).bits i 0 ≡ down_path fits (steps_at ps i) 1 xs
  unfolding fresh_state
  state_at xs i l = down_at fresh_state xs i l ∙ ap (λ (y : ℕ). down_path fits (steps_at ps i) y xs) (fresh_at 32 i l)

  -- ---- hits

  -- the hits of path i at the element x below those above
  pub path_hits_lem : (above : List A) (x : A) (i : ℕ) → i < 32
      → hits_at (down fit fresh_state above).bits (fit x).passes (fit x).stays (fit x).goes i ≡ path_hits fits (steps_at ps i) above x
  path_hits_lem above x i l =
      hits_at_lem (down fit fresh_state above).bits x i
      ∙ ap (λ (y : ℕ). hits_of y (fit_bits fits (steps_at ps i) x) (stay_bits (steps_at ps i)) (go_bits (steps_at ps i)))
      (state_at above i l)

  -- and the steps of path i that are tried there
  pub path_tried_lem : (above : List A) (x : A) (i : ℕ) → i < 32
      → tried_of (get_or (down fit fresh_state above).bits i 0) (get_or (fit x).passes i 0) (get_or (fit x).stays i 0)
      (get_or (fit x).goes i 0)
      ≡ path_tried fits (steps_at ps i) above x
  path_tried_lem above x i l =
      tried_at (down fit fresh_state above).bits x i
      ∙ ap (λ (y : ℕ). tried_of y (fit_bits fits (steps_at ps i) x) (stay_bits (steps_at ps i)) (go_bits (steps_at ps i)))
      (state_at above i l)

some_hit : (b : Bool) (h l : ℕ) → nonzero (bit_and h (cond b l 0)) ≡ b && nonzero (bit_and h l)
some_hit true h l = refl
some_hit false h l = ap nonzero (and_zero_r h)

module _ {A : Type 0} (Fits : Step → A → Type 0) (fits : Step → A → Bool) (decides : (s : Step) (x : A) → Fits s x ↔ (fits s x ≡ true))
    (ps : List Path) (short : All (λ p. length p.steps ≤ 16) ps) (above : List A) (x : A) where
  -- a hit of path i's last step, if it is one of `which`
  pub among_hit : (which : Path → Bool) (i : ℕ) → i < 32
      → nonzero (hit_at (down (fit_with fits ps) fresh_state above).bits (fit_with fits ps x).passes (stays_of ps) (goes_of ps)
      (column (λ p. cond (which p) (last_bit p) 0) ps) i)
      ≡ which (path_at ps i) && lays fits (above ++ x ∷ []) (steps_at ps i)
  unfolding hit_at
  among_hit which i l =
      ap₂ (λ (h w : ℕ). nonzero (bit_and h w)) (path_hits_lem fits ps above x i l) (column_get last ps i)
      ∙ go ps short i
    where
      last : Path → ℕ
      last p = cond (which p) (last_bit p) 0

      go : (qs : List Path) → All (λ p. length p.steps ≤ 16) qs → (i : ℕ)
          → nonzero (bit_and (path_hits fits (steps_at qs i) above x) (get_or (map last qs) i 0))
          ≡ which (path_at qs i) && lays fits (above ++ x ∷ []) (steps_at qs i)
      go [] a i =
          ap nonzero (and_zero_r (path_hits fits [] above x))
          ∙ sym (ap (λ (b : Bool). which no_path && b) (lays_none fits above x) ∙ and-false (which no_path))
      go (p ∷ qs) (more s a) zero =
          some_hit (which p) (path_hits fits p.steps above x) (last_bit p)
          ∙ ap (λ (b : Bool). which p && b) (hits_lays Fits fits decides p.steps s above x)
      go (p ∷ qs) (more s a) (suc i) = go qs a i

-- ---- one more name

down_deeper : {A : Type 0} (fit : A → Fit) (m : MatchState) (xs : List A) (x : A)
    → down fit m (xs ++ x ∷ []) ≡ deeper_of (down fit m xs) (fit x)
down_deeper fit m [] x = refl
down_deeper fit m (y ∷ xs) x = down_deeper fit (deeper_of m (fit y)) xs x

pub state_fresh : (ps : List Path) → state_of ps [] ≡ fresh_state
unfolding state_of
state_fresh ps = refl

pub state_deeper : (ps : List Path) (names : List (List ℕ)) (n : List ℕ)
    → state_of ps (names ++ n ∷ []) ≡ deeper_of (state_of ps names) (fit_for ps n)
unfolding state_of
state_deeper ps names n = down_deeper (fit_for ps) fresh_state names n
