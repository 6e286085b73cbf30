-- Where a client stands between two tapes: at the beginning; as a pass in itself, with the states by level and nothing known of elements;
-- and at the end, where nothing is left or the next item is at fault.
use mathlib.Core.Path.{◌≡◌, refl, ap, ◌∙◌}
use mathlib.Core.Bool.{Bool, true, false}
use mathlib.Core.List.{List, [], ◌∷◌}
use Prim.Native.Nat.{ℕ, zero, suc, ◌+◌, ◌<◌}
use native.Mathlib.Nat.{zero-add}
use native.Mathlib.Omega.{arith}
use lib.ListN.{length, get_or, replicate, length-replicate}
use Rattle.std.specs.Prelude.{Ok, Err}
use Rattle.paths.specs.Path.{Path}
use Rattle.paths.specs.Judge.{list_paths}
use Rattle.tags.specs.declared.Item.{Item}
use Rattle.items.specs.Item.{item_at}
use Rattle.document.specs.Place.{placement}
use Rattle.document.specs.Levels.{opened_of}
use Rattle.document.specs.Judge.{start_of}
use Rattle.document.specs.declared.Open.{Open}
use Rattle.document.specs.declared.Placement.{Placement}
use Rattle.document.specs.declared.Placement.TheVariants.{Fault as Faulty, Over}
use Rattle.document.specs.declared.Why.{Why}
use Rattle.matcher.specs.State.{fresh_state, state_of}
use Rattle.matcher.specs.declared.state.MatchState.{MatchState}
use Rattle.recall.specs.Known.{unknown}
use Rattle.recall.specs.declared.Known.{Known}
use Rattle.output.specs.declared.Run.{Run}
use Rattle.passes.specs.Passed.{PassedBy}
use Rattle.passes.proofs.States.{none, above}
use Rattle.passes.proofs.Passing.{Passing, pass_start, pass_fault, pass_over, recalls_none}
use Rattle.seats.specs.Standing.{Standing}
use Rattle.seats.specs.Seated.{Seated}
use Rattle.seats.specs.declared.seat.Seat.{Seat}

-- ---- a pass, and what a client keeps of it

pub seated_passing : {counts : Bool} {list d o₀ starts lens : List ℕ} {s : Seat} {o g : List ℕ} → Seated counts list d o₀ starts lens s o g
    → {states : List MatchState} → Standing (list_paths list) states d starts lens s.opened.level.0 → {e : Known} → e ≡ unknown
    → (tb : List ℕ)
    → Passing counts list tb d o₀ g states (replicate 64 e) (replicate 64 0) starts lens s.opened s.run s.at s.first s.tests
    o g
seated_passing {counts} v t {e} u tb =
    record {
      judging = v.judging;
      x = v.x;
      rest = v.rest;
      stands = v.stands;
      held = record { state = t.state };
      opens = v.opens;
      order = v.order;
      far = v.far;
      few = v.few;
      many = v.many;
      long = t.long;
      recalls = recalls_none counts tb u 64;
      memo_long = length-replicate {A = Known} 64 e;
      slots_long = length-replicate {A = ℕ} 64 0;
      room = v.room;
      log_room = refl;
    }

pub passing_seated : {counts : Bool} {list tb d o₀ g₀ : List ℕ} {states : List MatchState} {memo : List Known}
    {slots starts lens : List ℕ} {opened : Open} {run : Run} {at : ℕ} {first : Bool} {tests : ℕ} {o g : List ℕ}
    → Passing counts list tb d o₀ g₀ states memo slots starts lens opened run at first tests o g
    → Seated counts list d o₀ starts lens (record { run = run; opened = opened; at = at; first = first; tests = tests }) o g
passing_seated v =
    record {
      judging = v.judging;
      x = v.x;
      rest = v.rest;
      stands = v.stands;
      opens = v.opens;
      order = v.order;
      far = v.far;
      few = v.few;
      many = v.many;
      room = v.room;
    }

-- ---- at the beginning

pub seated_start : (counts : Bool) (list d o g : List ℕ) {s : Seat} {at : ℕ}
    → s
    ≡ record {
      run = record { reached = record { 0 = 0 }; kept = 0; len = 0; count = 0; noted = 0 };
      opened = record { level = record { 0 = 0 }; rooted = false };
      at = at;
      first = true;
      tests = 0;
    }
    → at ≡ start_of d → Seated counts list d o (replicate 64 0) (replicate 64 0) s o g
seated_start counts list d o g e q =
    rw e (passing_seated (pass_start counts list [] d o g {m = fresh_state} {e = unknown} refl refl q refl refl))

-- ---- at the end

-- n values from the index lo on
abbrev row : (ℕ → MatchState) → ℕ → ℕ → List MatchState
row f lo zero = []
row f lo (suc n) = f lo ∷ row f (suc lo) n

row_long : (f : ℕ → MatchState) (lo n : ℕ) → length (row f lo n) ≡ n
row_long f lo zero = refl
row_long f lo (suc n) = ap suc (row_long f (suc lo) n)

row_at : (f : ℕ → MatchState) (lo n i : ℕ) → i < n → get_or (row f lo n) i none ≡ f (lo + i)
row_at f lo zero i l = absurd (omega arith)
row_at f lo (suc n) zero l = let z : lo + 0 ≡ lo = omega arith in rw z refl
row_at f lo (suc n) (suc i) l =
    let z : suc lo + i ≡ lo + suc i = omega arith in
    row_at f (suc lo) n i (omega arith) ∙ ap f z

-- there are states by level
standing_some : (ps : List Path) (d starts lens : List ℕ) (level : ℕ)
    → Standing ps (row (λ (i : ℕ). state_of ps (above d starts lens i)) 0 64) d starts lens level
standing_some ps d starts lens level =
    let f : ℕ → MatchState = λ i. state_of ps (above d starts lens i) in
    record {
      state = λ i h l. row_at f 0 64 i l ∙ ap f (zero-add i);
      long = row_long f 0 64;
    }

module _ {counts : Bool} {list d o₀ starts lens : List ℕ} {s : Seat} {o g : List ℕ} (v : Seated counts list d o₀ starts lens s o g)
    {i : Item} (e : i ≡ item_at s.first d s.at) {p : Placement}
    (q : p ≡ placement d s.at i (opened_of d starts lens s.opened)) where
  some_pass : Passing counts list [] d o₀ g (row (λ (j : ℕ). state_of (list_paths list) (above d starts lens j)) 0 64)
      (replicate 64 unknown)
      (replicate 64 0) starts lens s.opened s.run s.at s.first s.tests o g
  some_pass = seated_passing v (standing_some (list_paths list) d starts lens s.opened.level.0) refl []

  pub seated_over : p ≡ Over
      → PassedBy counts list d o₀ (Ok (record { length = s.run.len; selected = s.run.count; tests = s.tests; noted = s.run.noted })) o g
  seated_over h = pass_over some_pass e q h

  pub seated_fault : (why : Why) → p ≡ Faulty why → PassedBy counts list d o₀ (Err (record { why = why; at = s.at })) o g
  seated_fault why h = pass_fault some_pass e q why h
