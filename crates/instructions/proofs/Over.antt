-- What several readers ask for, a byte of two; and what they step over: characters of a class, one or more, white space among them; [25]
-- Eq; a text of two bytes. A byte is in the crate scans.
use mathlib.Core.Path.{◌≡◌, refl, sym, ap, ◌∙◌}
use mathlib.Core.Bool.{Bool, true, false, ◌||◌, or-false}
use mathlib.Core.List.{List, [], ◌∷◌}
use Prim.Native.Nat.{ℕ, ◌+◌, ◌≤◌}
use native.Mathlib.Omega.{arith}
use lib.Dec.{eqb}
use lib.ListN.{length, drop, length-drop}
use Rattle.xml.specs.Notation.{among}
use Rattle.xml.specs.Character.{begins, starts, run}
use Rattle.xml.specs.Productions.{is_space}
use Rattle.xml.proofs.Run.{run_stop, run_stops, run_length}
use Rattle.utf8.specs.Place.{Stands}
use Rattle.utf8.proofs.Place.{stands_one}
use Rattle.chars.specs.Space.{space_end}
use Rattle.std.specs.Prelude.{Option, Some, None}
use Rattle.readers.specs.Read.{expect, skip, space_of}
use Rattle.readers.specs.Named.{eq_of, some_run}
use Rattle.readers.specs.Answer.{Answers, ends, faults}
use Rattle.readers.proofs.Answers.{ends_some, ends_inside, ends_ahead, fault_none, text_inside}
use Rattle.scans.proofs.Ends.{byte_answers}
use Rattle.instructions.proofs.Callees.{space_ahead, space_stands}

-- ---- a byte of two

pub one_of_lem : (b x y : ℕ) → eqb b x || eqb b y ≡ among (x ∷ y ∷ []) b
one_of_lem b x y = simp or-false

pub ruleset choosing = (one_of_lem)

-- ---- one character or more of a class

module _ (p : ℕ → Bool) (d : List ℕ) (at : ℕ) {k : ℕ} (s : Stands d k (run p 0 (drop at d))) (l : at ≤ length d) where
  pub run_ahead : at ≤ k
  run_ahead =
      let m : k ≤ length d = s.inside in
      omega (arith, run_length p (drop at d), ap length s.rest, length-drop at d, length-drop k d)

  pub run_none : k ≡ at → Answers d at None (some_run p (drop at d))
  run_none e =
      let z : run p 0 (drop at d) ≡ drop at d = sym s.rest ∙ ap (λ (i : ℕ). drop i d) e in
      rw (ap (starts p) (sym z) ∙ run_stops p (drop at d)) faults

  pub run_some : (k ≡ at → ⊥) → Answers d at (Some k) (some_run p (drop at d))
  run_some n = go (starts p (drop at d)) refl
    where
      go : (b : Bool) → starts p (drop at d) ≡ b → Answers d at (Some k) (some_run p (drop at d))
      go true h = rw h (ends s run_ahead)
      go false h = absurd (n (stands_one s (record { rest = sym (run_stop p (drop at d) h); inside = l })))

-- ---- S

module _ (d : List ℕ) (at : ℕ) {r : ℕ} (e : r ≡ space_end d at) (l : at ≤ length d) where
  pub space_none : r ≡ at → Answers d at None (space_of (drop at d))
  unfolding skip space_of
  space_none q = run_none is_space d at (space_stands d at e l) l q

  pub space_some : (r ≡ at → ⊥) → Answers d at (Some r) (space_of (drop at d))
  unfolding skip space_of
  space_some n = run_some is_space d at (space_stands d at e l) l n

pub ruleset spacing = (space_none, space_some)

-- ---- [25] Eq

module _ (d : List ℕ) (at : ℕ) {k : ℕ} (e : k ≡ space_end d at) (l : at ≤ length d) {r : Option ℕ}
    (a : Answers d k r (expect (0x3D ∷ []) (drop k d))) where
  found : expect (0x3D ∷ []) (skip (drop at d)) ≡ expect (0x3D ∷ []) (drop k d)
  found = ap (expect (0x3D ∷ [])) (sym (space_stands d at e l).rest)

  pub eq_fault : r ≡ None → Answers d at None (eq_of (drop at d))
  unfolding eq_of
  eq_fault q = rw (found, fault_none a q) faults

  pub eq_ends : {i f : ℕ} → r ≡ Some i → f ≡ space_end d i → Answers d at (Some f) (eq_of (drop at d))
  unfolding eq_of
  eq_ends {i} {f} q g =
      let m = space_ahead d at e in
      let n = ends_ahead a q in
      let o = space_ahead d i g in
      rw (found, ends_some a q) (ends (space_stands d i g (ends_inside a q)) (omega arith))

-- a place after white space is inside
pub space_inside : (d : List ℕ) (at : ℕ) {r : ℕ} → r ≡ space_end d at → at ≤ length d → r ≤ length d
space_inside d at e l = (space_stands d at e l).inside

pub ruleset equals = (byte_answers, eq_fault, eq_ends, space_inside, ends_inside)

-- ---- a text of two bytes

pub two_inside : (d : List ℕ) (at a b : ℕ) {x : Bool} → x ≡ begins (a ∷ b ∷ []) (drop at d) → x ≡ true → at + 2 ≤ length d
two_inside d at a b e t = text_inside d at (a ∷ b ∷ []) e t (omega arith)
