-- Laws of answers: the one that a reader has; what a place and a fault say; one reader after another, one or another; a text and a byte.
-- The functions of the crates above are proved by `search answering`.
use mathlib.Core.Path.{◌≡◌, refl, sym, ap, ◌∙◌}
use mathlib.Core.Bool.{Bool, true, false, false≢true}
use mathlib.Core.List.{List, [], ◌∷◌}
use mathlib.Core.Option.{Option as Maybe, none, some}
use Prim.Native.Nat.{ℕ, ◌+◌, ◌≤◌, ◌<◌, suc-le-suc}
use native.Mathlib.Omega.{arith}
use borrow.Author.Rules.{rules}
use borrow.Author.Tests.{eq-eqb, ne_eqb}
use lib.ListN.{length, get_or, drop, length-drop}
use lib.Seq.{drop-drop}
use lib.Dec.{eqb}
use Rattle.xml.specs.Character.{begins}
use Rattle.xml.proofs.Bools.{and_right}
use Rattle.utf8.specs.Place.{Stands}
use Rattle.utf8.proofs.Place.{drop_step, drop_end, stands_ends}
use Rattle.chars.specs.Name.{reading_at}
use Rattle.std.specs.Prelude.{Option, Some, None}
use Rattle.readers.specs.Read.{and_then, or_else, expect}
use Rattle.readers.specs.Answer.{Answers, ends, faults}

-- ---- the answer is the one by places

pub answers_reading : {d : List ℕ} {at : ℕ} {r : Option ℕ} {o : Maybe (List ℕ)} → Answers d at r o → r ≡ reading_at d at o
answers_reading {at = at} (ends p l) = ap Some (stands_ends at p l)
answers_reading faults = refl

-- ---- what an answer says

module _ {d : List ℕ} {at : ℕ} where
  pub ends_some : {r : Option ℕ} {e : ℕ} {o : Maybe (List ℕ)} → Answers d at r o → r ≡ Some e → o ≡ some (drop e d)
  ends_some {e = e} {o = o} a q = go (rw q at a)
    where
      go : {o : Maybe (List ℕ)} → Answers d at (Some e) o → o ≡ some (drop e d)
      go (ends p l) = ap some (sym p.rest)

  pub ends_inside : {r : Option ℕ} {e : ℕ} {o : Maybe (List ℕ)} → Answers d at r o → r ≡ Some e → e ≤ length d
  ends_inside {e = e} {o = o} a q = go (rw q at a)
    where
      go : {o : Maybe (List ℕ)} → Answers d at (Some e) o → e ≤ length d
      go (ends p l) = p.inside

  pub ends_ahead : {r : Option ℕ} {e : ℕ} {o : Maybe (List ℕ)} → Answers d at r o → r ≡ Some e → at ≤ e
  ends_ahead {e = e} {o = o} a q = go (rw q at a)
    where
      go : {o : Maybe (List ℕ)} → Answers d at (Some e) o → at ≤ e
      go (ends p l) = l

  pub fault_none : {r : Option ℕ} {o : Maybe (List ℕ)} → Answers d at r o → r ≡ None → o ≡ none
  fault_none {o = o} a q = go (rw q at a)
    where
      go : {o : Maybe (List ℕ)} → Answers d at None o → o ≡ none
      go faults = refl

-- ---- one reader after another, and one or another

module _ {d : List ℕ} {at : ℕ} {r : Option ℕ} {o : Maybe (List ℕ)} (a : Answers d at r o) where
  pub then_fault : (f : List ℕ → Maybe (List ℕ)) → r ≡ None → Answers d at None (and_then o f)
  then_fault f q = rw (fault_none a q) faults

  later : {i : ℕ} {r' : Option ℕ} {o' : Maybe (List ℕ)} → at ≤ i → Answers d i r' o' → Answers d at r' o'
  later l (ends p m) = ends p (omega arith)
  later l faults = faults

  pub then_ends : (f : List ℕ → Maybe (List ℕ)) {i : ℕ} {r' : Option ℕ} → r ≡ Some i → Answers d i r' (f (drop i d))
      → Answers d at r' (and_then o f)
  then_ends f q b = rw (ends_some a q) (later (ends_ahead a q) b)

  pub or_ends : (o' : Maybe (List ℕ)) {i : ℕ} → r ≡ Some i → Answers d at (Some i) (or_else o o')
  or_ends o' {i} q = rw (ends_some a q) (ends {e = i} (record { rest = refl; inside = ends_inside a q }) (ends_ahead a q))

  pub or_fault : {o' : Maybe (List ℕ)} {r' : Option ℕ} → r ≡ None → Answers d at r' o' → Answers d at r' (or_else o o')
  or_fault q b = rw (fault_none a q) b

-- a reader that goes on from the place k, where s stands
pub on_from : {d : List ℕ} {at k : ℕ} {s : List ℕ} (f : List ℕ → Maybe (List ℕ)) {r : Option ℕ} → Stands d k s → at ≤ k
    → Answers d k r (f (drop k d)) → Answers d at r (f s)
on_from {d} {at} {k} f {r} q l a = rw (← q.rest) (go a)
  where
    go : {r : Option ℕ} {o : Maybe (List ℕ)} → Answers d k r o → Answers d at r o
    go (ends p m) = ends p (omega arith)
    go faults = faults

-- ---- a text

begins_fits : (w s : List ℕ) → begins w s ≡ true → length w ≤ length s
begins_fits [] s h = omega arith
begins_fits (x ∷ w) [] h = absurd (false≢true h)
begins_fits (x ∷ w) (y ∷ s) h = suc-le-suc (begins_fits w s (and_right (eqb y x) _ h))

module _ (d : List ℕ) (at : ℕ) (w : List ℕ) {b : Bool} (e : b ≡ begins w (drop at d)) where
  -- a text of one byte or more stands inside
  pub text_inside : b ≡ true → 0 < length w → at + length w ≤ length d
  text_inside t l = omega (arith, begins_fits w (drop at d) (sym e ∙ t), length-drop at d)

  pub text_yes : b ≡ true → 0 < length w → Answers d at (Some (at + length w)) (expect w (drop at d))
  unfolding expect
  text_yes t l =
      rw (sym e ∙ t, drop-drop (length w) at d)
      (ends {e = at + length w} (record { rest = refl; inside = text_inside t l }) (omega arith))

  pub text_no : b ≡ false → Answers d at None (expect w (drop at d))
  unfolding expect
  text_no t = rw (sym e ∙ t) faults

-- ---- a byte

module _ (d : List ℕ) (at b : ℕ) where
  pub byte_yes : at < length d → get_or d at 0 ≡ b → Answers d at (Some (at + 1)) (expect (b ∷ []) (drop at d))
  unfolding expect
  byte_yes h e =
      rw (drop_step d at h, eq-eqb (get_or d at 0) b e)
      (ends {e = at + 1} (record { rest = refl; inside = omega arith }) (omega arith))

  pub byte_no : at < length d → (get_or d at 0 ≡ b → ⊥) → Answers d at None (expect (b ∷ []) (drop at d))
  unfolding expect
  byte_no h e = rw (drop_step d at h, ne_eqb (get_or d at 0) b e) faults

  pub byte_end : length d ≤ at → Answers d at None (expect (b ∷ []) (drop at d))
  unfolding expect
  byte_end h = rw (drop_end d at h) faults

pub ruleset answering =
    (ends_inside, ends_ahead, then_fault, then_ends, or_ends, or_fault, text_inside, text_yes, text_no, byte_yes, byte_no, byte_end, rules)
