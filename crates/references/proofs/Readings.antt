-- Sayings by their parts: a text ends at a place that fits; one reader after another, one or another, as the equation that a public
-- contract states. The functions of this crate that have no loop are proved by `search reading`.
use mathlib.Core.Path.{◌≡◌, refl, ap}
use mathlib.Core.Bool.{Bool, true}
use mathlib.Core.List.{List}
use mathlib.Core.Option.{Option as Maybe, none}
use Prim.Native.Nat.{ℕ, ◌+◌, ◌^◌, ◌≤◌, ◌<◌}
use native.Mathlib.Omega.{arith}
use borrow.Author.Rules.{rules}
use mir.Syntax.{w64}
use mir.Val.{Fits}
use lib.ListN.{length, drop}
use Rattle.xml.specs.Character.{begins}
use Rattle.utf8.proofs.Place.{stands_ends}
use Rattle.std.specs.Prelude.{Option, Some, None}
use Rattle.readers.specs.Read.{and_then, or_else, expect}
use Rattle.readers.specs.Answer.{Answers}
use Rattle.readers.proofs.Answers.{ends_some, ends_inside, ends_ahead, fault_none, text_inside, text_yes, text_no}
use Rattle.readers.specs.Value.{Said, entity_of}
use Rattle.references.specs.Digit.{ten, sixteen}
use Rattle.references.specs.Say.{Tells, says, faults, saying_at}

pub text_fits : (d : List ℕ) (at : ℕ) (w : List ℕ) {b : Bool} → b ≡ begins w (drop at d) → b ≡ true → 0 < length w → length d < 2 ^ 64
    → Fits w64 (at + length w)
text_fits d at w e t l h = record { fits = let i = text_inside d at w e t l in omega arith }

-- ---- what a saying says

tells_saying : {d : List ℕ} {at : ℕ} {r : Option (ℕ × ℕ)} {o : Maybe Said} → Tells d at r o → r ≡ saying_at d at o
tells_saying {at = at} (says {c = c} p l) = ap (λ (e : ℕ). Some (c, e)) (stands_ends at p l)
tells_saying faults = refl

silent_none : {d : List ℕ} {at : ℕ} {r : Option (ℕ × ℕ)} {o : Maybe Said} → Tells d at r o → r ≡ None → o ≡ none
silent_none {d} {at} a q = go (rw q at a)
  where
    go : {o : Maybe Said} → Tells d at None o → o ≡ none
    go faults = refl

-- ---- one reader after another

later : {d : List ℕ} {at i : ℕ} {r : Option (ℕ × ℕ)} {o : Maybe Said} → at ≤ i → Tells d i r o → Tells d at r o
later l (says p m) = says p (omega arith)
later l faults = faults

module _ {d : List ℕ} {at : ℕ} {r : Option ℕ} {o : Maybe (List ℕ)} (a : Answers d at r o) where
  pub says_then : (f : List ℕ → Maybe Said) {i : ℕ} {r' : Option (ℕ × ℕ)} → r ≡ Some i → Tells d i r' (f (drop i d))
      → Tells d at r' (and_then o f)
  says_then f q b = rw (ends_some a q) (later (ends_ahead a q) b)

  pub silent_then : (f : List ℕ → Maybe Said) → r ≡ None → Tells d at None (and_then o f)
  silent_then f q = rw (fault_none a q) faults

module _ {d : List ℕ} {at : ℕ} {r : Option ℕ} (w : List ℕ) (a : Answers d at r (expect w (drop at d))) (c : ℕ) where
  pub says_text : {e : ℕ} → r ≡ Some e → Tells d at (Some (c, e)) (entity_of w c (drop at d))
  says_text {e} q = rw (ends_some a q) (says {e = e} (record { rest = refl; inside = ends_inside a q }) (ends_ahead a q))

  pub silent_text : r ≡ None → Tells d at None (entity_of w c (drop at d))
  silent_text q = rw (fault_none a q) faults

-- ---- one or another

module _ {d : List ℕ} {at : ℕ} {r : Option (ℕ × ℕ)} {o : Maybe Said} (a : Tells d at r o) where
  pub says_or : (o' : Maybe Said) {c e : ℕ} → r ≡ Some (c, e) → Tells d at (Some (c, e)) (or_else o o')
  says_or o' {c} {e} q = go (rw q at a)
    where
      go : {o : Maybe Said} → Tells d at (Some (c, e)) o → Tells d at (Some (c, e)) (or_else o o')
      go (says p l) = says p l

  pub silent_or : {o' : Maybe Said} {r' : Option (ℕ × ℕ)} → r ≡ None → Tells d at r' o' → Tells d at r' (or_else o o')
  silent_or q b = rw (silent_none a q) b

  pub first_saying : (o' : Maybe Said) {c e : ℕ} → r ≡ Some (c, e) → Some (c, e) ≡ saying_at d at (or_else o o')
  first_saying o' q = tells_saying (says_or o' q)

  pub second_saying : {o' : Maybe Said} {r' : Option (ℕ × ℕ)} → r ≡ None → Tells d at r' o' → r' ≡ saying_at d at (or_else o o')
  second_saying q b = tells_saying (silent_or q b)

pub ruleset reading = (
  text_fits,
  says_then,
  silent_then,
  says_text,
  silent_text,
  says_or,
  silent_or,
  first_saying,
  second_saying,
  ten,
  sixteen,
  ends_inside,
  ends_ahead,
  text_inside,
  text_yes,
  text_no,
  rules,
)
