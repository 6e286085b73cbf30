-- A name between two places: what stands before, its length, and that it is read as a piece.
-- End tags: each way through `end_tag`.
use mathlib.Core.Path.{◌≡◌, refl, sym, ap, ◌∙◌}
use mathlib.Core.Bool.{Bool, true, false, not}
use mathlib.Core.List.{List, [], ◌∷◌}
use mathlib.Core.Option.{none, some}
use Prim.Native.Nat.{ℕ, ◌+◌, ◌-◌, ◌^◌, ◌≤◌, ◌<◌}
use mir.Syntax.{w64}
use mir.Val.{Fits}
use native.Mathlib.Omega.{arith}
use borrow.Author.Rules.{rules}
use borrow.Author.Tests.{le-leb, lt-leb, not-true, not-false}
use lib.ListN.{length, take, drop, length-drop}
use lib.Seq.{length-take-le}
use Rattle.xml.specs.Notation.{bytes}
use Rattle.xml.specs.Character.{begins}
use Rattle.utf8.specs.Place.{ends_at}
use Rattle.utf8.proofs.Place.{stands_ends}
use Rattle.chars.specs.Space.{space_end}
use Rattle.chars.specs.Name.{name_at}
use Rattle.std.specs.Prelude.{Option, Some, None}
use Rattle.readers.specs.Read.{expect, skip}
use Rattle.readers.specs.Named.{before, piece_named, end_tag_of}
use Rattle.readers.specs.Answer.{Answers}
use Rattle.readers.proofs.Answers.{ends_some, ends_inside, ends_ahead, fault_none, text_inside, text_yes, text_no}
use Rattle.scans.proofs.Ends.{byte_answers}
use Rattle.instructions.proofs.Callees.{space_ahead, space_stands, name_answers}
use Rattle.instructions.proofs.Over.{space_inside}
use Rattle.tags.specs.Tag.{finish_by, end_tag_at}
use Rattle.tags.specs.declared.Item.TheVariants.{Finish, Malformed, TooLarge}

-- ---- a name from the place a to the place e

abbrev pub name_in : List ℕ → ℕ → ℕ → List ℕ
name_in d a e = take (e - a) (drop a d)

module _ (d : List ℕ) (a e : ℕ) (l : a ≤ e) (h : e ≤ length d) where
  pub before_name : before (drop a d) (drop e d) ≡ name_in d a e
  unfolding before
  before_name =
      let z : length (drop a d) - length (drop e d) ≡ e - a = omega (arith, length-drop a d, length-drop e d) in
      ap (λ (n : ℕ). take n (drop a d)) z

  pub name_long : length (name_in d a e) ≡ e - a
  name_long = length-take-le (e - a) (drop a d) (omega (arith, length-drop a d))

module _ (d : List ℕ) (a : ℕ) {r : Option ℕ} (n : r ≡ name_at d a) where
  pub piece_none : r ≡ None → piece_named (drop a d) ≡ none
  unfolding piece_named
  piece_none q = rw (fault_none (name_answers d a n) q)

  pub piece_some : {e : ℕ} → r ≡ Some e → piece_named (drop a d) ≡ some (record { name = name_in d a e; rest = drop e d })
  unfolding piece_named
  piece_some {e} q =
      let z = name_answers d a n in
      rw (ends_some z q, before_name d a e (ends_ahead z q) (ends_inside z q))

  pub piece_ahead : {e : ℕ} → r ≡ Some e → a ≤ e
  piece_ahead q = ends_ahead (name_answers d a n) q

  pub piece_inside : {e : ℕ} → r ≡ Some e → e ≤ length d
  piece_inside q = ends_inside (name_answers d a n) q

-- ---- end tags

module _ (d : List ℕ) (at : ℕ) {b : Bool} (t : b ≡ begins (bytes "</") (drop at d)) where
  pub finish_none : not b ≡ true → Malformed ≡ end_tag_at d at
  unfolding end_tag_at end_tag_of
  finish_none q = sym (rw (fault_none (text_no d at (bytes "</") t (not-true b q)) refl))

  module _ (q : not b ≡ false) {r : Option ℕ} (n : r ≡ name_at d (at + 2)) where
    opened : expect (bytes "</") (drop at d) ≡ some (drop (at + 2) d)
    opened = ends_some (text_yes d at (bytes "</") t (not-false b q) (omega arith)) refl

    pub finish_nameless : r ≡ None → Malformed ≡ end_tag_at d at
    unfolding end_tag_at end_tag_of
    finish_nameless f = sym (rw (opened, piece_none d (at + 2) n f))

    module _ {e k : ℕ} (f : r ≡ Some e) (s : k ≡ space_end d e) {c : Option ℕ} (g : Answers d k c (expect (0x3E ∷ []) (drop k d))) where
      blank : skip (drop e d) ≡ drop k d
      blank = sym (space_stands d e s (piece_inside d (at + 2) n f)).rest

      pub finish_open : c ≡ None → Malformed ≡ end_tag_at d at
      unfolding end_tag_at end_tag_of
      finish_open z = sym (rw (opened, piece_some d (at + 2) n f, blank, fault_none g z))

      module _ {end : ℕ} (z : c ≡ Some end) where
        closed : end_tag_at d at ≡ finish_by d at (some (record { name = name_in d (at + 2) e; rest = drop end d }))
        unfolding end_tag_at end_tag_of
        closed = rw (opened, piece_some d (at + 2) n f, blank, ends_some g z)

        long : length (name_in d (at + 2) e) ≡ e - (at + 2)
        long = name_long d (at + 2) e (piece_ahead d (at + 2) n f) (piece_inside d (at + 2) n f)

        place : end ≡ ends_at d at (drop end d)
        place =
            let u = piece_ahead d (at + 2) n f in
            let v = space_ahead d e s in
            let w = ends_ahead g z in
            stands_ends at (record { rest = refl; inside = ends_inside g z }) (omega arith)

        pub finish_large : 255 < e - (at + 2) → TooLarge ≡ end_tag_at d at
        finish_large l = sym (closed ∙ rw (long, lt-leb (e - (at + 2)) 255 l))

        pub finish_ends : e - (at + 2) ≤ 255 → Finish (e - (at + 2)) end ≡ end_tag_at d at
        finish_ends l = sym (closed ∙ rw (long, le-leb (e - (at + 2)) 255 l, ← place))

-- a place after the opening is inside
pub finish_inside : (d : List ℕ) (at : ℕ) {b : Bool} → b ≡ begins (bytes "</") (drop at d) → not b ≡ false → at + 2 ≤ length d
finish_inside d at {b} t q = text_inside d at (bytes "</") t (not-false b q) (omega arith)

pub finish_add : (d : List ℕ) (at : ℕ) {b : Bool} → b ≡ begins (bytes "</") (drop at d) → not b ≡ false → length d < 2 ^ 64
    → Fits w64 (at + 2)
finish_add d at t q l = record { fits = let z = finish_inside d at t q in omega arith }

pub ruleset finishing = (
  byte_answers,
  finish_none,
  finish_nameless,
  finish_open,
  finish_large,
  finish_ends,
  finish_inside,
  finish_add,
  piece_ahead,
  piece_inside,
  space_inside,
  rules,
)
