-- Start tags and empty tags: each way through `tag`.
-- The head ends where `>` or `/>` stands.
use mathlib.Core.Path.{◌≡◌, refl, sym, ap, ap₂, ◌∙◌}
use mathlib.Core.Bool.{Bool, true, false, cond, not, ◌&&◌}
use mathlib.Core.List.{List}
use mathlib.Core.Option.{none, some}
use Prim.Native.Nat.{ℕ, ◌+◌, ◌-◌, ◌^◌, ◌≤◌, ◌<◌}
use native.Mathlib.Omega.{arith}
use mir.Syntax.{w64}
use mir.Val.{Fits}
use borrow.Author.Rules.{rules}
use borrow.Author.Tests.{not-true, not-false}
use lib.Dec.{leb}
use lib.ListN.{length, drop}
use Rattle.xml.specs.Notation.{bytes}
use Rattle.xml.specs.Character.{begins}
use Rattle.xml.proofs.Bools.{and_right}
use Rattle.utf8.specs.Place.{ends_at}
use Rattle.utf8.proofs.Place.{stands_ends}
use Rattle.chars.specs.Space.{space_end}
use Rattle.chars.specs.Name.{name_at}
use Rattle.std.specs.Prelude.{Option, Some, None}
use Rattle.readers.specs.Read.{expect, skip}
use Rattle.readers.specs.Named.{Tag, before, gather, tag_of, small_tag}
use Rattle.readers.proofs.Answers.{ends_some, fault_none, text_inside, text_yes, text_no}
use Rattle.instructions.proofs.Callees.{space_ahead, space_stands}
use Rattle.tags.specs.Tag.{start_placed, start_by, tag_at}
use Rattle.tags.specs.Kept.{AttributesAre}
use Rattle.tags.specs.declared.gather.Attributes.{Attributes}
use Rattle.tags.specs.declared.Item.{Item}
use Rattle.tags.specs.declared.Item.TheVariants.{Start, Malformed, TooLarge}
use Rattle.tags.proofs.Named.{name_in, before_name, name_long, piece_none, piece_some, piece_ahead, piece_inside}

-- ---- `sized`

pub sized_small : (b : Bool) (x : Item) → not b ≡ false → x ≡ cond b x TooLarge
sized_small b x e = sym (rw (not-false b e))

pub sized_large : (b : Bool) (x : Item) → not b ≡ true → TooLarge ≡ cond b x TooLarge
sized_large b x e = sym (rw (not-true b e))

pub ruleset sizing = (sized_small, sized_large)

-- ---- `tag`

module _ (d : List ℕ) (at : ℕ) {b : Bool} (t : b ≡ begins (bytes "<") (drop at d)) where
  pub tag_none : not b ≡ true → Malformed ≡ tag_at d at
  unfolding tag_at tag_of
  tag_none q = sym (rw (fault_none (text_no d at (bytes "<") t (not-true b q)) refl))

  pub tag_inside : not b ≡ false → at + 1 ≤ length d
  tag_inside q = text_inside d at (bytes "<") t (not-false b q) (omega arith)

  pub tag_add : not b ≡ false → length d < 2 ^ 64 → Fits w64 (at + 1)
  tag_add q l = record { fits = let z = tag_inside q in omega arith }

  module _ (q : not b ≡ false) {r : Option ℕ} (n : r ≡ name_at d (at + 1)) where
    opened : expect (bytes "<") (drop at d) ≡ some (drop (at + 1) d)
    opened = ends_some (text_yes d at (bytes "<") t (not-false b q) (omega arith)) refl

    pub tag_nameless : r ≡ None → Malformed ≡ tag_at d at
    unfolding tag_at tag_of
    tag_nameless f = sym (rw (opened, piece_none d (at + 1) n f))

    module _ {e : ℕ} (f : r ≡ Some e) {held : Attributes} (a : AttributesAre d e held) {head : ℕ} (s : head ≡ space_end d held.end) where
      blank : skip (gather 0 (drop e d)).rest ≡ drop head d
      blank = ap skip (sym a.stands.rest) ∙ sym (space_stands d held.end s a.stands.inside).rest

      head_ahead : at + 1 ≤ head
      head_ahead =
          let x = piece_ahead d (at + 1) n f in
          let y = a.ahead in
          let z = space_ahead d held.end s in
          omega arith

      pub head_inside : head ≤ length d
      head_inside = (space_stands d held.end s a.stands.inside).inside

      -- the tag that leaves what stands at the place `end`
      abbrev ended : Bool → ℕ → Tag
      ended empty end =
          record {
            name = name_in d (at + 1) e;
            attributes = (gather 0 (drop e d)).names;
            head = before (drop at d) (drop head d);
            empty = empty;
            rest = drop end d;
          }

      pub tag_open : {c c' : Bool} → c ≡ begins (bytes ">") (drop head d) → c ≡ false → c' ≡ begins (bytes "/>") (drop head d) → c' ≡ false
          → Malformed ≡ tag_at d at
      unfolding tag_at tag_of
      tag_open g h g' h' =
          sym (rw (
            opened,
            piece_some d (at + 1) n f,
            blank,
            fault_none (text_no d head (bytes ">") g h) refl,
            fault_none (text_no d head (bytes "/>") g' h') refl,
          ))

      name_size : length (name_in d (at + 1) e) ≡ e - (at + 1)
      name_size = name_long d (at + 1) e (piece_ahead d (at + 1) n f) (piece_inside d (at + 1) n f)

      small_is : (empty : Bool) (end : ℕ) → leb (e - (at + 1)) 255 && held.small ≡ small_tag (ended empty end)
      unfolding small_tag
      small_is empty end = ap₂ (λ (k : ℕ) (x : Bool). leb k 255 && x) (sym name_size) a.small_is

      head_place : at + length (before (drop at d) (drop head d)) ≡ head
      head_place =
          let x = head_ahead in
          let y = before_name d at head (omega arith) head_inside in
          let z = name_long d at head (omega arith) head_inside in
          ap (λ (w : List ℕ). at + length w) y ∙ (let u : at + length (name_in d at head) ≡ head = omega arith in u)

      placed : (empty : Bool) (end : ℕ) → head ≤ end → end ≤ length d → held.small ≡ true
          → Start (e - (at + 1)) head end empty held.twice ≡ start_placed d at (ended empty end)
      placed empty end l h s' =
          let x = head_ahead in
          let y : end ≡ ends_at d at (drop end d) = stands_ends at (record { rest = refl; inside = h }) (omega arith) in
          rw (name_size, head_place, ← y, a.twice_is s')

      closed : (empty : Bool) (end : ℕ) → tag_of (drop at d) ≡ some (ended empty end) → head ≤ end → end ≤ length d → {x : Item}
          → x ≡ cond (leb (e - (at + 1)) 255 && held.small) (Start (e - (at + 1)) head end empty held.twice) TooLarge
          → x ≡ tag_at d at
      unfolding tag_at
      closed empty end o l h {x} g = g ∙ go (leb (e - (at + 1)) 255 && held.small) refl ∙ sym (ap (start_by d at) o)
        where
          go : (y : Bool) → leb (e - (at + 1)) 255 && held.small ≡ y
              → cond y (Start (e - (at + 1)) head end empty held.twice) TooLarge ≡ start_by d at (some (ended empty end))
          go true w =
              placed empty end l h (and_right (leb (e - (at + 1)) 255) held.small w)
              ∙ sym (ap (λ (z : Bool). cond z (start_placed d at (ended empty end)) TooLarge) (sym (small_is empty end) ∙ w))
          go false w = sym (ap (λ (z : Bool). cond z (start_placed d at (ended empty end)) TooLarge) (sym (small_is empty end) ∙ w))

      started : (end : ℕ) → expect (bytes ">") (drop head d) ≡ some (drop end d) → tag_of (drop at d) ≡ some (ended false end)
      unfolding tag_of
      started end h = rw (opened, piece_some d (at + 1) n f, blank, h)

      emptied : (end : ℕ) → expect (bytes ">") (drop head d) ≡ none → expect (bytes "/>") (drop head d) ≡ some (drop end d)
          → tag_of (drop at d) ≡ some (ended true end)
      unfolding tag_of
      emptied end o h = rw (opened, piece_some d (at + 1) n f, blank, o, h)

      module _ {c : Bool} (g : c ≡ begins (bytes ">") (drop head d)) where
        pub tag_start : c ≡ true → {x : Item}
            → x ≡ cond (leb (e - (at + 1)) 255 && held.small) (Start (e - (at + 1)) head (head + 1) false held.twice) TooLarge
            → x ≡ tag_at d at
        tag_start h k =
            closed false (head + 1) (started (head + 1) (ends_some (text_yes d head (bytes ">") g h (omega arith)) refl)) (omega arith)
            (text_inside d head (bytes ">") g h (omega arith)) k

        module _ (h : c ≡ false) {c' : Bool} (g' : c' ≡ begins (bytes "/>") (drop head d)) where
          pub tag_empty : c' ≡ true → {x : Item}
              → x ≡ cond (leb (e - (at + 1)) 255 && held.small) (Start (e - (at + 1)) head (head + 2) true held.twice) TooLarge
              → x ≡ tag_at d at
          tag_empty h' k =
              closed true (head + 2)
              (emptied (head + 2) (fault_none (text_no d head (bytes ">") g h) refl)
              (ends_some (text_yes d head (bytes "/>") g' h' (omega arith)) refl))
              (omega arith) (text_inside d head (bytes "/>") g' h' (omega arith)) k

-- the final `>` or `/>` ends inside
module _ (d : List ℕ) (head : ℕ) {c : Bool} (l : length d < 2 ^ 64) where
  pub start_add : c ≡ begins (bytes ">") (drop head d) → c ≡ true → Fits w64 (head + 1)
  start_add g h = record { fits = let z = text_inside d head (bytes ">") g h (omega arith) in omega arith }

  pub empty_add : c ≡ begins (bytes "/>") (drop head d) → c ≡ true → Fits w64 (head + 2)
  empty_add g h = record { fits = let z = text_inside d head (bytes "/>") g h (omega arith) in omega arith }

pub ruleset tagging = (
  tag_none,
  tag_inside,
  tag_add,
  tag_nameless,
  tag_open,
  tag_start,
  start_add,
  tag_empty,
  empty_add,
  piece_ahead,
  piece_inside,
  rules,
)
