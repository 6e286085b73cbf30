-- Tags in the words of the readers' crate and in those of the document's productions, both ways. In order: what follows a tag; a start or
-- empty tag, an end tag, and any other item at a place.
use mathlib.Core.Path.{◌≡◌, refl, sym, ap, ◌∙◌}
use mathlib.Core.Bool.{Bool, true, false}
use mathlib.Core.List.{List, ◌++◌}
use Prim.Native.Nat.{ℕ, ◌+◌, ◌≤◌, ◌<◌}
use native.Mathlib.Omega.{arith}
use lib.ListN.{length, take, drop}
use lib.Seq.{take-append_seam}
use Rattle.xml.specs.Notation.{Rule, bytes}
use Rattle.xml.specs.Productions.{STag, ETag, EmptyElemTag}
use Rattle.xml.specs.Forest.{Name, Tag}
use Rattle.xml.specs.Document.{Opens, Closes, Item, AllShort}
use Rattle.std.specs.Prelude.{Some}
use Rattle.readers.specs.Named as named
use Rattle.readers.specs.Meaning.{Chars, tag_end, TagIs, EndTagIs}
use Rattle.readers.specs.Says.{ReadingSays}
use Rattle.readers.proofs.Combine.{chars_left}
use Rattle.readers.proofs.Follow.{ascii}
use Rattle.readers.proofs.Tags.{tag_reads_start, tag_reads_empty, end_tag_reads}
use Rattle.tags.specs.Kept.{name_from}
use Rattle.items.specs.Meaning.{StartIs, FinishIs}
use Rattle.trees.specs.Grown.{part, tag_of}
use Rattle.demands.proofs.Parts.{part_left, part_is, drop_past}

-- ---- what follows a tag is characters too

pub tag_chars : (m : Bool) {s : List ℕ} {v : named.Tag} → TagIs s v → v.empty ≡ m → Chars s → Chars v.rest
tag_chars true {s} {v} k e c = chars_left EmptyElemTag (ascii EmptyElemTag refl) s v.rest c (tag_reads_empty k e)
tag_chars false {s} {v} k e c = chars_left STag (ascii STag refl) s v.rest c (tag_reads_start k e)

pub end_tag_chars : {s : List ℕ} {v : named.Piece} → EndTagIs s v → Chars s → Chars v.rest
end_tag_chars {s} {v} k c = chars_left ETag (ascii ETag refl) s v.rest c (end_tag_reads k)

-- ---- the tag at a place, as the document's productions have it

pub record Started (d : List ℕ) (at n h e : ℕ) (m : Bool) : Type 0 where
  pub attributes : List Name
  pub opens : Opens (tag_end m) (tag_of d at n h e) attributes (drop at d) (drop e d)
  pub short : length (name_from d (at + 1) n) ≤ 255
  pub few : length attributes ≤ 32
  pub all : AllShort attributes

module _ (d : List ℕ) (at : ℕ) where
  -- a name of n bytes stands after w
  pub name_past : {n : ℕ} (w from name to : List ℕ) → drop at d ≡ w ++ from → from ≡ name ++ to → n ≡ length name
      → name_from d (at + length w) n ≡ name
  name_past {n} w from name to q r l =
      ap (take n) (drop_past d w from at q ∙ r) ∙ ap (λ (k : ℕ). take k (name ++ to)) l ∙ take-append_seam name to

  pub start_sound : {n h e : ℕ} {m : Bool} → StartIs d at n h e m false → at ≤ h → h < e → e ≤ length d → Started d at n h e m
  start_sound {n} {h} {e} {m} x l k i =
      let v = x.tag in
      let y = x.stands in
      let nm : name_from d (at + 1) n ≡ v.name = name_past (bytes "<") y.from v.name y.to y.opens y.name_is x.name_is in
      let lst : drop h d ≡ y.last = ap (λ (j : ℕ). drop j d) x.head_is ∙ drop_past d v.head y.last at y.head_is in
      let hd : part d at h ≡ v.head
      = part_is d v.head y.last at h y.head_is (record { rest = lst; inside = omega arith }) l in
      record {
        attributes = v.attributes;
        opens =
            record {
              from = y.from;
              to = y.to;
              after = y.after;
              last = y.last;
              opens = y.opens;
              named = y.named;
              name_is = rw nm y.name_is;
              listed = y.attributes;
              blank = y.blank;
              closes = rw (x.empty_is, x.ends.rest) y.closes;
              head_is = rw hd y.head_is;
              tail_is = sym lst ∙ part_left d h e (omega arith);
              unique = x.twice_is;
            };
        short = rw nm x.small.name;
        few = x.small.few;
        all = x.small.attributes;
      }

  pub start_chars : {n h e : ℕ} {m t : Bool} → StartIs d at n h e m t → Chars (drop at d) → Chars (drop e d)
  start_chars {m = m} x c = rw x.ends.rest (tag_chars m x.stands (sym x.empty_is) c)

  pub finish_sound : {n e : ℕ} (name : Name) → FinishIs d at n e → name_from d (at + 2) n ≡ name → at ≤ e
      → Closes name (part d at e) (drop at d) (drop e d)
  finish_sound {n} {e} name x q l =
      let v = x.tag in
      let y = x.stands in
      let nm : name_from d (at + 2) n ≡ v.name = name_past (bytes "</") y.from v.name y.to y.opens y.name_is x.name_is in
      let z : name ≡ v.name = sym q ∙ nm in
      record {
        from = y.from;
        to = y.to;
        last = y.last;
        opens = y.opens;
        named = y.named;
        name_is = rw z y.name_is;
        blank = y.blank;
        closes = rw x.ends.rest y.closes;
        raw_is = part_left d at e l;
      }

  pub finish_chars : {n e : ℕ} → FinishIs d at n e → Chars (drop at d) → Chars (drop e d)
  finish_chars x c = rw x.ends.rest (end_tag_chars x.stands c)

  pub item_sound : (r : Rule) {e : ℕ} → ReadingSays r d at (Some e) → Item r (part d at e) (drop at d) (drop e d)
  item_sound r {e} (x, l, h) = record { reads = x; raw_is = part_left d at e l }
