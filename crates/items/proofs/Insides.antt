-- The item that is read stands inside the document, whatever bytes these are. In order: a reading that leaves a shorter end; where an item
-- is text, its first byte is neither `<` nor `&`; tags and end tags, by the lengths of what they hold; the item.
use mathlib.Core.Path.{◌≡◌, refl, ap}
use mathlib.Core.Bool.{Bool, true, false, cond, ◌&&◌, ◌||◌}
use mathlib.Core.List.{List, [], ◌∷◌}
use mathlib.Core.Logic.{◌⊎◌, inl, inr}
use mathlib.Core.Option.{Option, none, some}
use Prim.Native.Nat.{ℕ}
use native.Mathlib.Omega.{arith}
use borrow.Author.Tests.{eqb-true}
use lib.Dec.{leb, eqb}
use lib.ListN.{length, drop, length-drop}
use Rattle.xml.specs.Notation.{bytes}
use Rattle.xml.specs.Character.{begins}
use Rattle.xml.proofs.Bools.{or_either, true-false}
use Rattle.utf8.specs.Place.{ends_at}
use Rattle.readers.specs.Plain.{text_of, comment_of, section_of}
use Rattle.readers.specs.Value.{Said, reference_of}
use Rattle.readers.specs.Named.{Piece, Tag, instruction_of, declaration_of, tag_of, end_tag_of, small_tag}
use Rattle.readers.proofs.Left.{Shorter, shorter_length}
use Rattle.readers.proofs.Many.{Shrinks}
use Rattle.readers.proofs.Shorter.{comment_shrinks, section_shrinks, text_shorter, instruction_shrinks, declaration_shrinks}
use Rattle.readers.proofs.Reference.{said_refers, refers_shorter}
use Rattle.readers.proofs.Tags.{tag_lengths, end_tag_lengths}
use Rattle.references.specs.Say.{saying_at}
use Rattle.tags.specs.Tag.{start_placed, start_by, tag_at, finish_by, end_tag_at}
use Rattle.tags.specs.declared.Item.{Item}
use Rattle.tags.specs.declared.Item.TheVariants.{Declaration, Instruction, Comment, Section, Text, Finish, TooLarge}
use Rattle.items.specs.Item.{Kind, declaration, instruction, comment, section, doctype, finish, start, reference, text, nothing}
use Rattle.items.specs.Item.{declares, kind_of, item_by, reference_item, item_of, item_at}
use Rattle.items.specs.Inside.{Ahead, Inside}
use Rattle.items.proofs.Telling.{kind_nothing, kind_reference}

-- ---- readings

shorter_ahead : (d : List ℕ) (at : ℕ) (t : List ℕ) → Shorter (drop at d) t → Ahead d at (ends_at d at t)
unfolding ends_at
shorter_ahead d at t k =
    let z = shorter_length k in
    let y = length-drop at d in
    (omega arith, omega arith)

module _ (d : List ℕ) (at : ℕ) (f : ℕ → Item) (g : (e : ℕ) → Ahead d at e → Inside d at (f e)) where
  by_inside : (o : Option (List ℕ)) → ((t : List ℕ) → o ≡ some t → Shorter (drop at d) t) → Inside d at (item_by f d at o)
  by_inside none k = tt
  by_inside (some t) k = g _ (shorter_ahead d at t (k t refl))

  read_inside : (r : List ℕ → Option (List ℕ)) → Shrinks r → Inside d at (item_by f d at (r (drop at d)))
  read_inside r k = by_inside (r (drop at d)) (k.front (drop at d))

-- ---- text

abbrev is_text : Kind → Bool
is_text declaration = false
is_text instruction = false
is_text comment = false
is_text section = false
is_text doctype = false
is_text finish = false
is_text start = false
is_text reference = false
is_text text = true
is_text nothing = false

-- `<` is the beginning of no text
text_open : (first : Bool) (s : List ℕ) → is_text (kind_of first (0x3C ∷ s)) ≡ false
unfolding kind_of
text_open first s =
    go (first && declares (0x3C ∷ s)) (begins (bytes "?") s) (begins (bytes "!--") s) (begins (bytes "![CDATA[") s)
    (begins (bytes "!DOCTYPE") s) (begins (bytes "/") s)
  where
    go : (a b c d e f : Bool)
        → is_text (cond a declaration (cond b instruction (cond c comment (cond d section (cond e doctype (cond f finish start)))))) ≡ false
    go true b c d e f = refl
    go false true c d e f = refl
    go false false true d e f = refl
    go false false false true e f = refl
    go false false false false true f = refl
    go false false false false false true = refl
    go false false false false false false = refl

text_first : (first : Bool) (b : ℕ) (s : List ℕ) → is_text (kind_of first (b ∷ s)) ≡ true → eqb b 0x3C || eqb b 0x26 ≡ false
text_first first b s h = go (eqb b 0x3C || eqb b 0x26) refl
  where
    marked : (eqb b 0x3C ≡ true) ⊎ (eqb b 0x26 ≡ true) → is_text (kind_of first (b ∷ s)) ≡ false
    marked (inl e) = let q = eqb-true b 0x3C e in rw q (text_open first s)
    marked (inr e) = let q = eqb-true b 0x26 e in rw q (ap is_text (kind_reference first s))

    go : (x : Bool) → eqb b 0x3C || eqb b 0x26 ≡ x → x ≡ false
    go true e = absurd (true-false h (marked (or_either (eqb b 0x3C) (eqb b 0x26) e)))
    go false e = refl

text_ahead : (first : Bool) (s t : List ℕ) → is_text (kind_of first s) ≡ true → text_of s ≡ some t → Shorter s t
text_ahead first [] t h e = absurd (true-false h (ap is_text (kind_nothing first)))
text_ahead first (b ∷ s) t h e = text_shorter b s (text_first first b s h) e

module _ (d : List ℕ) (at : ℕ) where
  -- ---- tags

  tag_inside : Inside d at (tag_at d at)
  unfolding tag_at ends_at
  tag_inside = go (tag_of (drop at d)) refl
    where
      placed : (v : Tag) → tag_of (drop at d) ≡ some v → Inside d at (start_placed d at v)
      placed v q =
          let (x, y) = tag_lengths (drop at d) v q in
          let z = length-drop at d in
          (omega arith, omega arith, omega arith)

      sized : (v : Tag) → tag_of (drop at d) ≡ some v → (b : Bool) → Inside d at (cond b (start_placed d at v) TooLarge)
      sized v q true = placed v q
      sized v q false = tt

      go : (o : Option Tag) → tag_of (drop at d) ≡ o → Inside d at (start_by d at o)
      go none q = tt
      go (some v) q = sized v q (small_tag v)

  end_tag_inside : Inside d at (end_tag_at d at)
  unfolding end_tag_at ends_at
  end_tag_inside = go (end_tag_of (drop at d)) refl
    where
      sized : (v : Piece) → end_tag_of (drop at d) ≡ some v → (b : Bool)
          → Inside d at (cond b (Finish (length v.name) (ends_at d at v.rest)) TooLarge)
      sized v q true =
          let x = end_tag_lengths (drop at d) v q in
          let z = length-drop at d in
          (omega arith, omega arith)
      sized v q false = tt

      go : (o : Option Piece) → end_tag_of (drop at d) ≡ o → Inside d at (finish_by d at o)
      go none q = tt
      go (some v) q = sized v q (leb (length v.name) 255)

  -- ---- references

  reference_inside : Inside d at (reference_item (saying_at d at (reference_of (drop at d))))
  reference_inside = go (reference_of (drop at d)) refl
    where
      go : (o : Option Said) → reference_of (drop at d) ≡ o → Inside d at (reference_item (saying_at d at o))
      go none q = tt
      go (some r) q = shorter_ahead d at r.rest (refers_shorter (said_refers q))

  -- ---- the item

  kind_inside : (k : Kind) → (is_text k ≡ true → (t : List ℕ) → text_of (drop at d) ≡ some t → Shorter (drop at d) t)
      → Inside d at (item_of k d at)
  kind_inside declaration h = read_inside d at Declaration (λ e x. x) declaration_of declaration_shrinks
  kind_inside instruction h = read_inside d at Instruction (λ e x. x) instruction_of instruction_shrinks
  kind_inside comment h = read_inside d at Comment (λ e x. x) comment_of comment_shrinks
  kind_inside section h = read_inside d at Section (λ e x. x) section_of section_shrinks
  kind_inside doctype h = tt
  kind_inside finish h = end_tag_inside
  kind_inside start h = tag_inside
  kind_inside reference h = reference_inside
  kind_inside text h = by_inside d at Text (λ e x. x) (text_of (drop at d)) (h refl)
  kind_inside nothing h = tt

pub item_inside : (first : Bool) (d : List ℕ) (at : ℕ) → Inside d at (item_at first d at)
unfolding item_at
item_inside first d at = kind_inside d at (kind_of first (drop at d)) (λ h t. text_ahead first (drop at d) t h)
