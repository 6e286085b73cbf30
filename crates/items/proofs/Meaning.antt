-- The item at a place is the one answer that says what specs/Meaning has, wherever only characters are left. In order: sizes and repeated
-- names; a place that is inside; tags, end tags and readings, each both ways; the item of a kind, and the item.
use mathlib.Core.Path.{◌≡◌, refl, sym, ap, ◌∙◌}
use mathlib.Core.Bool.{Bool, true, false, cond}
use mathlib.Core.List.{List, [], ◌∷◌}
use mathlib.Core.Option.{Option as Maybe, none, some, none-ne-some}
use Prim.Native.Nat.{ℕ, suc, ◌≤◌}
use native.Mathlib.Omega.{arith}
use borrow.Author.Tests.{leb-true, leb-false, le-leb}
use lib.Dec.{leb}
use lib.ListN.{length, drop, length-drop}
use Rattle.xml.specs.Notation.{Reads}
use Rattle.xml.specs.Productions.{XMLDecl, PI, Comment as CommentRule, CDSect}
use Rattle.xml.specs.Document.{AllShort}
use Rattle.xml.proofs.Bools.{and_left, and_right, and_both, true-false}
use Rattle.utf8.specs.Place.{ends_at}
use Rattle.utf8.proofs.Place.{stands_one, drop_end}
use Rattle.chars.specs.Name.{reading_at}
use Rattle.std.specs.Prelude.{Option, Some, None}
use Rattle.readers.specs.Plain.{text_of, comment_of, section_of}
use Rattle.readers.specs.Value.{reference_of}
use Rattle.readers.specs.Named.{Piece, Tag, instruction_of, declaration_of, tag_of, end_tag_of, small_all, small_tag, repeated}
use Rattle.readers.specs.Meaning.{Chars, TextIs, EndTagIs, TagIs}
use Rattle.readers.specs.Says.{Says}
use Rattle.readers.proofs.Left.{end_stands}
use Rattle.readers.proofs.Tags.{tag_sound, tag_complete, tag_leaves, end_tag_sound, end_tag_complete, end_tag_leaves}
use Rattle.readers.proofs.Unique.{unique_iff}
use Rattle.readers.proofs.Says.{declaration_says, declaration_only, instruction_says, instruction_only, comment_says, comment_only}
use Rattle.readers.proofs.Says.{section_says, section_only, text_says, text_only}
use Rattle.references.specs.Say.{saying_at}
use Rattle.references.specs.Meaning.{ReferenceSays}
use Rattle.references.proofs.Meaning.{reference_says, reference_only}
use Rattle.tags.specs.Tag.{start_placed, start_by, tag_at, finish_by, end_tag_at}
use Rattle.tags.specs.declared.Item.{Item}
use Rattle.tags.specs.declared.Item.TheVariants.{Declaration, Instruction, Comment, Section, Reference, Text, Start, Finish}
use Rattle.tags.specs.declared.Item.TheVariants.{Doctype, Malformed, TooLarge, Nothing}
use Rattle.items.specs.Item.{Kind, declaration, instruction, comment, section, doctype, finish, start, reference, text, nothing}
use Rattle.items.specs.Item.{kind_of, item_by, reference_item, item_of, item_at}
use Rattle.items.specs.Meaning.{Short, Small, Twice, StartIs, FinishIs, Broken, Large, large_finish, large_start}
use Rattle.items.specs.Meaning.{KindSays, ItemSays}
use Rattle.items.proofs.Telling.{kind_nothing, by_ends, by_fault}

-- ---- sizes

all_short : (ns : List (List ℕ)) → small_all ns ≡ true → AllShort ns
all_short [] h = tt
all_short (n ∷ ns) h = (leb-true (length n) 255 (and_left (leb (length n) 255) _ h), all_short ns (and_right (leb (length n) 255) _ h))

short_all : (ns : List (List ℕ)) → AllShort ns → small_all ns ≡ true
short_all [] h = refl
short_all (n ∷ ns) (l, h) = and_both (leb (length n) 255) _ (le-leb (length n) 255 l) (short_all ns h)

small_says : (v : Tag) → small_tag v ≡ true → Small v
unfolding small_tag
small_says v h =
    let k = and_right (leb (length v.name) 255) _ h in
    record {
      name = leb-true (length v.name) 255 (and_left (leb (length v.name) 255) _ h);
      few = leb-true (length v.attributes) 32 (and_left (leb (length v.attributes) 32) _ k);
      attributes = all_short v.attributes (and_right (leb (length v.attributes) 32) _ k);
    }

small_is : (v : Tag) → Small v → small_tag v ≡ true
unfolding small_tag
small_is v k =
    and_both (leb (length v.name) 255) _ (le-leb (length v.name) 255 k.name)
    (and_both (leb (length v.attributes) 32) _ (le-leb (length v.attributes) 32 k.few) (short_all v.attributes k.attributes))

-- a test that does not hold is false
refuted : (b : Bool) → (b ≡ true → ⊥) → b ≡ false
refuted true n = absurd (n refl)
refuted false n = refl

-- ---- repeated names

twice_says : (ns : List (List ℕ)) (b : Bool) → repeated ns ≡ b → Twice b ns
twice_says ns false e = (unique_iff ns).0 e
twice_says ns true e = λ u. true-false e ((unique_iff ns).1 u)

twice_is : (ns : List (List ℕ)) (b : Bool) → Twice b ns → b ≡ repeated ns
twice_is ns false u = sym ((unique_iff ns).1 u)
twice_is ns true n = go (repeated ns) refl
  where
    go : (b : Bool) → repeated ns ≡ b → true ≡ b
    go true e = refl
    go false e = absurd (n ((unique_iff ns).0 e))

-- ---- places

-- a text of a byte or more does not stand past the end
text_place : (d : List ℕ) (at b : ℕ) {t : List ℕ} → drop at d ≡ b ∷ t → at ≤ length d
text_place d at b {t} e =
    let z : length (drop at d) ≡ suc (length t) = ap length e in
    omega (arith, length-drop at d)

module _ (d : List ℕ) (at : ℕ) (c : Chars (drop at d)) where
  -- ---- tags

  pub tag_says : KindSays start d at (tag_at d at)
  unfolding tag_at
  tag_says = go (tag_of (drop at d)) refl
    where
      sized : (v : Tag) → tag_of (drop at d) ≡ some v → (b : Bool) → small_tag v ≡ b
          → KindSays start d at (cond b (start_placed d at v) TooLarge)
      sized v q true h =
          let x = tag_sound c q in (
            refl,
            record {
              tag = v;
              stands = x;
              small = small_says v h;
              name_is = refl;
              head_is = refl;
              ends = end_stands d at (text_place d at 0x3C x.opens) (tag_leaves (drop at d) v q);
              empty_is = refl;
              twice_is = twice_says v.attributes _ refl;
            },
          )
      sized v q false h = large_start (tag_sound c q) (λ k. true-false (small_is v k) h)

      go : (o : Maybe Tag) → tag_of (drop at d) ≡ o → KindSays start d at (start_by d at o)
      go none q = λ v x. none-ne-some v (sym q ∙ tag_complete c x)
      go (some v) q = sized v q (small_tag v) refl

  start_only : {n h e : ℕ} {empty twice : Bool} → StartIs d at n h e empty twice → Start n h e empty twice ≡ tag_at d at
  unfolding tag_at
  start_only {twice = twice} x =
      let v = x.tag in
      let w = twice_is v.attributes twice x.twice_is in
      let q = tag_complete c x.stands in
      let p = end_stands d at (text_place d at 0x3C x.stands.opens) (tag_leaves (drop at d) v q) in
      let z = stands_one x.ends p in
      sym (rw (q, small_is v x.small, ← x.name_is, ← x.head_is, ← z, ← x.empty_is, ← w))

  no_tag : ((v : Tag) → TagIs (drop at d) v → ⊥) → Malformed ≡ tag_at d at
  unfolding tag_at
  no_tag n = go (tag_of (drop at d)) refl
    where
      go : (o : Maybe Tag) → tag_of (drop at d) ≡ o → Malformed ≡ start_by d at o
      go none q = refl
      go (some v) q = absurd (n v (tag_sound c q))

  large_tag : {v : Tag} → TagIs (drop at d) v → (Small v → ⊥) → TooLarge ≡ tag_at d at
  unfolding tag_at
  large_tag {v} x n = sym (rw (tag_complete c x, refuted (small_tag v) (λ h. n (small_says v h))))

  -- ---- end tags

  pub end_tag_says : KindSays finish d at (end_tag_at d at)
  unfolding end_tag_at
  end_tag_says = go (end_tag_of (drop at d)) refl
    where
      sized : (v : Piece) → end_tag_of (drop at d) ≡ some v → (b : Bool) → leb (length v.name) 255 ≡ b
          → KindSays finish d at (cond b (Finish (length v.name) (ends_at d at v.rest)) TooLarge)
      sized v q true h =
          let x = end_tag_sound c q in (
            refl,
            record {
              tag = v;
              stands = x;
              small = leb-true (length v.name) 255 h;
              name_is = refl;
              ends = end_stands d at (text_place d at 0x3C x.opens) (end_tag_leaves (drop at d) v q);
            },
          )
      sized v q false h = large_finish (end_tag_sound c q) (λ l. true-false (le-leb (length v.name) 255 l) h)

      go : (o : Maybe Piece) → end_tag_of (drop at d) ≡ o → KindSays finish d at (finish_by d at o)
      go none q = λ v x. none-ne-some v (sym q ∙ end_tag_complete c x)
      go (some v) q = sized v q (leb (length v.name) 255) refl

  finish_only : {n e : ℕ} → FinishIs d at n e → Finish n e ≡ end_tag_at d at
  unfolding end_tag_at
  finish_only x =
      let v = x.tag in
      let q = end_tag_complete c x.stands in
      let p = end_stands d at (text_place d at 0x3C x.stands.opens) (end_tag_leaves (drop at d) v q) in
      let z = stands_one x.ends p in
      sym (rw (q, le-leb (length v.name) 255 x.small, ← x.name_is, ← z))

  no_end_tag : ((v : Piece) → EndTagIs (drop at d) v → ⊥) → Malformed ≡ end_tag_at d at
  unfolding end_tag_at
  no_end_tag n = go (end_tag_of (drop at d)) refl
    where
      go : (o : Maybe Piece) → end_tag_of (drop at d) ≡ o → Malformed ≡ finish_by d at o
      go none q = refl
      go (some v) q = absurd (n v (end_tag_sound c q))

  large_end_tag : {v : Piece} → EndTagIs (drop at d) v → (Short v.name → ⊥) → TooLarge ≡ end_tag_at d at
  unfolding end_tag_at
  large_end_tag {v} x n =
      sym (rw (end_tag_complete c x, refuted (leb (length v.name) 255) (λ h. n (leb-true (length v.name) 255 h))))

  -- ---- readings

  -- an item of the kind f, or a broken production, says what the reading says
  by_says : (P : Item → Type 0) (f : ℕ → Item) (R : List ℕ → List ℕ → Type 0) (o : Maybe (List ℕ))
      → ((e : ℕ) → Says R d at (Some e) → P (f e)) → (Says R d at None → P Malformed) → Says R d at (reading_at d at o)
      → P (item_by f d at o)
  by_says P f R none y n x = n x
  by_says P f R (some t) y n x = y _ x

  by_saying : (r : Option (ℕ × ℕ)) → ReferenceSays d at r → KindSays reference d at (reference_item r)
  by_saying (Some (n, e)) x = (refl, x)
  by_saying None x = x

  kind_says : (k : Kind) → at ≤ length d → KindSays k d at (item_of k d at)
  kind_says declaration l =
      by_says (KindSays declaration d at) Declaration (Reads XMLDecl) (declaration_of (drop at d)) (λ e x. (refl, x)) (λ x. x)
      (declaration_says d at c l)
  kind_says instruction l =
      by_says (KindSays instruction d at) Instruction (Reads PI) (instruction_of (drop at d)) (λ e x. (refl, x)) (λ x. x)
      (instruction_says d at c l)
  kind_says comment l =
      by_says (KindSays comment d at) Comment (Reads CommentRule) (comment_of (drop at d)) (λ e x. (refl, x)) (λ x. x)
      (comment_says d at c l)
  kind_says section l =
      by_says (KindSays section d at) Section (Reads CDSect) (section_of (drop at d)) (λ e x. (refl, x)) (λ x. x)
      (section_says d at c l)
  kind_says doctype l = refl
  kind_says finish l = end_tag_says
  kind_says start l = tag_says
  kind_says reference l = by_saying (saying_at d at (reference_of (drop at d))) (reference_says d at)
  kind_says text l =
      by_says (KindSays text d at) Text TextIs (text_of (drop at d)) (λ e x. (refl, x)) (λ x. x) (text_says d at c l)
  kind_says nothing l = refl

  broken_only : (k : Kind) → Broken k d at → Malformed ≡ item_of k d at
  broken_only declaration n = by_fault Declaration d at (declaration_of (drop at d)) (declaration_only d at c None n) refl
  broken_only instruction n = by_fault Instruction d at (instruction_of (drop at d)) (instruction_only d at c None n) refl
  broken_only comment n = by_fault Comment d at (comment_of (drop at d)) (comment_only d at c None n) refl
  broken_only section n = by_fault Section d at (section_of (drop at d)) (section_only d at c None n) refl
  broken_only doctype n = absurd n
  broken_only finish n = no_end_tag n
  broken_only start n = no_tag n
  broken_only reference n = ap reference_item (reference_only d at None n)
  broken_only text n = by_fault Text d at (text_of (drop at d)) (text_only d at c None n) refl
  broken_only nothing n = absurd n

  large_only : (k : Kind) → Large d at k → TooLarge ≡ item_of k d at
  large_only k (large_finish x n) = large_end_tag x n
  large_only k (large_start x n) = large_tag x n

  of_kind : {k j : Kind} → k ≡ j → item_of j d at ≡ item_of k d at
  of_kind q = ap (λ (k : Kind). item_of k d at) (sym q)

  kind_only : (k : Kind) (i : Item) → KindSays k d at i → i ≡ item_of k d at
  kind_only k (Declaration e) (q, x) =
      by_ends Declaration d at (declaration_of (drop at d)) (declaration_only d at c (Some e) x) refl ∙ of_kind q
  kind_only k (Instruction e) (q, x) =
      by_ends Instruction d at (instruction_of (drop at d)) (instruction_only d at c (Some e) x) refl ∙ of_kind q
  kind_only k (Comment e) (q, x) = by_ends Comment d at (comment_of (drop at d)) (comment_only d at c (Some e) x) refl ∙ of_kind q
  kind_only k (Section e) (q, x) = by_ends Section d at (section_of (drop at d)) (section_only d at c (Some e) x) refl ∙ of_kind q
  kind_only k (Finish n e) (q, x) = finish_only x ∙ of_kind q
  kind_only k (Start n h e empty twice) (q, x) = start_only x ∙ of_kind q
  kind_only k (Reference n e) (q, x) = ap reference_item (reference_only d at (Some (n, e)) x) ∙ of_kind q
  kind_only k (Text e) (q, x) = by_ends Text d at (text_of (drop at d)) (text_only d at c (Some e) x) refl ∙ of_kind q
  kind_only k Doctype q = of_kind q
  kind_only k Malformed n = broken_only k n
  kind_only k TooLarge x = large_only k x
  kind_only k Nothing q = of_kind q

  pub tag_only : (i : Item) → KindSays start d at i → i ≡ tag_at d at
  tag_only = kind_only start

  pub end_tag_only : (i : Item) → KindSays finish d at i → i ≡ end_tag_at d at
  end_tag_only = kind_only finish

-- ---- the item

pub item_says : (first : Bool) (d : List ℕ) (at : ℕ) → Chars (drop at d) → ItemSays first d at (item_at first d at)
unfolding item_at
item_says first d at c = go (leb at (length d)) refl
  where
    k : Kind
    k = kind_of first (drop at d)

    none_left : (k : Kind) → k ≡ nothing → KindSays k d at (item_of k d at)
    none_left k q = rw q refl

    go : (b : Bool) → leb at (length d) ≡ b → KindSays k d at (item_of k d at)
    go true h = kind_says d at c k (leb-true at (length d) h)
    go false h =
        let l = leb-false at (length d) h in
        none_left k (ap (kind_of first) (drop_end d at (omega arith)) ∙ kind_nothing first)

pub item_only : (first : Bool) (d : List ℕ) (at : ℕ) → Chars (drop at d) → (i : Item) → ItemSays first d at i → i ≡ item_at first d at
unfolding item_at
item_only first d at c = kind_only d at c (kind_of first (drop at d))
