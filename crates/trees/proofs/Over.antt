-- Where there is no item, nothing is left of the document: a byte that is left begins an item, or a fault.
use mathlib.Core.Path.{◌≡◌, refl, ap}
use mathlib.Core.Bool.{Bool, true, false, cond}
use mathlib.Core.List.{List, [], ◌∷◌}
use mathlib.Core.Option.{Option as Maybe, none, some}
use Prim.Native.Nat.{ℕ}
use lib.Dec.{leb}
use lib.ListN.{length, drop}
use Rattle.xml.proofs.Bools.{true-false}
use Rattle.readers.specs.Plain.{text_of, comment_of, section_of}
use Rattle.readers.specs.Value.{reference_of}
use Rattle.readers.specs.Named.{Piece, Tag, instruction_of, declaration_of, tag_of, end_tag_of, small_tag}
use Rattle.references.specs.Say.{saying_at}
use Rattle.std.specs.Prelude.{Option, Some, None}
use Rattle.items.specs.Item.{Kind, declaration, instruction, comment, section, doctype, finish, start, reference, text, nothing}
use Rattle.tags.specs.Tag.{start_by, tag_at, finish_by, end_tag_at}
use Rattle.items.specs.Item.{kind_of, item_by, reference_item, item_of, item_at}
use Rattle.tags.specs.declared.Item.{Item}
use Rattle.tags.specs.declared.Item.TheVariants.{Declaration, Instruction, Comment, Section, Reference, Text, Start, Finish}
use Rattle.tags.specs.declared.Item.TheVariants.{Doctype, Malformed, TooLarge, Nothing}
use Rattle.trees.proofs.Choices.{cond_same}

-- ---- a byte that is left is of some kind

abbrev is_kind : Kind → Bool
is_kind declaration = true
is_kind instruction = true
is_kind comment = true
is_kind section = true
is_kind doctype = true
is_kind finish = true
is_kind start = true
is_kind reference = true
is_kind text = true
is_kind nothing = false

cond_kind : (b : Bool) (x y : Kind) → is_kind (cond b x y) ≡ cond b (is_kind x) (is_kind y)
cond_kind true x y = refl
cond_kind false x y = refl

byte_kind : (first : Bool) (b : ℕ) (s : List ℕ) → is_kind (kind_of first (b ∷ s)) ≡ true
unfolding kind_of
byte_kind first b s = simp (cond_kind, cond_same)

-- ---- at some kind there is an item, or a fault

abbrev is_item : Item → Bool
is_item (Declaration e) = true
is_item (Instruction e) = true
is_item (Comment e) = true
is_item (Section e) = true
is_item (Reference n e) = true
is_item (Text e) = true
is_item (Start n h e m t) = true
is_item (Finish n e) = true
is_item Doctype = true
is_item Malformed = true
is_item TooLarge = true
is_item Nothing = false

module _ (d : List ℕ) (at : ℕ) where
  read_item : (f : ℕ → Item) (o : Maybe (List ℕ)) → ((e : ℕ) → is_item (f e) ≡ true) → is_item (item_by f d at o) ≡ true
  read_item f none h = refl
  read_item f (some t) h = h _

  said_item : (r : Option (ℕ × ℕ)) → is_item (reference_item r) ≡ true
  said_item (Some (c, e)) = refl
  said_item None = refl

  sized_item : (b : Bool) (i : Item) → is_item i ≡ true → is_item (cond b i TooLarge) ≡ true
  sized_item true i h = h
  sized_item false i h = refl

  tag_item : (o : Maybe Tag) → is_item (start_by d at o) ≡ true
  tag_item none = refl
  tag_item (some v) = sized_item (small_tag v) _ refl

  end_tag_item : (o : Maybe Piece) → is_item (finish_by d at o) ≡ true
  end_tag_item none = refl
  end_tag_item (some v) = sized_item (leb (length v.name) 255) _ refl

  kind_item : (k : Kind) → is_kind k ≡ true → is_item (item_of k d at) ≡ true
  unfolding tag_at end_tag_at
  kind_item declaration q = read_item Declaration (declaration_of (drop at d)) (λ e. refl)
  kind_item instruction q = read_item Instruction (instruction_of (drop at d)) (λ e. refl)
  kind_item comment q = read_item Comment (comment_of (drop at d)) (λ e. refl)
  kind_item section q = read_item Section (section_of (drop at d)) (λ e. refl)
  kind_item doctype q = refl
  kind_item finish q = end_tag_item (end_tag_of (drop at d))
  kind_item start q = tag_item (tag_of (drop at d))
  kind_item reference q = said_item (saying_at d at (reference_of (drop at d)))
  kind_item text q = read_item Text (text_of (drop at d)) (λ e. refl)
  kind_item nothing q = q

  pub nothing_left : (first : Bool) → item_at first d at ≡ Nothing → drop at d ≡ []
  unfolding item_at
  nothing_left first e = go (drop at d) refl
    where
      go : (s : List ℕ) → drop at d ≡ s → s ≡ []
      go [] q = refl
      go (b ∷ s) q =
          let z : is_kind (kind_of first (drop at d)) ≡ true = rw q (byte_kind first b s) in
          absurd (true-false (kind_item (kind_of first (drop at d)) z) (ap is_item e))
