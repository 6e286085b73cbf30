-- What a start tag says of its name: a name of up to 255 bytes stands after `<`. It is what `end_tag` is asked for where an element was
-- opened. In order: what a tag that is read holds; what follows a name; the item.
use mathlib.Core.Path.{◌≡◌, refl, sym, ap, ◌∙◌}
use mathlib.Core.Bool.{Bool, true, false, cond}
use mathlib.Core.List.{List}
use mathlib.Core.Option.{Option as Maybe, none, some, some-injective, none-ne-some}
use Prim.Native.Nat.{ℕ, ◌+◌, ◌-◌, ◌≤◌}
use native.Mathlib.Omega.{arith}
use borrow.Author.Tests.{leb-true}
use lib.Dec.{leb}
use lib.ListN.{length, drop}
use lib.Seq.{drop-drop, length-take-le}
use Rattle.xml.specs.Notation.{bytes}
use Rattle.xml.specs.Character.{begins, starts, run}
use Rattle.xml.specs.Productions.{is_name, is_name_start}
use Rattle.xml.proofs.Bools.{and_left}
use Rattle.xml.proofs.Run.{run_length, run_drop}
use Rattle.utf8.specs.Place.{ends_at}
use Rattle.chars.specs.Name.{name_of}
use Rattle.readers.specs.Read.{and_then, or_else, expect, skip}
use Rattle.readers.specs.Named.{before, Piece, piece_named, gather, Tag, tag_of, end_tag_of, small_tag, instruction_of, declaration_of}
use Rattle.readers.specs.Plain.{text_of, comment_of, section_of}
use Rattle.readers.specs.Value.{reference_of}
use Rattle.tags.specs.Tag.{start_placed, start_by, tag_at, finish_by, end_tag_at}
use Rattle.tags.specs.declared.Item.{Item}
use Rattle.tags.specs.declared.Item.TheVariants.{Declaration, Instruction, Comment, Section, Text, Start, Finish}
use Rattle.tags.specs.declared.Item.TheVariants.{TooLarge}
use Rattle.items.specs.Item.{Kind, declaration, instruction, comment, section, doctype, finish, start, reference, text, nothing}
use Rattle.references.specs.Say.{saying_at}
use Rattle.std.specs.Prelude.{Option, Some, None}
use Rattle.items.specs.Item.{kind_of, item_by, reference_item, item_of, item_at}
use Rattle.quick.specs.End.{NamedAt}

-- ---- what a tag that is read holds

record Holds (s n : List ℕ) : Type 0 where
  inner : List ℕ
  left : List ℕ
  opens : expect (bytes "<") s ≡ some inner
  named : name_of inner ≡ some left
  name_is : n ≡ before inner left

abbrev closing : List ℕ → Piece → Maybe Tag
closing s p =
    let g = gather 0 p.rest in
    let e = skip g.rest in
    let tag : Bool → List ℕ → Maybe Tag
    = λ b u. some (record { name = p.name; attributes = g.names; head = before s e; empty = b; rest = u }) in
    or_else (and_then (expect (bytes ">") e) (tag false)) (and_then (expect (bytes "/>") e) (tag true))

closing-name : (s : List ℕ) (p : Piece) (v : Tag) → closing s p ≡ some v → v.name ≡ p.name
closing-name s p v q = go (expect (bytes ">") e) (expect (bytes "/>") e) q
  where
    e : List ℕ
    e = skip (gather 0 p.rest).rest

    made : Bool → List ℕ → Tag
    made b u = record { name = p.name; attributes = (gather 0 p.rest).names; head = before s e; empty = b; rest = u }

    go : (x y : Maybe (List ℕ)) → or_else (and_then x (λ u. some (made false u))) (and_then y (λ u. some (made true u))) ≡ some v
        → v.name ≡ p.name
    go (some u) y z = ap (λ (t : Tag). t.name) (sym (some-injective (made false u) v z))
    go none (some u) z = ap (λ (t : Tag). t.name) (sym (some-injective (made true u) v z))
    go none none z = absurd (none-ne-some v z)

tag_holds : (s : List ℕ) (v : Tag) → tag_of s ≡ some v → Holds s v.name
unfolding tag_of piece_named
tag_holds s v q = open_at (expect (bytes "<") s) refl q
  where
    named_at : (t : List ℕ) → expect (bytes "<") s ≡ some t → (o : Maybe (List ℕ)) → name_of t ≡ o
        → and_then (and_then o (λ u. some (record { name = before t u; rest = u }))) (closing s) ≡ some v → Holds s v.name
    named_at t f none e z = absurd (none-ne-some v z)
    named_at t f (some u) e z =
        record { inner = t; left = u; opens = f; named = e; name_is = closing-name s (record { name = before t u; rest = u }) v z }

    open_at : (o : Maybe (List ℕ)) → expect (bytes "<") s ≡ o → and_then o (λ t. and_then (piece_named t) (closing s)) ≡ some v
        → Holds s v.name
    open_at none f z = absurd (none-ne-some v z)
    open_at (some t) f z = named_at t f (name_of t) refl z

-- ---- what follows a name

module _ (s t : List ℕ) (e : name_of s ≡ some t) where
  name_left : t ≡ run is_name 0 s
  unfolding name_of
  name_left = go (starts is_name_start s) e
    where
      go : (b : Bool) → cond b (some (run is_name 0 s)) none ≡ some t → t ≡ run is_name 0 s
      go true z = sym (some-injective (run is_name 0 s) t z)
      go false z = absurd (none-ne-some t z)

  name_rest : t ≡ drop (length (before s t)) s
  unfolding before
  name_rest =
      let l = run_length is_name s in
      let shorter : length t ≤ length s = rw name_left l in
      let long = length-take-le (length s - length t) s (omega arith) in
      rw long (name_left ∙ sym (run_drop is_name s) ∙ ap (λ (u : List ℕ). drop (length s - length u) s) (sym name_left))

after_open : (s t : List ℕ) → expect (bytes "<") s ≡ some t → t ≡ drop 1 s
unfolding expect
after_open s t e = go (begins (bytes "<") s) e
  where
    go : (b : Bool) → cond b (some (drop 1 s)) none ≡ some t → t ≡ drop 1 s
    go true z = sym (some-injective (drop 1 s) t z)
    go false z = absurd (none-ne-some t z)

-- ---- the item

module _ (d : List ℕ) (at : ℕ) {n : ℕ} where
  by_tag : (v : Tag) → tag_of (drop at d) ≡ some v → small_tag v ≡ true → length v.name ≡ n → NamedAt d (at + 1) n
  unfolding small_tag
  by_tag v f s l =
      let x = tag_holds (drop at d) v f in
      let i : x.inner ≡ drop (at + 1) d = after_open (drop at d) x.inner x.opens ∙ drop-drop 1 at d in
      let k : length (before x.inner x.left) ≡ n = ap length (sym x.name_is) ∙ l in
      let r : x.left ≡ drop ((at + 1) + n) d =
      name_rest x.inner x.left x.named
      ∙ ap (λ (y : ℕ). drop y x.inner) k
      ∙ ap (drop n) i
      ∙ drop-drop n (at + 1) d in
      record {
        named = ap name_of (sym i) ∙ x.named ∙ ap some r;
        small = let y = leb-true (length v.name) 255 (and_left (leb (length v.name) 255) _ s) in omega arith;
      }

module _ (d : List ℕ) (at : ℕ) {n h e : ℕ} {m t : Bool} where
  tag_named : Start n h e m t ≡ tag_at d at → NamedAt d (at + 1) n
  unfolding tag_at
  tag_named q = go (tag_of (drop at d)) refl q
    where
      sized : (v : Tag) → tag_of (drop at d) ≡ some v → (b : Bool) → small_tag v ≡ b
          → Start n h e m t ≡ cond b (start_placed d at v) TooLarge → NamedAt d (at + 1) n
      sized v f true s z = by_tag d at v f s (cc)
      sized v f false s z = let y : ◌≡◌ {A = ℕ} 0 1 = cc in absurd (omega arith)

      go : (o : Maybe Tag) → tag_of (drop at d) ≡ o → Start n h e m t ≡ start_by d at o → NamedAt d (at + 1) n
      go none f z = let y : ◌≡◌ {A = ℕ} 0 1 = cc in absurd (omega arith)
      go (some v) f z = sized v f (small_tag v) refl z

  no_finish : Start n h e m t ≡ end_tag_at d at → ⊥
  unfolding end_tag_at
  no_finish q = go (end_tag_of (drop at d)) q
    where
      sized : (p : Piece) (b : Bool) → Start n h e m t ≡ cond b (Finish (length p.name) (ends_at d at p.rest)) TooLarge → ⊥
      sized p true z = let y : ◌≡◌ {A = ℕ} 0 1 = cc in omega arith
      sized p false z = let y : ◌≡◌ {A = ℕ} 0 1 = cc in omega arith

      go : (o : Maybe Piece) → Start n h e m t ≡ finish_by d at o → ⊥
      go none z = let y : ◌≡◌ {A = ℕ} 0 1 = cc in omega arith
      go (some p) z = sized p (leb (length p.name) 255) z

  no_other : (f : ℕ → Item) → ((i : ℕ) → Start n h e m t ≡ f i → ⊥) → (o : Maybe (List ℕ)) → Start n h e m t ≡ item_by f d at o → ⊥
  no_other f l none z = let y : ◌≡◌ {A = ℕ} 0 1 = cc in omega arith
  no_other f l (some u) z = l (ends_at d at u) z

  no_reference : (y : Option (ℕ × ℕ)) → Start n h e m t ≡ reference_item y → ⊥
  no_reference (Some (c, i)) z = let y : ◌≡◌ {A = ℕ} 0 1 = cc in omega arith
  no_reference None z = let y : ◌≡◌ {A = ℕ} 0 1 = cc in omega arith

  -- only a start tag or an empty tag is a `Start`
  pub start_named : (first : Bool) → Start n h e m t ≡ item_at first d at → NamedAt d (at + 1) n
  unfolding item_at
  start_named first q = go (kind_of first (drop at d)) q
    where
      go : (k : Kind) → Start n h e m t ≡ item_of k d at → NamedAt d (at + 1) n
      go declaration z = absurd (no_other Declaration (λ i y. let w : ◌≡◌ {A = ℕ} 0 1 = cc in omega arith) (declaration_of (drop at d)) z)
      go instruction z = absurd (no_other Instruction (λ i y. let w : ◌≡◌ {A = ℕ} 0 1 = cc in omega arith) (instruction_of (drop at d)) z)
      go comment z = absurd (no_other Comment (λ i y. let w : ◌≡◌ {A = ℕ} 0 1 = cc in omega arith) (comment_of (drop at d)) z)
      go section z = absurd (no_other Section (λ i y. let w : ◌≡◌ {A = ℕ} 0 1 = cc in omega arith) (section_of (drop at d)) z)
      go doctype z = let y : ◌≡◌ {A = ℕ} 0 1 = cc in absurd (omega arith)
      go finish z = absurd (no_finish z)
      go start z = tag_named z
      go reference z = absurd (no_reference (saying_at d at (reference_of (drop at d))) z)
      go text z = absurd (no_other Text (λ i y. let w : ◌≡◌ {A = ℕ} 0 1 = cc in omega arith) (text_of (drop at d)) z)
      go nothing z = let y : ◌≡◌ {A = ℕ} 0 1 = cc in absurd (omega arith)
