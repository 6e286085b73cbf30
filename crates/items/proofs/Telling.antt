-- The kind of an item by its first bytes, one law for each, and what `item` and its parts answer then.
-- A reading becomes an item of its kind, or a broken production.
use mathlib.Core.Path.{◌≡◌, refl, sym, ap, ◌∙◌}
use mathlib.Core.Bool.{Bool, true, false, not, ◌&&◌, and-false}
use mathlib.Core.List.{List, [], ◌∷◌}
use mathlib.Core.Option.{Option as Maybe, none, some}
use Prim.Native.Nat.{ℕ, ◌+◌, ◌-◌, ◌^◌, ◌≤◌, ◌<◌}
use mathlib.Core.Logic.{⊎_elim}
use native.Mathlib.Nat.{eq-or-lt_of_le}
use native.Mathlib.Omega.{arith}
use mir.Syntax.{w64}
use mir.Val.{Fits}
use borrow.Author.Tests.{ne_eqb, not-true, not-false}
use lib.ListN.{length, get_or, drop}
use lib.Seq.{drop-drop}
use Rattle.xml.specs.Notation.{bytes}
use Rattle.xml.specs.Character.{begins, starts}
use Rattle.xml.specs.Productions.{is_space}
use Rattle.xml.proofs.Run.{starts_nil}
use Rattle.utf8.proofs.Place.{drop_step, drop_end}
use Rattle.chars.specs.Name.{reading_at}
use Rattle.std.specs.Prelude.{Option, Some, None}
use Rattle.chars.proofs.Runs.{starts_byte}
use Rattle.chars.proofs.Spaces.{space_ascii}
use Rattle.readers.specs.Plain.{text_of, comment_of, section_of}
use Rattle.readers.specs.Value.{reference_of}
use Rattle.readers.specs.Named.{instruction_of, declaration_of}
use Rattle.readers.proofs.Answers.{text_inside}
use Rattle.tags.specs.Tag.{tag_at, end_tag_at}
use Rattle.references.specs.Say.{saying_at}
use Rattle.tags.specs.declared.Item.{Item}
use Rattle.tags.specs.declared.Item.TheVariants.{Declaration, Instruction, Comment, Section, Reference, Text}
use Rattle.tags.specs.declared.Item.TheVariants.{Doctype, Malformed, Nothing}
use Rattle.items.specs.Item.{Kind, declaration, instruction, comment, section, doctype, finish, start, reference, text, nothing}
use Rattle.items.specs.Item.{declares, kind_of, item_by, reference_item, item_of, item_at}

-- ---- the kinds

module _ (first : Bool) where
  undeclared : (b : Bool) → b ≡ false → first && b ≡ false
  undeclared b e = rw (e, and-false first)

  pub kind_nothing : kind_of first [] ≡ nothing
  unfolding kind_of declares
  kind_nothing = rw (and-false first)

  kind_text : (b : ℕ) (s : List ℕ) → (b ≡ 0x3C → ⊥) → (b ≡ 0x26 → ⊥) → kind_of first (b ∷ s) ≡ text
  unfolding kind_of declares
  kind_text b s n m = rw (ne_eqb b 0x3C n, ne_eqb b 0x26 m, and-false first)

  pub kind_reference : (s : List ℕ) → kind_of first (0x26 ∷ s) ≡ reference
  unfolding kind_of declares
  kind_reference s = rw (and-false first)

  kind_alone : kind_of first (0x3C ∷ []) ≡ start
  unfolding kind_of declares
  kind_alone = rw (and-false first)

  kind_finish : (s : List ℕ) → kind_of first (0x3C ∷ 0x2F ∷ s) ≡ finish
  unfolding kind_of declares
  kind_finish s = rw (and-false first)

  kind_start : (c : ℕ) (s : List ℕ) → (c ≡ 0x2F → ⊥) → (c ≡ 0x3F → ⊥) → (c ≡ 0x21 → ⊥) → kind_of first (0x3C ∷ c ∷ s) ≡ start
  unfolding kind_of declares
  kind_start c s n m l = rw (ne_eqb c 0x2F n, ne_eqb c 0x3F m, ne_eqb c 0x21 l, and-false first)

  module _ (s : List ℕ) where
    kind_declaration : first && declares s ≡ true → kind_of first s ≡ declaration
    unfolding kind_of
    kind_declaration e = rw e

  module _ (s : List ℕ) where
    kind_instruction : first && declares (0x3C ∷ 0x3F ∷ s) ≡ false → kind_of first (0x3C ∷ 0x3F ∷ s) ≡ instruction
    unfolding kind_of
    kind_instruction e = rw e

    kind_comment : begins (bytes "<!--") (0x3C ∷ 0x21 ∷ s) ≡ true → kind_of first (0x3C ∷ 0x21 ∷ s) ≡ comment
    unfolding kind_of declares
    kind_comment e = rw (and-false first, e)

    module _ (n : begins (bytes "<!--") (0x3C ∷ 0x21 ∷ s) ≡ false) where
      kind_section : begins (bytes "<![CDATA[") (0x3C ∷ 0x21 ∷ s) ≡ true → kind_of first (0x3C ∷ 0x21 ∷ s) ≡ section
      unfolding kind_of declares
      kind_section e = rw (and-false first, n, e)

      module _ (m : begins (bytes "<![CDATA[") (0x3C ∷ 0x21 ∷ s) ≡ false) where
        kind_doctype : begins (bytes "<!DOCTYPE") (0x3C ∷ 0x21 ∷ s) ≡ true → kind_of first (0x3C ∷ 0x21 ∷ s) ≡ doctype
        unfolding kind_of declares
        kind_doctype e = rw (and-false first, n, m, e)

        kind_other : begins (bytes "<!DOCTYPE") (0x3C ∷ 0x21 ∷ s) ≡ false → kind_of first (0x3C ∷ 0x21 ∷ s) ≡ start
        unfolding kind_of declares
        kind_other e = rw (and-false first, n, m, e)

-- ---- `is_declaration`

module _ (d : List ℕ) (at : ℕ) (first : Bool) where
  pub declared_late : not first ≡ true → false ≡ first && declares (drop at d)
  declared_late e = sym (rw (not-true first e))

  module _ {b : Bool} (t : b ≡ begins (bytes "<?xml") (drop at d)) where
    pub declared_none : not b ≡ true → false ≡ first && declares (drop at d)
    unfolding declares
    declared_none q = sym (rw (sym t ∙ not-true b q, and-false first))

    module _ (q : not b ≡ false) where
      after : starts is_space (drop 5 (drop at d)) ≡ starts is_space (drop (at + 5) d)
      after = ap (starts is_space) (drop-drop 5 at d)

      pub declared_short : length d - at ≤ 5 → false ≡ first && declares (drop at d)
      unfolding declares
      declared_short l =
          sym (rw (sym t ∙ not-false b q, after, drop_end d (at + 5) (omega arith), starts_nil is_space, and-false first))

      pub declared_place : 5 < length d - at → at + 5 < length d
      declared_place l = omega arith

      pub declared_add : 5 < length d - at → length d < 2 ^ 64 → Fits w64 (at + 5)
      declared_add l h = record { fits = omega arith }

      pub declared_space : not first ≡ false → 5 < length d - at → {x : Bool} → x ≡ is_space (get_or d (at + 5) 0)
          → x ≡ first && declares (drop at d)
      unfolding declares
      declared_space f l e =
          e
          ∙ sym (starts_byte space_ascii d (at + 5) (omega arith))
          ∙ sym after
          ∙ sym (rw (not-false first f, sym t ∙ not-false b q))

pub declared_inside : (d : List ℕ) (at : ℕ) {b : Bool} → b ≡ begins (bytes "<?xml") (drop at d) → not b ≡ false → at ≤ length d
declared_inside d at {b} t q = let z = text_inside d at (bytes "<?xml") t (not-false b q) (omega arith) in omega arith

pub ruleset declaring = (declared_inside, declared_late, declared_none, declared_short, declared_place, declared_add, declared_space)

-- ---- a reading as an item

abbrev item_from : (ℕ → Item) → Option ℕ → Item
item_from f (Some e) = f e
item_from f None = Malformed

module _ (f : ℕ → Item) (d : List ℕ) (at : ℕ) (o : Maybe (List ℕ)) {r : Option ℕ} (e : r ≡ reading_at d at o) where
  from_reading : item_from f r ≡ item_by f d at o
  from_reading = ap (item_from f) e ∙ go o
    where
      go : (o : Maybe (List ℕ)) → item_from f (reading_at d at o) ≡ item_by f d at o
      go none = refl
      go (some t) = refl

  pub by_ends : {i : ℕ} → r ≡ Some i → f i ≡ item_by f d at o
  by_ends q = ap (item_from f) (sym q) ∙ from_reading

  pub by_fault : r ≡ None → Malformed ≡ item_by f d at o
  by_fault q = ap (item_from f) (sym q) ∙ from_reading

-- ---- what stands at the front

module _ (d : List ℕ) (at : ℕ) where
  pub front_one : at < length d → drop at d ≡ get_or d at 0 ∷ drop (at + 1) d
  front_one l = drop_step d at l

  front_two : {b c : ℕ} → at + 1 < length d → get_or d at 0 ≡ b → get_or d (at + 1) 0 ≡ c → drop at d ≡ b ∷ c ∷ drop (at + 1 + 1) d
  front_two l e q =
      drop_step d at (omega arith) ∙ ap (λ (s : List ℕ). get_or d at 0 ∷ s) (drop_step d (at + 1) l)
      ∙ rw (e, q)

-- the item, by its kind
kinded : (first : Bool) (d : List ℕ) (at : ℕ) {s : List ℕ} {k : Kind} → drop at d ≡ s → kind_of first s ≡ k
    → item_of k d at ≡ item_at first d at
unfolding item_at
kinded first d at e q = sym (ap (λ (k : Kind). item_of k d at) (ap (kind_of first) e ∙ q))

-- ---- `queried`

module _ (first : Bool) (d : List ℕ) (at : ℕ) (l : at + 1 < length d) (e : get_or d at 0 ≡ 0x3C) where
  module _ (q : get_or d (at + 1) 0 ≡ 0x3F) {b : Bool} (t : b ≡ first && declares (drop at d)) where
    module _ (y : b ≡ true) {r : Option ℕ} (g : r ≡ reading_at d at (declaration_of (drop at d))) where
      is_declaration : item_by Declaration d at (declaration_of (drop at d)) ≡ item_at first d at
      is_declaration = kinded first d at refl (kind_declaration first (drop at d) (sym t ∙ y))

      pub queried_declared : {i : ℕ} → r ≡ Some i → Declaration i ≡ item_at first d at
      queried_declared h = by_ends Declaration d at (declaration_of (drop at d)) g h ∙ is_declaration

      pub queried_undeclared : r ≡ None → Malformed ≡ item_at first d at
      queried_undeclared h = by_fault Declaration d at (declaration_of (drop at d)) g h ∙ is_declaration

    module _ (y : b ≡ false) {r : Option ℕ} (g : r ≡ reading_at d at (instruction_of (drop at d))) where
      is_instruction : item_by Instruction d at (instruction_of (drop at d)) ≡ item_at first d at
      is_instruction =
          let f = front_two d at l e q in
          kinded first d at f
          (kind_instruction first (drop (at + 1 + 1) d) (ap (λ (s : List ℕ). first && declares s) (sym f) ∙ sym t ∙ y))

      pub queried_instruction : {i : ℕ} → r ≡ Some i → Instruction i ≡ item_at first d at
      queried_instruction h = by_ends Instruction d at (instruction_of (drop at d)) g h ∙ is_instruction

      pub queried_fault : r ≡ None → Malformed ≡ item_at first d at
      queried_fault h = by_fault Instruction d at (instruction_of (drop at d)) g h ∙ is_instruction

  -- ---- `marked`

  module _ (q : get_or d (at + 1) 0 ≡ 0x21) {b : Bool} (t : b ≡ begins (bytes "<!--") (drop at d)) where
    two : drop at d ≡ 0x3C ∷ 0x21 ∷ drop (at + 1 + 1) d
    two = front_two d at l e q

    asked : (w : List ℕ) {c x : Bool} → c ≡ begins w (drop at d) → c ≡ x → begins w (0x3C ∷ 0x21 ∷ drop (at + 1 + 1) d) ≡ x
    asked w g y = ap (begins w) (sym two) ∙ sym g ∙ y

    module _ (y : b ≡ true) {r : Option ℕ} (g : r ≡ reading_at d at (comment_of (drop at d))) where
      is_comment : item_by Comment d at (comment_of (drop at d)) ≡ item_at first d at
      is_comment = kinded first d at two (kind_comment first (drop (at + 1 + 1) d) (asked (bytes "<!--") t y))

      pub marked_comment : {i : ℕ} → r ≡ Some i → Comment i ≡ item_at first d at
      marked_comment h = by_ends Comment d at (comment_of (drop at d)) g h ∙ is_comment

      pub marked_fault : r ≡ None → Malformed ≡ item_at first d at
      marked_fault h = by_fault Comment d at (comment_of (drop at d)) g h ∙ is_comment

    module _ (y : b ≡ false) {c : Bool} (t' : c ≡ begins (bytes "<![CDATA[") (drop at d)) where
      no_comment : begins (bytes "<!--") (0x3C ∷ 0x21 ∷ drop (at + 1 + 1) d) ≡ false
      no_comment = asked (bytes "<!--") t y

      module _ (z : c ≡ true) {r : Option ℕ} (g : r ≡ reading_at d at (section_of (drop at d))) where
        is_section : item_by Section d at (section_of (drop at d)) ≡ item_at first d at
        is_section = kinded first d at two (kind_section first (drop (at + 1 + 1) d) no_comment (asked (bytes "<![CDATA[") t' z))

        pub marked_section : {i : ℕ} → r ≡ Some i → Section i ≡ item_at first d at
        marked_section h = by_ends Section d at (section_of (drop at d)) g h ∙ is_section

        pub marked_open : r ≡ None → Malformed ≡ item_at first d at
        marked_open h = by_fault Section d at (section_of (drop at d)) g h ∙ is_section

      module _ (z : c ≡ false) {k : Bool} (t'' : k ≡ begins (bytes "<!DOCTYPE") (drop at d)) where
        no_section : begins (bytes "<![CDATA[") (0x3C ∷ 0x21 ∷ drop (at + 1 + 1) d) ≡ false
        no_section = asked (bytes "<![CDATA[") t' z

        pub marked_doctype : k ≡ true → Doctype ≡ item_at first d at
        marked_doctype x =
            kinded first d at two (kind_doctype first (drop (at + 1 + 1) d) no_comment no_section (asked (bytes "<!DOCTYPE") t'' x))

        pub marked_other : k ≡ false → {i : Item} → i ≡ tag_at d at → i ≡ item_at first d at
        marked_other x h =
            h ∙ kinded first d at two (kind_other first (drop (at + 1 + 1) d) no_comment no_section (asked (bytes "<!DOCTYPE") t'' x))

pub ruleset querying = (queried_declared, queried_undeclared, queried_instruction, queried_fault)

pub ruleset marking = (marked_comment, marked_fault, marked_section, marked_open, marked_doctype, marked_other)

-- ---- `markup`

module _ (first : Bool) (d : List ℕ) (at : ℕ) (l : at < length d) (e : get_or d at 0 ≡ 0x3C) where
  pub markup_alone : length d - at ≡ 1 → {i : Item} → i ≡ tag_at d at → i ≡ item_at first d at
  markup_alone q h =
      h ∙ kinded first d at
      (front_one d at l ∙ rw (e, drop_end d (at + 1) (omega arith))) (kind_alone first)

  module _ (n : length d - at ≡ 1 → ⊥) where
    pub markup_next : at + 1 < length d
    markup_next =
        let z : 1 ≤ length d - at = omega arith in
        ⊎_elim (λ q. absurd (n (sym q))) (λ q. omega arith) (eq-or-lt_of_le z)

    pub markup_finish : get_or d (at + 1) 0 ≡ 0x2F → {i : Item} → i ≡ end_tag_at d at → i ≡ item_at first d at
    markup_finish q h = h ∙ kinded first d at (front_two d at markup_next e q) (kind_finish first (drop (at + 1 + 1) d))

    pub markup_start : (get_or d (at + 1) 0 ≡ 0x2F → ⊥) → (get_or d (at + 1) 0 ≡ 0x3F → ⊥) → (get_or d (at + 1) 0 ≡ 0x21 → ⊥) → {i : Item}
        → i ≡ tag_at d at → i ≡ item_at first d at
    markup_start x y z h =
        h ∙ kinded first d at (front_two d at markup_next e refl) (kind_start first (get_or d (at + 1) 0) (drop (at + 1 + 1) d) x y z)

    pub markup_add : length d < 2 ^ 64 → Fits w64 (at + 1)
    markup_add h = record { fits = omega arith }

pub ruleset marked_up = (markup_alone, markup_next, markup_finish, markup_start, markup_add)

-- ---- `content` and `item`

module _ (first : Bool) (d : List ℕ) (at : ℕ) (l : at < length d) where
  module _ (e : get_or d at 0 ≡ 0x26) {r : Option (ℕ × ℕ)} (g : r ≡ saying_at d at (reference_of (drop at d))) where
    is_reference : reference_item (saying_at d at (reference_of (drop at d))) ≡ item_at first d at
    is_reference =
        kinded first d at (front_one d at l ∙ ap (λ (b : ℕ). b ∷ drop (at + 1) d) e) (kind_reference first (drop (at + 1) d))

    pub content_reference : {c i : ℕ} → r ≡ Some (c, i) → Reference c i ≡ item_at first d at
    content_reference h = ap reference_item (sym h ∙ g) ∙ is_reference

    pub content_unknown : r ≡ None → Malformed ≡ item_at first d at
    content_unknown h = ap reference_item (sym h ∙ g) ∙ is_reference

  module _ (n : get_or d at 0 ≡ 0x3C → ⊥) (m : get_or d at 0 ≡ 0x26 → ⊥) {r : Option ℕ}
      (g : r ≡ reading_at d at (text_of (drop at d))) where
    is_text_lem : item_by Text d at (text_of (drop at d)) ≡ item_at first d at
    is_text_lem = kinded first d at (front_one d at l) (kind_text first (get_or d at 0) (drop (at + 1) d) n m)

    pub content_text : {i : ℕ} → r ≡ Some i → Text i ≡ item_at first d at
    content_text h = by_ends Text d at (text_of (drop at d)) g h ∙ is_text_lem

    pub content_fault : r ≡ None → Malformed ≡ item_at first d at
    content_fault h = by_fault Text d at (text_of (drop at d)) g h ∙ is_text_lem

pub item_none : (first : Bool) (d : List ℕ) (at : ℕ) → length d ≤ at → Nothing ≡ item_at first d at
item_none first d at l = kinded first d at (drop_end d at l) (kind_nothing first)

pub ruleset contents = (content_reference, content_unknown, content_text, content_fault, item_none)
