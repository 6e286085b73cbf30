-- Fields and records by computing are those of specs/Table.antt, and no others are. In order: a field; the first field; a record; the
-- records of a forest, of which there are some for everything that content derives.
use mathlib.Core.Path.{◌≡◌, refl, sym, ap, ◌∙◌}
use mathlib.Core.Bool.{Bool, true, false, cond, ◌||◌, false≢true}
use mathlib.Core.List.{List, [], ◌∷◌, ◌++◌, append_assoc, append-nil}
use mathlib.Core.Logic.{◌⊎◌, inl, inr}
use Prim.Native.Nat.{ℕ}
use borrow.Author.Tests.{eqb-true, eqb-false, ne_eqb}
use lib.Dec.{eqb}
use Rattle.xml.specs.Notation.{bytes}
use Rattle.xml.specs.Forest.{Name, Tag, Forest, nil, other, elem}
use Rattle.xml.specs.Document as doc
use Rattle.xml.specs.Document.{Content, After, Rooted, Document}
use Rattle.xml.proofs.Bools.{or_either, or_left, or_right}
use Rattle.attributes.specs.Held.{attributes_of}
use Rattle.paths.specs.Path.{Path}
use Rattle.matcher.specs.Says.{Some, this, later, verdict_of}
use Rattle.matcher.specs.declared.Verdict.{Verdict}
use Rattle.matcher.specs.declared.Verdict.TheVariants.{Unselected, Selected, Marked}
use Rattle.trees.specs.Cut.{is_selected}
use Rattle.trees.specs.Written.{root_first, verdicts}
use Rattle.demands.specs.Rule.{names_of}
use Rattle.demands.proofs.Selected.{selected_iff}
use Rattle.rows.specs.Field.{is_special, special, doubled, field, path_of, record_of}
use Rattle.rows.specs.Text.{text_in}
use Rattle.rows.specs.Table.{record_by, records}
use Rattle.tables.specs.Said.{TextSays}
use Rattle.tables.specs.Said as told
use Rattle.tables.specs.Table.{Special, comma, quote, cr, lf, Doubled, twice, once, FieldSays, plain, quoted, joined, RecordSays}
use Rattle.tables.specs.Table.{RowsSay}
use Rattle.tables.specs.Table as row
use Rattle.tables.proofs.Said.{content_says, text_only}

-- ---- a field

byte_special : (b : ℕ) → is_special b ≡ true → Special b
byte_special b e = go (eqb b 0x2C) (eqb b 0x22) (eqb b 0xD) (eqb b 0xA) refl refl refl refl e
  where
    go : (x y z w : Bool) → eqb b 0x2C ≡ x → eqb b 0x22 ≡ y → eqb b 0xD ≡ z → eqb b 0xA ≡ w → ((x || y) || z) || w ≡ true → Special b
    go true y z w p q r s h = rw (eqb-true b 0x2C p) comma
    go false true z w p q r s h = rw (eqb-true b 0x22 q) quote
    go false false true w p q r s h = rw (eqb-true b 0xD r) cr
    go false false false true p q r s h = rw (eqb-true b 0xA s) lf
    go false false false false p q r s h = absurd (false≢true h)

special_byte : {b : ℕ} → Special b → is_special b ≡ true
special_byte comma = refl
special_byte quote = refl
special_byte cr = refl
special_byte lf = refl

special_some : (s : List ℕ) → special s ≡ true → Some Special s
special_some [] e = absurd (false≢true e)
special_some (b ∷ s) e = go (or_either (is_special b) (special s) e) (special_some s)
  where
    go : (is_special b ≡ true) ⊎ (special s ≡ true) → (special s ≡ true → Some Special s) → Some Special (b ∷ s)
    go (inl h) k = this (byte_special b h)
    go (inr h) k = later (k h)

some_special : {s : List ℕ} → Some Special s → special s ≡ true
some_special (this {x = b} {xs = s} h) = or_left (is_special b) (special s) (special_byte h)
some_special (later {x = b} {xs = s} h) = or_right (is_special b) (special s) (some_special h)

doubled_says : (s : List ℕ) → Doubled s (doubled s)
doubled_says [] = row.over
doubled_says (b ∷ s) = go (eqb b 0x22) refl (doubled_says s)
  where
    go : (x : Bool) → eqb b 0x22 ≡ x → Doubled s (doubled s) → Doubled (b ∷ s) (cond x (0x22 ∷ 0x22 ∷ doubled s) (b ∷ doubled s))
    go true e d = rw (eqb-true b 0x22 e) (twice d)
    go false e d = once (eqb-false b 0x22 e) d

doubled_only : {s w : List ℕ} → Doubled s w → doubled s ≡ w
doubled_only row.over = refl
doubled_only (twice d) = ap (λ (w : List ℕ). 0x22 ∷ 0x22 ∷ w) (doubled_only d)
doubled_only (once {b} n d) = rw (ne_eqb b 0x22 n) (ap (λ (w : List ℕ). b ∷ w) (doubled_only d))

pub field_says : (s : List ℕ) → FieldSays s (field s)
unfolding field
field_says s = go (special s) refl
  where
    go : (x : Bool) → special s ≡ x → FieldSays s (field s)
    go true e = rw e (quoted (special_some s e) (doubled_says s))
    go false e = rw (e, append-nil s) (plain (λ h. false≢true (sym e ∙ some_special h)))

pub field_only : {s w : List ℕ} → FieldSays s w → field s ≡ w
unfolding field
field_only {s} (plain n) = go (special s) refl
  where
    go : (x : Bool) → special s ≡ x → field s ≡ s
    go true e = absurd (n (special_some s e))
    go false e = rw e (append-nil s)
field_only {s} (quoted h d) = rw (some_special h, doubled_only d)

-- ---- the first field

joined_more : (m : Name) (ns : List Name) (n : Name) → joined (m ∷ ns ++ n ∷ []) ≡ joined (m ∷ ns) ++ (0x2F ∷ n)
joined_more m [] n = append_assoc m (bytes "/") n
joined_more m (k ∷ ks) n =
    ap (λ (x : List ℕ). (m ++ bytes "/") ++ x) (joined_more k ks n) ∙ sym (append_assoc (m ++ bytes "/") (joined (k ∷ ks)) (0x2F ∷ n))

joined_last : (ns : List Name) (m n : Name) → joined ((ns ++ m ∷ []) ++ n ∷ []) ≡ joined (ns ++ m ∷ []) ++ (0x2F ∷ n)
joined_last [] m n = joined_more m [] n
joined_last (k ∷ ks) m n = joined_more k (ks ++ m ∷ []) n

pub path_joined : (up : List Name) → path_of up ≡ joined (root_first up)
path_joined [] = refl
path_joined (n ∷ []) = refl
path_joined (n ∷ m ∷ up) = ap (λ (x : List ℕ). x ++ (0x2F ∷ n)) (path_joined (m ∷ up)) ∙ sym (joined_last (root_first up) m n)

-- ---- a record

parts : (v w : List ℕ) → (v ++ (0x2C ∷ w)) ++ (0xD ∷ 0xA ∷ []) ≡ v ++ bytes "," ++ w ++ bytes "\r\n"
parts v w = ap (λ (x : List ℕ). x ++ (0xD ∷ 0xA ∷ [])) (sym (append_assoc v (bytes ",") w))

pub record_says : (names : List Name) (kids : Forest) → (s : List ℕ) × TextSays kids s → (w : List ℕ) × RecordSays names kids w
record_says names kids (s, x) = (_, row.record_of (field_says (joined names)) x (field_says s))

record_only : (up : List Name) {kids : Forest} {above : List Name} {w : List ℕ} → above ≡ root_first up → RecordSays above kids w
    → record_of up (text_in kids) ≡ w
unfolding record_of
record_only up e (row.record_of {s = s} {v = v} {w = w} a x b) =
    rw (path_joined up, ← e, field_only a, text_only x, field_only b) (parts v w)

-- ---- the records of a forest

record_by_lem : (v : Verdict) (up : List Name) (s : List ℕ) → record_by v up s ≡ cond (is_selected v) (record_of up s) []
record_by_lem Unselected up s = refl
record_by_lem Selected up s = refl
record_by_lem Marked up s = refl

module _ (ps : List Path) where
  -- one and no other
  pub rows_only : (up : List Name) (f : Forest) {above : List Name} {w : List ℕ} → above ≡ root_first up → RowsSay ps above f w
      → records (verdicts ps) up f ≡ w
  unfolding verdicts
  rows_only up nil e row.over = refl
  rows_only up (other raw rest) e (row.aside x) = rows_only up rest e x
  rows_only up (elem t kids close rest) e (row.selected {u = u} {v = v} {w = w} h r x y) =
      let names = root_first up ++ t.name ∷ [] in
      let q : is_selected (verdict_of ps names (attributes_of t)) ≡ true = (selected_iff ps names (attributes_of t)).0 (rw e at h) in
      let z = ap (λ (l : List Name). l ++ t.name ∷ []) e in
      rw (
        record_by_lem (verdict_of ps names (attributes_of t)) (t.name ∷ up) (text_in kids),
        q,
        record_only (t.name ∷ up) z r,
        rows_only (t.name ∷ up) kids z x,
        rows_only up rest e y,
      )
      (sym (append_assoc u v w))
  rows_only up (elem t kids close rest) e (row.unselected {v = v} {w = w} h x y) =
      let names = root_first up ++ t.name ∷ [] in
      let q : is_selected (verdict_of ps names (attributes_of t)) ≡ false = no (is_selected (verdict_of ps names (attributes_of t))) refl in
      let z = ap (λ (l : List Name). l ++ t.name ∷ []) e in
      rw (
        record_by_lem (verdict_of ps names (attributes_of t)) (t.name ∷ up) (text_in kids),
        q,
        rows_only (t.name ∷ up) kids z x,
        rows_only up rest e y,
      )
    where
      no : (b : Bool) → is_selected (verdict_of ps (root_first up ++ t.name ∷ []) (attributes_of t)) ≡ b → b ≡ false
      no true q = absurd (h (rw (← e) at ((selected_iff ps (root_first up ++ t.name ∷ []) (attributes_of t)).1 q)))
      no false q = refl

  element_rows : (above : List Name) (t : Tag) {kids rest : Forest} {close : List ℕ} → (s : List ℕ) × TextSays kids s
      → (v : List ℕ) × RowsSay ps (names_of above t) kids v → (w : List ℕ) × RowsSay ps above rest w
      → (w : List ℕ) × RowsSay ps above (elem t kids close rest) w
  element_rows above t {kids} {rest} {close} s (v, x) (w, y) =
      go (is_selected (verdict_of ps (names_of above t) (attributes_of t))) refl
    where
      go : (b : Bool) → is_selected (verdict_of ps (names_of above t) (attributes_of t)) ≡ b
          → (w : List ℕ) × RowsSay ps above (elem t kids close rest) w
      go true q =
          let (u, r) = record_says (names_of above t) kids s in
          (u ++ v ++ w, row.selected ((selected_iff ps (names_of above t) (attributes_of t)).1 q) r x y)
      go false q =
          (v ++ w, row.unselected (λ h. false≢true (sym q ∙ (selected_iff ps (names_of above t) (attributes_of t)).0 h)) x y)

  aside_rows : {above : List Name} {raw : List ℕ} {rest : Forest} → (w : List ℕ) × RowsSay ps above rest w
      → (w : List ℕ) × RowsSay ps above (other raw rest) w
  aside_rows (w, x) = (w, row.aside x)

  module _ {Fits : ℕ → Name → List Name → Type 0} where
    content_rows : {k : ℕ} {chars : Bool} {s t : List ℕ} {f : Forest} → Content Fits k chars s t f → (above : List Name)
        → (w : List ℕ) × RowsSay ps above f w
    content_rows doc.end above = ([], row.over)
    content_rows (doc.data_next n i r) above = aside_rows (content_rows r above)
    content_rows (doc.reference_next i r) above = aside_rows (content_rows r above)
    content_rows (doc.section_next i r) above = aside_rows (content_rows r above)
    content_rows (doc.instruction_next i r) above = aside_rows (content_rows r above)
    content_rows (doc.comment_next i r) above = aside_rows (content_rows r above)
    content_rows (doc.empty_next {v = t} o h r) above = element_rows above t ([], told.over) ([], row.over) (content_rows r above)
    content_rows (doc.element_next {v = t} o h i x r) above =
        element_rows above t (content_says i) (content_rows i (names_of above t)) (content_rows r above)

    after_rows : {space : Bool} {s : List ℕ} {f : Forest} → After Fits space s f → (w : List ℕ) × RowsSay ps [] f w
    after_rows doc.over = ([], row.over)
    after_rows (doc.space_after i r) = aside_rows (after_rows r)
    after_rows (doc.instruction_after i r) = aside_rows (after_rows r)
    after_rows (doc.comment_after i r) = aside_rows (after_rows r)

    rooted_rows : {space : Bool} {s : List ℕ} {f : Forest} → Rooted Fits space s f → (w : List ℕ) × RowsSay ps [] f w
    rooted_rows (doc.space_before i r) = aside_rows (rooted_rows r)
    rooted_rows (doc.instruction_before i r) = aside_rows (rooted_rows r)
    rooted_rows (doc.comment_before i r) = aside_rows (rooted_rows r)
    rooted_rows (doc.empty_root {v = t} o h a) = element_rows [] t ([], told.over) ([], row.over) (after_rows a)
    rooted_rows (doc.root {v = t} o h i x a) =
        element_rows [] t (content_says i) (content_rows i (names_of [] t)) (after_rows a)

    pub document_rows : {s : List ℕ} {f : Forest} → Document Fits s f → (w : List ℕ) × RowsSay ps [] f w
    document_rows (doc.declared i r) = aside_rows (rooted_rows r)
    document_rows (doc.bare r) = rooted_rows r
