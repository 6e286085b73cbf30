-- The items of a document up to a place, and then the end tags of what is open there, are a document. Each item is read again before what
-- is left, from the last one back. In order: the items after the root's start; those before it; the first item.
use mathlib.Core.Path.{◌≡◌, refl, sym, ap, ◌∙◌}
use mathlib.Core.Bool.{Bool, true, false, ◌||◌, false≢true}
use mathlib.Core.List.{List, [], ◌∷◌}
use mathlib.Core.Option.{Option, none, some as just}
use Prim.Native.Nat.{ℕ, ◌+◌, ◌≤◌, ◌<◌}
use native.Mathlib.Omega.{arith}
use lib.ListN.{length, drop}
use Rattle.xml.specs.Productions.{XMLDecl, PI, Comment as CommentRule, CDSect, Reference as ReferenceRule, CharData, S}
use Rattle.xml.specs.Forest.{Name, Forest, other}
use Rattle.xml.specs.Document.{Closes, Item as ItemOf, Small, Document}
use Rattle.xml.specs.Document as doc
use Rattle.xml.specs.Encoding.{Utf8Decl, NamesOther}
use Rattle.xml.proofs.Same.{same_equal}
use Rattle.xml.proofs.Encoding.{declared_utf8}
use Rattle.chars.specs.Name.{reading_at}
use Rattle.readers.specs.Meaning.{Chars, TextIs}
use Rattle.readers.specs.Named.{declaration_of}
use Rattle.readers.specs.Says.{ReadingSays}
use Rattle.readers.proofs.Says.{declaration_says}
use Rattle.readers.proofs.Combine.{chars_left}
use Rattle.readers.proofs.Follow.{ascii}
use Rattle.readers.proofs.Reference.{refers_reads}
use Rattle.tags.specs.Kept.{name_from}
use Rattle.tags.specs.declared.Item.{Item}
use Rattle.tags.specs.declared.Item.TheVariants.{Declaration, Instruction, Comment, Section, Reference, Text, Start, Finish}
use Rattle.tags.specs.declared.Item.TheVariants.{Doctype, Malformed, TooLarge, Nothing}
use Rattle.items.specs.Item.{declares, item_by, item_at}
use Rattle.items.specs.Meaning.{StartIs}
use Rattle.document.specs.Place.{Opened, some, blank, opens, closes, closed, placement, after_item, end_of}
use Rattle.document.specs.Judge.{nothing}
use Rattle.document.specs.declared.Placement.TheVariants.{Fine}
use Rattle.trees.specs.Grown.{part}
use Rattle.trees.proofs.Passes.{over_fine}
use Rattle.mended.proofs.Reaching.{Reaches, here, next}
use Rattle.demands.proofs.Parts.{part_left, part_long, long_some, blank_space}
use Rattle.demands.proofs.Told.{later_kind}
use Rattle.demands.proofs.Tagged.{Started, start_sound, start_chars, finish_sound, finish_chars, item_sound}
use Rattle.demands.proofs.Reread.{opens_shaped, item_reread}
use Rattle.demands.proofs.Sound.{Allowed, fault_fine, formed-true, start_fine, inside_some, after_rooted, text_allowed, Here}
use Rattle.demands.proofs.Sound.{here as here_is}
use Rattle.demands.proofs.First.{first_declares, first_other}
use Rattle.mend.specs.Mended.{end_tags}
use Rattle.mended.proofs.Left.{Left, Named, left_ends, left_instruction, left_comment, left_section, left_reference, left_text}
use Rattle.mended.proofs.Left.{left_empty, left_start, left_finish, Roots, roots_start, roots_empty}
use Rattle.mended.proofs.Held.{Held, held_here, held_as, held_item, held_tag, held_end}

-- ---- the items after the root's start

-- a blank text, as white space
blank_item : (d : List ℕ) (at e : ℕ) → TextIs (drop at d) (drop e d) → at < e → e ≤ length d → blank d at e ≡ true
    → ItemOf S (part d at e) (drop at d) (drop e d)
blank_item d at e y l h u = record { reads = blank_space d at e y l h u; raw_is = part_left d at e (omega arith) }

module _ (d : List ℕ) (at : ℕ) {o : ℕ} {x : List ℕ} where
  start_left : (n h e : ℕ) (m : Bool) (ns : List Name) (b : Bool) → length ns < 64 → some ns ≡ true → Started d at n h e m
      → Held d e o x (Left (opens m (name_from d (at + 1) n) ns) true) → Held d at o x (Left ns b)
  start_left n h e true ns b l q y r =
      held_tag y.opens r (λ u m z t. left_empty z (omega arith, y.short, y.few, y.all) q t)
  start_left n h e false ns b l q y r =
      held_tag y.opens r (λ u m z t. left_start z (omega arith, y.short, y.few, y.all) q t)

  finish_left : (n e : ℕ) (ns : List Name) (b : Bool) → closes (name_from d (at + 2) n) ns ≡ true
      → ((name : Name) → name_from d (at + 2) n ≡ name → Closes name (part d at e) (drop at d) (drop e d))
      → Held d e o x (Left (closed ns) true) → Held d at o x (Left ns b)
  finish_left n e [] b q y r = absurd (false≢true q)
  finish_left n e (name ∷ ns) b q y r = held_end (y name (same_equal (name_from d (at + 2) n) name q)) r (λ m z t. left_finish z t)

start_named : (d : List ℕ) (at n h e : ℕ) (m : Bool) (ns : List Name) → Started d at n h e m → Named ns
    → Named (opens m (name_from d (at + 1) n) ns)
start_named d at n h e true ns y k = k
start_named d at n h e false ns y k = ((opens_shaped y.opens).named, k)

closed_named : (ns : List Name) → Named ns → Named (closed ns)
closed_named [] k = tt
closed_named (n ∷ ns) k = k.1

item_left : (d : List ℕ) (at : ℕ) (i : Item) (s : Opened) (b : Bool) {o : ℕ} {x : List ℕ} → s.rooted ≡ true → Named s.names
    → Allowed b (drop at d) → Here d at i → placement d at i s ≡ Fine
    → ((b' : Bool) → Chars (drop (end_of at i) d) → Allowed b' (drop (end_of at i) d) → Named (after_item d at i s).names
    → Held d (end_of at i) o x (Left (after_item d at i s).names b'))
    → Held d at o x (Left s.names b)
item_left d at (Declaration e) s b q k a h p on = absurd (later_kind (drop at d) h.says.0)
item_left d at (Instruction e) s b q k a h p on =
    let y = h.says.1 in
    held_item (item_sound d at PI y)
    (on true (chars_left PI (ascii PI refl) (drop at d) (drop e d) h.chars y.0) tt k) (λ m z t. left_instruction z t)
item_left d at (Comment e) s b q k a h p on =
    let y = h.says.1 in
    held_item (item_sound d at CommentRule y)
    (on true (chars_left CommentRule (ascii CommentRule refl) (drop at d) (drop e d) h.chars y.0) tt k)
    (λ m z t. left_comment z t)
item_left d at (Section e) s b q k a h p on =
    let y = h.says.1 in
    held_item (item_sound d at CDSect y)
    (on true (chars_left CDSect (ascii CDSect refl) (drop at d) (drop e d) h.chars y.0) tt k)
    (λ m z t. left_section z (formed-true (some s.names) p) t)
item_left d at (Reference c e) s b q k a h p on =
    let (w, (y, l, i)) = h.says in
    let z = refers_reads y in
    held_item (item_sound d at ReferenceRule {e = e} (z, l, i))
    (on true (chars_left ReferenceRule (ascii ReferenceRule refl) (drop at d) (drop e d) h.chars z) tt k)
    (λ m z t. left_reference z (formed-true (some s.names) p) t)
item_left d at (Text e) s b q k a h p on =
    let (w, (y, l, i)) = h.says in
    let g : at < e = h.inside.0 in
    let f = on false (chars_left CharData (ascii CharData refl) (drop at d) (drop e d) h.chars y.reads) y.stops k in
    let j : ItemOf CharData (part d at e) (drop at d) (drop e d) = record { reads = y.reads; raw_is = part_left d at e l } in
    rw (text_allowed d at b w a)
    (held_item j f (λ m z t.
    left_text {x = blank d at e} (long_some (part d at e) (part_long d at e g i)) z
    (λ u. item_reread (blank_item d at e y g i u) m) (formed-true (some s.names || blank d at e) p) t))
item_left d at (Start n h e m t) s b {o = o} {x = x} q k a r p on = started t (start_fine t s p).1 r.says.1 on
  where
    started : (t : Bool) → t ≡ false → StartIs d at n h e m t
        → ((b' : Bool) → Chars (drop e d) → Allowed b' (drop e d) → Named (opens m (name_from d (at + 1) n) s.names)
        → Held d e o x (Left (opens m (name_from d (at + 1) n) s.names) b'))
        → Held d at o x (Left s.names b)
    started true u y on = absurd (false≢true (sym u))
    started false u y on =
        let (l, v, z) = start_fine t s p in
        let (w, c, i) = r.inside in
        let g = start_sound d at y (omega arith) c i in
        start_left d at n h e m s.names b l (inside_some s.names q z) g
        (on true (start_chars d at y r.chars) tt (start_named d at n h e m s.names g k))
item_left d at (Finish n e) s b q k a h p on =
    let y = h.says.1 in
    let (l, i) = h.inside in
    finish_left d at n e s.names b (formed-true (closes (name_from d (at + 2) n) s.names) p)
    (λ name z. finish_sound d at name y z (omega arith))
    (on true (finish_chars d at y h.chars) tt (closed_named s.names k))
item_left d at Doctype s b q k a h p on = fault_fine _ p
item_left d at Malformed s b q k a h p on = fault_fine _ p
item_left d at TooLarge s b q k a h p on = fault_fine _ p
item_left d at Nothing s b q k a h p on = over_fine s p

-- what is reached with a root: the rest of it, and the end tags of what is open then
pub reaches_left : (d : List ℕ) {at o : ℕ} {s t : Opened} {last : Bool} → Reaches d at false s o last t → (b : Bool) → s.rooted ≡ true
    → Named s.names → Chars (drop at d) → Allowed b (drop at d) → Held d at o (end_tags t.names) (Left s.names b)
reaches_left d (here {s = s}) b q k c a = held_here (left_ends s.names k b)
reaches_left d (next {at = at} {s = s} p r) b q k c a =
    let i = item_at false d at in
    item_left d at i s b q k a (here_is d at c) p
    (λ b' c' a' k'. reaches_left d r b' (after_rooted d at i s q) k' c' a')

-- ---- the items before the root's start

start_roots : (d : List ℕ) (at n h e : ℕ) (m : Bool) (b : Bool) {o : ℕ} {x : List ℕ} → Started d at n h e m
    → Held d e o x (Left (opens m (name_from d (at + 1) n) []) true) → Held d at o x (Roots b)
start_roots d at n h e true b y r =
    held_tag y.opens r (λ u m z t. roots_empty z (omega arith, y.short, y.few, y.all) t)
start_roots d at n h e false b y r =
    held_tag y.opens r (λ u m z t. roots_start z (omega arith, y.short, y.few, y.all) t)

item_roots : (d : List ℕ) (at : ℕ) (i : Item) (b : Bool) {o : ℕ} {x : List ℕ} → Allowed b (drop at d) → Here d at i
    → placement d at i nothing ≡ Fine
    → (after_item d at i nothing ≡ nothing → (b' : Bool) → Chars (drop (end_of at i) d) → Allowed b' (drop (end_of at i) d)
    → Held d (end_of at i) o x (Roots b'))
    → ((after_item d at i nothing).rooted ≡ true → Chars (drop (end_of at i) d) → Named (after_item d at i nothing).names
    → Held d (end_of at i) o x (Left (after_item d at i nothing).names true))
    → Held d at o x (Roots b)
item_roots d at (Declaration e) b a h p on root = absurd (later_kind (drop at d) h.says.0)
item_roots d at (Instruction e) b a h p on root =
    let y = h.says.1 in
    held_item (item_sound d at PI y) (on refl true (chars_left PI (ascii PI refl) (drop at d) (drop e d) h.chars y.0) tt)
    (λ m z (f, t). (other _ f, doc.instruction_before z t))
item_roots d at (Comment e) b a h p on root =
    let y = h.says.1 in
    held_item (item_sound d at CommentRule y)
    (on refl true (chars_left CommentRule (ascii CommentRule refl) (drop at d) (drop e d) h.chars y.0) tt)
    (λ m z (f, t). (other _ f, doc.comment_before z t))
item_roots d at (Section e) b a h p on root = fault_fine _ p
item_roots d at (Reference c e) b a h p on root = fault_fine _ p
item_roots d at (Text e) b a h p on root =
    let (w, (y, l, i)) = h.says in
    let g : at < e = h.inside.0 in
    rw (text_allowed d at b w a)
    (held_item (blank_item d at e y g i (formed-true (blank d at e) p))
    (on refl false (chars_left CharData (ascii CharData refl) (drop at d) (drop e d) h.chars y.reads) y.stops)
    (λ m z (f, t). (other _ f, doc.space_before z t)))
item_roots d at (Start n h e m true) b a r p on root = fault_fine _ p
item_roots d at (Start n h e m false) b a r p on root =
    let y = r.says.1 in
    let (w, c, i) = r.inside in
    let g = start_sound d at y (omega arith) c i in
    start_roots d at n h e m b g (root refl (start_chars d at y r.chars) (start_named d at n h e m [] g tt))
item_roots d at (Finish n e) b a h p on root = fault_fine _ p
item_roots d at Doctype b a h p on root = fault_fine _ p
item_roots d at Malformed b a h p on root = fault_fine _ p
item_roots d at TooLarge b a h p on root = fault_fine _ p
item_roots d at Nothing b a h p on root = fault_fine _ p

-- a root is reached from where none is
reaches_roots : (d : List ℕ) {at o : ℕ} {s t : Opened} {last : Bool} → Reaches d at false s o last t → s ≡ nothing → (b : Bool)
    → t.rooted ≡ true → Chars (drop at d) → Allowed b (drop at d) → Held d at o (end_tags t.names) (Roots b)
reaches_roots d (here {s = s}) z b q c a = absurd (false≢true (ap (λ (s : Opened). s.rooted) (sym z) ∙ q))
reaches_roots d (next {at = at} {s = s} p r) z b q c a =
    let i = item_at false d at in
    item_roots d at i b a (here_is d at c) (rw z at p)
    (λ g b' c' a'. reaches_roots d r (ap (after_item d at i) z ∙ g) b' q c' a')
    (λ g c' k. rw (ap (λ (s : Opened). (after_item d at i s).names) z) at (reaches_left d r true (rw z g) (rw z k) c' tt))

-- ---- the first item

abbrev pub Derived : List ℕ → Type 0
Derived s = (f : Forest) × Document Small s f

module _ (d : List ℕ) (at : ℕ) {o : ℕ} {t : Opened} {last : Bool} (q : t.rooted ≡ true) (l : at ≤ length d) (c : Chars (drop at d))
    (n : NamesOther (drop at d) → ⊥) where
  declared_derived : (r : Option (List ℕ)) → ReadingSays XMLDecl d at (reading_at d at r)
      → placement d at (item_by Declaration d at r) nothing ≡ Fine
      → Reaches d (end_of at (item_by Declaration d at r)) false (after_item d at (item_by Declaration d at r) nothing) o last t
      → Held d at o (end_tags t.names) Derived
  declared_derived none x p h = fault_fine _ p
  declared_derived (just m) x p h =
      let i = item_sound d at XMLDecl x in
      held_item {r = Utf8Decl} {raw = part d at (end_of at (item_by Declaration d at (just m)))}
      (record { reads = declared_utf8 (drop at d) _ i.reads n; raw_is = i.raw_is })
      (reaches_roots d h refl true q (chars_left XMLDecl (ascii XMLDecl refl) (drop at d) _ c x.0) tt)
      (λ m z (f, y). (other _ f, doc.declared z y))

  -- the item at a place is fine, and the rest is reached from its end
  first_derived : placement d at (item_at true d at) nothing ≡ Fine
      → Reaches d (end_of at (item_at true d at)) false (after_item d at (item_at true d at) nothing) o last t
      → Held d at o (end_tags t.names) Derived
  first_derived p h = go (declares (drop at d)) refl
    where
      go : (b : Bool) → declares (drop at d) ≡ b → Held d at o (end_tags t.names) Derived
      go true e =
          let z = first_declares (length d) d at l c e in
          declared_derived (declaration_of (drop at d)) (declaration_says d at c l) (rw z at p) (rw z at h)
      go false e =
          let z = first_other (length d) d at l c e in
          held_as (reaches_roots d (next (rw z at p) (rw z at h)) refl true q c tt) (λ s (f, y). (f, doc.bare y))

pub reaches_derived : (d : List ℕ) {at o : ℕ} {s t : Opened} {last : Bool} → Reaches d at true s o last t → s ≡ nothing
    → t.rooted ≡ true → at ≤ length d → Chars (drop at d) → (NamesOther (drop at d) → ⊥) → Held d at o (end_tags t.names) Derived
reaches_derived d (here {s = s}) z q l c n = absurd (false≢true (ap (λ (s : Opened). s.rooted) (sym z) ∙ q))
reaches_derived d (next {at = at} p r) z q l c n = first_derived d at q l c n (rw z at p) (rw z at r)
