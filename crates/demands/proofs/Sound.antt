-- Soundness: where the scan passes, the grammar derives what is left. `Rest ns b s f xs`: with the names ns open, innermost first, s is
-- content with the forest f, an end tag of the first name, and then the same for the names outside it, whose end tags and forests are xs;
-- with no name open it is what stands after the root. `b` tells whether text may come first. In order: an item before such a rest, one
-- lemma for each kind; the scan after the root's start; the scan before it; the document.
use mathlib.Core.Path.{◌≡◌, refl, sym}
use mathlib.Core.Bool.{Bool, true, false, cond, not, ◌&&◌, ◌||◌, false≢true}
use mathlib.Core.List.{List, [], ◌∷◌}
use mathlib.Core.Logic.{inl, inr}
use Prim.Native.Nat.{ℕ, zero, suc, ◌+◌, ◌<◌}
use native.Mathlib.Omega.{arith}
use borrow.Author.Tests.{leb-false}
use lib.Dec.{leb}
use lib.ListN.{length, drop}
use Rattle.xml.specs.Notation.{Reads, text}
use Rattle.xml.specs.Productions.{PI, Comment as CommentRule, CDSect, Reference as ReferenceRule, CharData, S}
use Rattle.xml.specs.Forest.{Name, Tag, Forest, nil, other, elem}
use Rattle.xml.specs.Document.{Opens, Closes, Item as ItemOf, Some, Small, Content, After, Rooted}
use Rattle.xml.specs.Document as doc
use Rattle.xml.proofs.Same.{same_equal}
use Rattle.readers.specs.Meaning.{Chars}
use Rattle.readers.proofs.Combine.{chars_left}
use Rattle.readers.proofs.Follow.{ascii}
use Rattle.readers.proofs.Reference.{refers_reads}
use Rattle.tags.specs.Kept.{name_from}
use Rattle.tags.specs.declared.Item.{Item}
use Rattle.tags.specs.declared.Item.TheVariants.{Declaration, Instruction, Comment, Section, Reference, Text, Start, Finish}
use Rattle.tags.specs.declared.Item.TheVariants.{Doctype, Malformed, TooLarge, Nothing}
use Rattle.items.specs.Item.{kind_of, item_at}
use Rattle.items.specs.Item as kinds
use Rattle.items.specs.Inside.{Inside}
use Rattle.items.specs.Meaning.{KindSays, StartIs}
use Rattle.items.proofs.Insides.{item_inside}
use Rattle.items.proofs.Meaning.{item_says}
use Rattle.document.specs.Place.{Opened, some, formed, blank, closes, closed, start_placement, placement, after_item, end_of}
use Rattle.document.specs.Judge.{nothing}
use Rattle.document.specs.declared.Placement.TheVariants.{Fine, Fault, Over}
use Rattle.document.specs.declared.Why.{Why}
use Rattle.trees.specs.Grown.{Token, part, item_tokens, tokens_from, rooted, grown}
use Rattle.trees.proofs.Passes.{Passes, over_fine, over_nothing, over_closed}
use Rattle.trees.proofs.Over.{nothing_left}
use Rattle.demands.proofs.Parts.{Stops, part_left, part_long, long_some, blank_space}
use Rattle.demands.proofs.Told.{later_kind, stops_kind}
use Rattle.demands.proofs.Tagged.{Started, start_sound, start_chars, finish_sound, finish_chars, item_sound}

-- ---- what is left, by the names that are open

pub data Rest : List Name → Bool → List ℕ → Forest → List (List ℕ × Forest) → Type 0 where
  outer : {b : Bool} {s : List ℕ} {f : Forest} → After Small b s f → Rest [] b s f []
  inner : {n : Name} {ns : List Name} {b : Bool} {raw s t u : List ℕ} {f g : Forest} {xs : List (List ℕ × Forest)}
      → Content Small (suc (length ns)) b s t f → Closes n raw t u → Rest ns true u g xs → Rest (n ∷ ns) b s f ((raw, g) ∷ xs)

-- before the root
pub data Begun : Bool → List ℕ → Forest → List (List ℕ × Forest) → Type 0 where
  begun : {b : Bool} {s : List ℕ} {f : Forest} → Rooted Small b s f → Begun b s f []

-- where text may not come first, text does not
abbrev pub Allowed : Bool → List ℕ → Type 0
Allowed true s = Unit {0}
Allowed false s = Stops s

-- ---- placements

pub fault_fine : {A : Type 0} (why : Why) → Fault why ≡ Fine → A
fault_fine why e = absurd (false≢true cc)

pub formed-true : (b : Bool) → formed b ≡ Fine → b ≡ true
formed-true true e = refl
formed-true false e = fault_fine _ e

pub start_fine : (twice : Bool) (s : Opened) → start_placement twice s ≡ Fine
    → (length s.names < 64) × (twice ≡ false) × ((s.rooted && not (some s.names)) ≡ false)
start_fine twice s = go (leb 64 (length s.names)) refl twice (s.rooted && not (some s.names)) _
  where
    go : (b : Bool) → leb 64 (length s.names) ≡ b → (t c : Bool) (w : Why) → cond b (Fault w) (formed (not (t || c))) ≡ Fine
        → (length s.names < 64) × (t ≡ false) × (c ≡ false)
    go true q t c w e = fault_fine _ e
    go false q true c w e = fault_fine _ e
    go false q false true w e = fault_fine _ e
    go false q false false w e = (leb-false 64 (length s.names) q, refl, refl)

-- ---- an item before the rest

rest_instruction : {ns : List Name} {b : Bool} {raw s m : List ℕ} {f : Forest} {xs : List (List ℕ × Forest)}
    → ItemOf PI raw s m → Rest ns true m f xs → Rest ns b s (other raw f) xs
rest_instruction i (outer a) = outer (doc.instruction_after i a)
rest_instruction i (inner c z r) = inner (doc.instruction_next i c) z r

rest_comment : {ns : List Name} {b : Bool} {raw s m : List ℕ} {f : Forest} {xs : List (List ℕ × Forest)}
    → ItemOf CommentRule raw s m → Rest ns true m f xs → Rest ns b s (other raw f) xs
rest_comment i (outer a) = outer (doc.comment_after i a)
rest_comment i (inner c z r) = inner (doc.comment_next i c) z r

rest_section : {ns : List Name} {b : Bool} {raw s m : List ℕ} {f : Forest} {xs : List (List ℕ × Forest)}
    → ItemOf CDSect raw s m → some ns ≡ true → Rest ns true m f xs → Rest ns b s (other raw f) xs
rest_section i q (outer a) = absurd (false≢true q)
rest_section i q (inner c z r) = inner (doc.section_next i c) z r

rest_reference : {ns : List Name} {b : Bool} {raw s m : List ℕ} {f : Forest} {xs : List (List ℕ × Forest)}
    → ItemOf ReferenceRule raw s m → some ns ≡ true → Rest ns true m f xs → Rest ns b s (other raw f) xs
rest_reference i q (outer a) = absurd (false≢true q)
rest_reference i q (inner c z r) = inner (doc.reference_next i c) z r

rest_text : {ns : List Name} {x : Bool} {raw s m : List ℕ} {f : Forest} {xs : List (List ℕ × Forest)} → Some raw → ItemOf CharData raw s m
    → (x ≡ true → Reads S s m) → some ns || x ≡ true → Rest ns false m f xs → Rest ns true s (other raw f) xs
rest_text n i w q (outer a) = outer (doc.space_after (record { reads = w q; raw_is = i.raw_is }) a)
rest_text n i w q (inner c z r) = inner (doc.data_next n i c) z r

rest_empty : {ns : List Name} {b : Bool} {v : Tag} {ns' : List Name} {s m : List ℕ} {f : Forest} {xs : List (List ℕ × Forest)}
    → Opens (text "/>") v ns' s m → Small (suc (length ns)) v.name ns' → some ns ≡ true → Rest ns true m f xs
    → Rest ns b s (elem v nil [] f) xs
rest_empty o k q (outer a) = absurd (false≢true q)
rest_empty o k q (inner c z r) = inner (doc.empty_next o k c) z r

rest_start : {ns : List Name} {b : Bool} {v : Tag} {ns' : List Name} {s m : List ℕ} {f : Forest} {xs : List (List ℕ × Forest)}
    → Opens (text ">") v ns' s m → Small (suc (length ns)) v.name ns' → some ns ≡ true → Rest (v.name ∷ ns) true m f xs
    → Rest ns b s (rooted v f xs).front (rooted v f xs).after
rest_start o k q (inner c z (outer a)) = absurd (false≢true q)
rest_start o k q (inner c z (inner c' z' r)) = inner (doc.element_next o k c z c') z' r

begun_instruction : {b : Bool} {raw s m : List ℕ} {f : Forest} {xs : List (List ℕ × Forest)} → ItemOf PI raw s m → Begun true m f xs
    → Begun b s (other raw f) xs
begun_instruction i (begun r) = begun (doc.instruction_before i r)

begun_comment : {b : Bool} {raw s m : List ℕ} {f : Forest} {xs : List (List ℕ × Forest)} → ItemOf CommentRule raw s m → Begun true m f xs
    → Begun b s (other raw f) xs
begun_comment i (begun r) = begun (doc.comment_before i r)

begun_space : {raw s m : List ℕ} {f : Forest} {xs : List (List ℕ × Forest)} → ItemOf S raw s m → Begun false m f xs
    → Begun true s (other raw f) xs
begun_space i (begun r) = begun (doc.space_before i r)

begun_start : {b : Bool} {v : Tag} {ns' : List Name} {s m : List ℕ} {f : Forest} {xs : List (List ℕ × Forest)}
    → Opens (text ">") v ns' s m → Small 1 v.name ns' → Rest (v.name ∷ []) true m f xs
    → Begun b s (rooted v f xs).front (rooted v f xs).after
begun_start o k (inner c z (outer a)) = begun (doc.root o k c z a)

begun_empty : {b : Bool} {v : Tag} {ns' : List Name} {s m : List ℕ} {f : Forest} {xs : List (List ℕ × Forest)}
    → Opens (text "/>") v ns' s m → Small 1 v.name ns' → Rest [] true m f xs → Begun b s (elem v nil [] f) xs
begun_empty o k (outer a) = begun (doc.empty_root o k a)

-- ---- the items after the root's start

pub after_rooted : (d : List ℕ) (at : ℕ) (i : Item) (s : Opened) → s.rooted ≡ true → (after_item d at i s).rooted ≡ true
after_rooted d at (Declaration e) s q = q
after_rooted d at (Instruction e) s q = q
after_rooted d at (Comment e) s q = q
after_rooted d at (Section e) s q = q
after_rooted d at (Reference n e) s q = q
after_rooted d at (Text e) s q = q
after_rooted d at (Start n h e m t) s q = refl
after_rooted d at (Finish n e) s q = q
after_rooted d at Doctype s q = q
after_rooted d at Malformed s q = q
after_rooted d at TooLarge s q = q
after_rooted d at Nothing s q = q

-- what is known of the item at a place, and of what follows it
pub record Here (d : List ℕ) (at : ℕ) (i : Item) : Type 0 where
  pub says : KindSays (kind_of false (drop at d)) d at i
  pub inside : Inside d at i
  pub chars : Chars (drop at d)

pub text_allowed : (d : List ℕ) (at : ℕ) (b : Bool) → kind_of false (drop at d) ≡ kinds.text → Allowed b (drop at d) → b ≡ true
text_allowed d at true q a = refl
text_allowed d at false q a = absurd (stops_kind (drop at d) a q)

pub inside_some : (ns : List Name) {r : Bool} → r ≡ true → r && not (some ns) ≡ false → some ns ≡ true
inside_some [] q e = absurd (false≢true (sym (rw q at e)))
inside_some (n ∷ ns) q e = refl

start_rest : (d : List ℕ) (at n h e : ℕ) (m : Bool) (s : Opened) (b : Bool) (ts : List Token) → s.rooted ≡ true
    → length s.names < 64 → s.rooted && not (some s.names) ≡ false → Started d at n h e m
    → Rest (after_item d at (Start n h e m false) s).names true (drop e d) (grown ts).front (grown ts).after
    → Rest s.names b (drop at d) (grown (item_tokens d at (Start n h e m false) ts)).front
    (grown (item_tokens d at (Start n h e m false) ts)).after
start_rest d at n h e true s b ts q l z x r = rest_empty x.opens (omega arith, x.short, x.few, x.all) (inside_some s.names q z) r
start_rest d at n h e false s b ts q l z x r = rest_start x.opens (omega arith, x.short, x.few, x.all) (inside_some s.names q z) r

finish_rest : (d : List ℕ) (at n e : ℕ) (ns : List Name) (b : Bool) (ts : List Token) → closes (name_from d (at + 2) n) ns ≡ true
    → ((name : Name) → name_from d (at + 2) n ≡ name → Closes name (part d at e) (drop at d) (drop e d))
    → Rest (closed ns) true (drop e d) (grown ts).front (grown ts).after
    → Rest ns b (drop at d) nil ((part d at e, (grown ts).front) ∷ (grown ts).after)
finish_rest d at n e [] b ts q x r = absurd (false≢true q)
finish_rest d at n e (name ∷ ns) b ts q x r = inner doc.end (x name (same_equal (name_from d (at + 2) n) name q)) r

item_rest : (d : List ℕ) (at : ℕ) (i : Item) (s : Opened) (b : Bool) (ts : List Token) → s.rooted ≡ true → Allowed b (drop at d)
    → Here d at i → placement d at i s ≡ Fine
    → ((b' : Bool) → Chars (drop (end_of at i) d) → Allowed b' (drop (end_of at i) d)
    → Rest (after_item d at i s).names b' (drop (end_of at i) d) (grown ts).front (grown ts).after)
    → Rest s.names b (drop at d) (grown (item_tokens d at i ts)).front (grown (item_tokens d at i ts)).after
item_rest d at (Declaration e) s b ts q a h p next = absurd (later_kind (drop at d) h.says.0)
item_rest d at (Instruction e) s b ts q a h p next =
    let x = h.says.1 in
    rest_instruction (item_sound d at PI x) (next true (chars_left PI (ascii PI refl) (drop at d) (drop e d) h.chars x.0) tt)
item_rest d at (Comment e) s b ts q a h p next =
    let x = h.says.1 in
    rest_comment (item_sound d at CommentRule x)
    (next true (chars_left CommentRule (ascii CommentRule refl) (drop at d) (drop e d) h.chars x.0) tt)
item_rest d at (Section e) s b ts q a h p next =
    let x = h.says.1 in
    rest_section (item_sound d at CDSect x) (formed-true (some s.names) p)
    (next true (chars_left CDSect (ascii CDSect refl) (drop at d) (drop e d) h.chars x.0) tt)
item_rest d at (Reference n e) s b ts q a h p next =
    let (k, (x, l, i)) = h.says in
    let y = refers_reads x in
    rest_reference (item_sound d at ReferenceRule {e = e} (y, l, i)) (formed-true (some s.names) p)
    (next true (chars_left ReferenceRule (ascii ReferenceRule refl) (drop at d) (drop e d) h.chars y) tt)
item_rest d at (Text e) s b ts q a h p next =
    let (k, (x, l, i)) = h.says in
    let g : at < e = h.inside.0 in
    rw (text_allowed d at b k a)
    (rest_text {x = blank d at e} (long_some (part d at e) (part_long d at e g i))
    (record { reads = x.reads; raw_is = part_left d at e l })
    (blank_space d at e x g i) (formed-true (some s.names || blank d at e) p)
    (next false (chars_left CharData (ascii CharData refl) (drop at d) (drop e d) h.chars x.reads) x.stops))
item_rest d at (Start n k e m t) s b ts q a h p next =
    let (l, u, z) = start_fine t s p in
    start_item t u h.says.1 (next true (start_chars d at h.says.1 h.chars) tt)
  where
    start_item : (t : Bool) → t ≡ false → StartIs d at n k e m t
        → Rest (after_item d at (Start n k e m t) s).names true (drop e d) (grown ts).front (grown ts).after
        → Rest s.names b (drop at d) (grown (item_tokens d at (Start n k e m t) ts)).front
        (grown (item_tokens d at (Start n k e m t) ts)).after
    start_item true u x r = absurd (false≢true (sym u))
    start_item false u x r =
        let (l, v, z) = start_fine t s p in
        let (w, y, i) = h.inside in
        start_rest d at n k e m s b ts q l z (start_sound d at x (omega arith) y i) r
item_rest d at (Finish n e) s b ts q a h p next =
    let x = h.says.1 in
    let (l, i) = h.inside in
    finish_rest d at n e s.names b ts (formed-true (closes (name_from d (at + 2) n) s.names) p)
    (λ name z. finish_sound d at name x z (omega arith)) (next true (finish_chars d at x h.chars) tt)
item_rest d at Doctype s b ts q a h p next = fault_fine _ p
item_rest d at Malformed s b ts q a h p next = fault_fine _ p
item_rest d at TooLarge s b ts q a h p next = fault_fine _ p
item_rest d at Nothing s b ts q a h p next = over_fine s p

-- the items are over
over_rest : (d : List ℕ) (at : ℕ) (s : Opened) (b : Bool) (ts : List Token) → placement d at (item_at false d at) s ≡ Over
    → Rest s.names b (drop at d) (grown (item_tokens d at (item_at false d at) ts)).front
    (grown (item_tokens d at (item_at false d at) ts)).after
over_rest d at s b ts q =
    let z = over_nothing d at (item_at false d at) s q in
    let y = over_closed d at s (rw z at q) in
    rw (z, y, nothing_left d at false z) (outer doc.over)

pub here : (d : List ℕ) (at : ℕ) → Chars (drop at d) → Here d at (item_at false d at)
here d at c = record { says = item_says false d at c; inside = item_inside false d at; chars = c }

pub passes_rest : (k : ℕ) (d : List ℕ) (at : ℕ) (s : Opened) (b : Bool) → s.rooted ≡ true → Chars (drop at d) → Allowed b (drop at d)
    → Passes k d at false s
    → Rest s.names b (drop at d) (grown (tokens_from k d at false)).front (grown (tokens_from k d at false)).after
unfolding tokens_from
passes_rest zero d at s b q c a h = absurd h
passes_rest (suc k) d at s b q c a (inl p) = over_rest d at s b _ p
passes_rest (suc k) d at s b q c a (inr (p, h)) =
    let i = item_at false d at in
    item_rest d at i s b _ q a (here d at c) p
    (λ b' c' a'. passes_rest k d (end_of at i) (after_item d at i s) b' (after_rooted d at i s q) c' a' h)

-- ---- the items before the root's start

start_begun : (d : List ℕ) (at n h e : ℕ) (m : Bool) (b : Bool) (ts : List Token) → Started d at n h e m
    → Rest (after_item d at (Start n h e m false) nothing).names true (drop e d) (grown ts).front (grown ts).after
    → Begun b (drop at d) (grown (item_tokens d at (Start n h e m false) ts)).front
    (grown (item_tokens d at (Start n h e m false) ts)).after
start_begun d at n h e true b ts x r = begun_empty x.opens (omega arith, x.short, x.few, x.all) r
start_begun d at n h e false b ts x r = begun_start x.opens (omega arith, x.short, x.few, x.all) r

item_begun : (d : List ℕ) (at : ℕ) (i : Item) (b : Bool) (ts : List Token) → Allowed b (drop at d) → Here d at i
    → placement d at i nothing ≡ Fine
    → (after_item d at i nothing ≡ nothing → (b' : Bool) → Chars (drop (end_of at i) d) → Allowed b' (drop (end_of at i) d)
    → Begun b' (drop (end_of at i) d) (grown ts).front (grown ts).after)
    → ((after_item d at i nothing).rooted ≡ true → Chars (drop (end_of at i) d)
    → Rest (after_item d at i nothing).names true (drop (end_of at i) d) (grown ts).front (grown ts).after)
    → Begun b (drop at d) (grown (item_tokens d at i ts)).front (grown (item_tokens d at i ts)).after
item_begun d at (Declaration e) b ts a h p next root = absurd (later_kind (drop at d) h.says.0)
item_begun d at (Instruction e) b ts a h p next root =
    let x = h.says.1 in
    begun_instruction (item_sound d at PI x)
    (next refl true (chars_left PI (ascii PI refl) (drop at d) (drop e d) h.chars x.0) tt)
item_begun d at (Comment e) b ts a h p next root =
    let x = h.says.1 in
    begun_comment (item_sound d at CommentRule x)
    (next refl true (chars_left CommentRule (ascii CommentRule refl) (drop at d) (drop e d) h.chars x.0) tt)
item_begun d at (Section e) b ts a h p next root = fault_fine _ p
item_begun d at (Reference n e) b ts a h p next root = fault_fine _ p
item_begun d at (Text e) b ts a h p next root =
    let (k, (x, l, i)) = h.says in
    let g : at < e = h.inside.0 in
    rw (text_allowed d at b k a)
    (begun_space (record { reads = blank_space d at e x g i (formed-true (blank d at e) p); raw_is = part_left d at e l })
    (next refl false (chars_left CharData (ascii CharData refl) (drop at d) (drop e d) h.chars x.reads) x.stops))
item_begun d at (Start n k e m true) b ts a h p next root = fault_fine _ p
item_begun d at (Start n k e m false) b ts a h p next root =
    let x = h.says.1 in
    let (w, y, i) = h.inside in
    start_begun d at n k e m b ts (start_sound d at x (omega arith) y i) (root refl (start_chars d at x h.chars))
item_begun d at (Finish n e) b ts a h p next root = fault_fine _ p
item_begun d at Doctype b ts a h p next root = fault_fine _ p
item_begun d at Malformed b ts a h p next root = fault_fine _ p
item_begun d at TooLarge b ts a h p next root = fault_fine _ p
item_begun d at Nothing b ts a h p next root = fault_fine _ p

not_over : {A : Type 0} (d : List ℕ) (at : ℕ) (i : Item) → i ≡ Nothing → placement d at i nothing ≡ Over → A
not_over d at i q p = let z : placement d at Nothing nothing ≡ Over = rw q at p in absurd (false≢true cc)

pub passes_begun : (k : ℕ) (d : List ℕ) (at : ℕ) (b : Bool) → Chars (drop at d) → Allowed b (drop at d) → Passes k d at false nothing
    → Begun b (drop at d) (grown (tokens_from k d at false)).front (grown (tokens_from k d at false)).after
unfolding tokens_from
passes_begun zero d at b c a h = absurd h
passes_begun (suc k) d at b c a (inl p) = not_over d at _ (over_nothing d at (item_at false d at) nothing p) p
passes_begun (suc k) d at b c a (inr (p, h)) =
    let i = item_at false d at in
    item_begun d at i b _ a (here d at c) p
    (λ q b' c' a'. passes_begun k d (end_of at i) b' c' a' (rw q at h))
    (λ q c'. passes_rest k d (end_of at i) (after_item d at i nothing) true q c' tt h)
