-- Document 02: "the result is always accepted by the filter if it is within the document size". In order: what is kept is reached without
-- a fault; a document that is cut at its first bad sequence is characters, and names no encoding that the whole did not name; the three
-- front bytes; `mended_sound`.
use mathlib.Core.Path.{◌≡◌, refl, sym, ap, ◌∙◌}
use mathlib.Core.Bool.{Bool, true, false, cond}
use mathlib.Core.List.{List, [], ◌∷◌, ◌++◌, append_assoc, append-nil, append_cancel_right}
use Prim.Native.Nat.{ℕ, zero, suc, ◌≤◌}
use lib.Dec.{eqb}
use lib.ListN.{length, take, drop, take-append-drop}
use Rattle.std.specs.Prelude.{Ok}
use Rattle.xml.specs.Notation.{lit, Reads, Star, more, ◌∗}
use Rattle.xml.specs.Encoding.{EncodingBy, DeclBy, NamesOther}
use Rattle.xml.specs.Utf8.{utf8, is_scalar}
use Rattle.xml.specs.Productions.{is_char, Char}
use Rattle.xml.specs.Forest.{Forest}
use Rattle.xml.specs.Character.{begins}
use Rattle.xml.specs.Document.{Small, Rooted, Document}
use Rattle.xml.specs.Document as doc
use Rattle.xml.proofs.Character.{begins_split}
use Rattle.xml.proofs.Language.{reads_language, language_reads}
use Rattle.xml.proofs.Utf8.{utf8_low}
use Rattle.chars.specs.Check.{check_of}
use Rattle.chars.specs.Meaning.{CheckSays}
use Rattle.std.specs.Prelude.{Result, Ok, Err}
use Rattle.chars.specs.declared.whole.CharError.{CharError}
use Rattle.chars.proofs.Meaning.{check_says}
use Rattle.readers.specs.Meaning.{Chars}
use Rattle.readers.specs.Named.{other_encoding}
use Rattle.readers.proofs.Follow.{space_none, space_low}
use Rattle.items.specs.Item.{item_at}
use Rattle.document.specs.Place.{Opened, placement, after_item, end_of}
use Rattle.document.specs.Judge.{front, start_of, nothing, judge_of}
use Rattle.document.specs.declared.Placement.{Placement}
use Rattle.document.specs.declared.Placement.TheVariants.{Fine, Fault, Over}
use Rattle.mended.proofs.Reaching.{Reaches, here, next}
use Rattle.demands.proofs.First.{start_inside, start_chars, named_none}
use Rattle.demands.proofs.Accepted.{derived_sound}
use Rattle.demands.proofs.Characters.{document_chars}
use Rattle.mend.specs.Kept.{cut_at, readable, Kept, halved, kept_by, kept_from, kept_of}
use Rattle.mend.specs.Mended.{root_kept, mended_of}
use Rattle.mended.proofs.Held.{Held}
use Rattle.mended.proofs.Regrown.{Derived, reaches_derived}

-- ---- what is kept is reached without a fault

abbrev ReachedBy : List ℕ → ℕ → Bool → Opened → Kept → Type 0
ReachedBy d at first s k = (last : Bool) × Reaches d at first s k.bytes last k.opened

pub kept_reached : (k : ℕ) (d : List ℕ) (at : ℕ) (first : Bool) (s : Opened) → ReachedBy d at first s (kept_from k d at first s)
unfolding kept_from
kept_reached zero d at first s = (first, here)
kept_reached (suc k) d at first s =
    let i = item_at first d at in
    go (placement d at i s) (halved d i s) refl (kept_reached k d (end_of at i) false (after_item d at i s))
  where
    go : {on : Kept} (p : Placement) (b : Bool) → placement d at (item_at first d at) s ≡ p
        → ReachedBy d (end_of at (item_at first d at)) false (after_item d at (item_at first d at) s) on
        → ReachedBy d at first s (kept_by p b (record { bytes = at; opened = s }) on)
    go Fine true q r = (first, here)
    go Fine false q (last, r) = (last, next q r)
    go (Fault why) b q r = (first, here)
    go Over b q r = (first, here)

-- ---- a document that is cut at its first bad sequence

cut_chars : (d t : List ℕ) → Star (Reads Char) d t → (w : List ℕ) → d ≡ w ++ t → Chars w
cut_chars d t x w e =
    let (v, q, l) = reads_language (Char ∗) d t x in
    let z : w ≡ v = append_cancel_right w v t (sym e ∙ q) in
    rw (z, ← append-nil v) (language_reads (Char ∗) v [] l)

pub readable_chars : (d : List ℕ) → Chars (readable d)
unfolding readable
readable_chars d = go (check_of d) (check_says d)
  where
    go : (c : Result Unit CharError) → CheckSays d c → Chars (cut_at c d)
    go (Ok tt) x = x
    go (Err e) (l, x, n) =
        let o = e.valid_up_to in
        cut_chars d (drop o d) x (take o d) (sym (take-append-drop o d))

-- ---- the three front bytes: no document begins with them after they are skipped

rooted_unmarked : {b : Bool} {s : List ℕ} {f : Forest} → Rooted Small b s f → begins front s ≡ false
rooted_unmarked (doc.space_before {s = s} i r) =
    let (u, (c, k, h, e), rs) = i.reads in
    let z : s ≡ c ∷ u = e ∙ ap (λ (w : List ℕ). w ++ u) (utf8_low c (space_low c h)) in
    rw (z, space_none (λ c. eqb c 0xEF) refl c h) refl
rooted_unmarked (doc.instruction_before i r) = rw i.reads.1 refl
rooted_unmarked (doc.comment_before i r) = rw i.reads.1 refl
rooted_unmarked (doc.empty_root x k a) = rw x.opens refl
rooted_unmarked (doc.root x k r y a) = rw x.opens refl

document_unmarked : {s : List ℕ} {f : Forest} → Document Small s f → begins front s ≡ false
document_unmarked (doc.declared i r) = rw i.reads.1 refl
document_unmarked (doc.bare r) = rooted_unmarked r

derived_alone : (s : List ℕ) → Derived s → length s ≤ 16777216 → judge_of s ≡ Ok tt
unfolding start_of
derived_alone s (f, x) l =
    let z : start_of s ≡ 0 = rw (document_unmarked x) refl in
    derived_sound s {f = f} l (document_chars x) (rw z x)

derived_marked : (s : List ℕ) → Derived s → length (front ++ s) ≤ 16777216 → judge_of (front ++ s) ≡ Ok tt
unfolding start_of is_char is_scalar utf8
derived_marked s (f, x) l = derived_sound (front ++ s) l (more (0xFEFF, refl, refl, refl) (document_chars x)) x

-- ---- the bytes that are kept

module _ {d : List ℕ} {at o : ℕ} {x : List ℕ} (h : Held d at o x Derived) where
  held_take : take o d ≡ take at d ++ h.bytes
  held_take =
      append_cancel_right (take o d) (take at d ++ h.bytes) (drop o d)
      (take-append-drop o d
      ∙ sym (take-append-drop at d)
      ∙ ap (λ (l : List ℕ). take at d ++ l) h.split
      ∙ sym (append_assoc (take at d) h.bytes (drop o d)))

  held_whole : take o d ++ x ≡ take at d ++ (h.bytes ++ x)
  held_whole = ap (λ (l : List ℕ). l ++ x) held_take ∙ append_assoc (take at d) h.bytes x

held_sound : (d : List ℕ) {o : ℕ} {x : List ℕ} → Held d (start_of d) o x Derived → length (take o d ++ x) ≤ 16777216
    → judge_of (take o d ++ x) ≡ Ok tt
unfolding start_of
held_sound d {o} {x} h l = go (begins front d) refl h
  where
    go : (b : Bool) → begins front d ≡ b → Held d (cond b 3 0) o x Derived → judge_of (take o d ++ x) ≡ Ok tt
    go true q h =
        let z : take o d ++ x ≡ front ++ (h.bytes ++ x)
        = held_whole h ∙ ap (λ (w : List ℕ). take 3 w ++ (h.bytes ++ x)) (begins_split front d q) in
        rw z (derived_marked (h.bytes ++ x) h.stands (rw z at l))
    go false q h =
        let z : take o d ++ x ≡ h.bytes ++ x = held_whole h in
        rw z (derived_alone (h.bytes ++ x) h.stands (rw z at l))

-- ---- the encoding that is named, or none: a cut at a bad sequence does not make a declaration

names_more : (s u : List ℕ) → NamesOther s → NamesOther (s ++ u)
names_more s u (n, t, x, f) =
    let r = DeclBy (EncodingBy (lit n)) in
    let (w, e, l) = reads_language r s t x.stands in
    let z : s ++ u ≡ w ++ (t ++ u) = ap (λ (v : List ℕ). v ++ u) e ∙ append_assoc w t u in
    (n, t ++ u, record { name = x.name; stands = rw z (language_reads r w (t ++ u) l) }, f)

-- a declaration does not begin with the three front bytes, whatever follows it
names_unmarked : (s u : List ℕ) → NamesOther s → begins front (s ++ u) ≡ false
names_unmarked s u (n, t, x, f) = rw x.stands.1 refl

front_names : (r u : List ℕ) → NamesOther (drop (start_of r) r) → NamesOther (drop (start_of (r ++ u)) (r ++ u))
unfolding start_of
front_names r u x = go (begins front r) refl x
  where
    go : (b : Bool) → begins front r ≡ b → NamesOther (drop (cond b 3 0) r)
        → NamesOther (drop (cond (begins front (r ++ u)) 3 0) (r ++ u))
    go true q x =
        let z = begins_split front r q in
        rw z (rw z at (names_more (drop 3 r) u x))
    go false q x = rw (names_unmarked r u x) (names_more r u x)

readable_front : (d : List ℕ) → (u : List ℕ) × (d ≡ readable d ++ u)
unfolding readable
readable_front d = go (check_of d)
  where
    go : (c : Result Unit CharError) → (u : List ℕ) × (d ≡ cut_at c d ++ u)
    go (Ok tt) = ([], sym (append-nil d))
    go (Err e) = (drop e.valid_up_to d, sym (take-append-drop e.valid_up_to d))

pub readable_names : (d : List ℕ) → other_encoding (drop (start_of d) d) ≡ false → NamesOther (drop (start_of (readable d)) (readable d))
    → ⊥
readable_names d q x =
    let (u, e) = readable_front d in
    named_none (drop (start_of d) d) q (rw (← e) at (front_names (readable d) u x))

-- ---- the theorem

pub mended_sound : (d : List ℕ) → other_encoding (drop (start_of d) d) ≡ false → root_kept d ≡ true → length (mended_of d) ≤ 16777216
    → judge_of (mended_of d) ≡ Ok tt
unfolding root_kept mended_of kept_of
mended_sound d n q l =
    let r = readable d in
    let c = readable_chars d in
    let (last, h) = kept_reached (suc (length r)) r (start_of r) true nothing in
    held_sound r (reaches_derived r h refl q (start_inside r) (start_chars r c) (readable_names d n)) l
