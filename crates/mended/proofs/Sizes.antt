-- How long a mended document is at most: 64 elements are open at most, and an end tag that is added has 258 bytes at most. So 16,512 bytes
-- more than the document has are room enough. In order: the names that are open; their end tags; the document.
use mathlib.Core.Path.{◌≡◌}
use mathlib.Core.Bool.{Bool, true, false}
use mathlib.Core.List.{List, [], ◌∷◌}
use Prim.Native.Nat.{ℕ, suc, min, ◌+◌, ◌*◌, ◌≤◌, ◌<◌}
use native.Mathlib.Omega.{arith}
use lib.ListN.{length, drop, length-append, length-take}
use Rattle.std.specs.Prelude.{Err}
use Rattle.xml.specs.Notation.{bytes}
use Rattle.xml.specs.Forest.{Name, end_tag}
use Rattle.xml.specs.Document.{AllShort}
use Rattle.readers.specs.Meaning.{Chars}
use Rattle.tags.specs.Kept.{name_from}
use Rattle.tags.specs.declared.Item.{Item}
use Rattle.tags.specs.declared.Item.TheVariants.{Declaration, Instruction, Comment, Section, Reference, Text, Start, Finish}
use Rattle.tags.specs.declared.Item.TheVariants.{Doctype, Malformed, TooLarge, Nothing}
use Rattle.items.specs.Item.{Kind, kind_of, item_at}
use Rattle.items.specs.Meaning.{KindSays}
use Rattle.items.proofs.Meaning.{item_says}
use Rattle.document.specs.Place.{Opened, opens, closed, placement, after_item}
use Rattle.document.specs.Judge.{start_of, nothing}
use Rattle.document.specs.declared.Placement.TheVariants.{Fine}
use Rattle.demands.proofs.First.{start_chars}
use Rattle.demands.proofs.Sound.{start_fine}
use Rattle.mend.specs.Kept.{readable, kept_of}
use Rattle.mend.specs.Mended.{end_tags, missing, tags_added, mended_of}
use Rattle.mend.specs.Answer.{answer_of}
use Rattle.mend.specs.declared.MendError.TheVariants.{Short}
use Rattle.mended.proofs.Reaching.{Reaches, here, next, next_chars}
use Rattle.mended.proofs.Accepted.{kept_reached, readable_chars}
use Rattle.mended.proofs.Told.{kept_first}
use Rattle.mended.proofs.Answered.{mended_length, short_is}

-- ---- the names that are open

abbrev Sized : List Name → Type 0
Sized ns = (length ns ≤ 64) × AllShort ns

opens_sized : (m : Bool) (n : Name) (ns : List Name) → length n ≤ 255 → length ns < 64 → Sized ns → Sized (opens m n ns)
opens_sized true n ns h l z = z
opens_sized false n ns h l z = (omega arith, (h, z.1))

closed_sized : (ns : List Name) → Sized ns → Sized (closed ns)
closed_sized [] z = z
closed_sized (n ∷ ns) (l, (h, k)) = (omega arith, k)

name_short : (d : List ℕ) (a n : ℕ) → n ≤ 255 → length (name_from d a n) ≤ 255
name_short d a n l = let z : length (name_from d a n) ≡ min n (length (drop a d)) = length-take n (drop a d) in omega arith

-- after an item that may stand where it stands
item_sized : (d : List ℕ) (at : ℕ) (k : Kind) (i : Item) (s : Opened) → KindSays k d at i → Sized s.names → placement d at i s ≡ Fine
    → Sized (after_item d at i s).names
item_sized d at k (Declaration e) s h z p = z
item_sized d at k (Instruction e) s h z p = z
item_sized d at k (Comment e) s h z p = z
item_sized d at k (Section e) s h z p = z
item_sized d at k (Reference c e) s h z p = z
item_sized d at k (Text e) s h z p = z
item_sized d at k (Start n b e m t) s h z p =
    let x = h.1 in
    let l : length x.tag.name ≤ 255 = x.small.name in
    let q : n ≡ length x.tag.name = x.name_is in
    opens_sized m (name_from d (at + 1) n) s.names (name_short d (at + 1) n (omega arith)) (start_fine t s p).0 z
item_sized d at k (Finish n e) s h z p = closed_sized s.names z
item_sized d at k Doctype s h z p = z
item_sized d at k Malformed s h z p = z
item_sized d at k TooLarge s h z p = z
item_sized d at k Nothing s h z p = z

reaches_sized : {d : List ℕ} {at o : ℕ} {first last : Bool} {s t : Opened} → Reaches d at first s o last t → Chars (drop at d)
    → Sized s.names → Sized t.names
reaches_sized here c z = z
reaches_sized {d} (next {at = at} {first = first} {s = s} p r) c z =
    reaches_sized r (next_chars d at first s c p)
    (item_sized d at (kind_of first (drop at d)) (item_at first d at) s (item_says first d at c) z p)

missing_sized : (d : List ℕ) → Sized (missing d)
unfolding missing kept_of
missing_sized d =
    let r = readable d in
    let (last, x) = kept_reached (suc (length r)) r (start_of r) true nothing in
    reaches_sized x (start_chars r (readable_chars d)) (omega arith, tt)

-- ---- their end tags

ends_at_most : (ns : List Name) → AllShort ns → length (end_tags ns) ≤ 258 * length ns
ends_at_most [] h = omega arith
ends_at_most (n ∷ ns) (l, h) =
    let z = ends_at_most ns h in
    omega (arith, length-append (end_tag n) (end_tags ns), length-append n (bytes ">"))

-- ---- the document

pub added_at_most : (d : List ℕ) → tags_added d ≤ 64
unfolding tags_added
added_at_most d = (missing_sized d).0

pub mended_at_most : (d : List ℕ) → length (mended_of d) ≤ length d + 16512
mended_at_most d =
    let (l, h) = missing_sized d in
    let a = ends_at_most (missing d) h in
    let k = (kept_first d).0 in
    let w = mended_length d in
    omega arith

-- so with that much room 9 is never answered
pub never_short : (d : List ℕ) (room n : ℕ) → length d + 16512 ≤ room → answer_of d room ≡ Err (Short n) → ⊥
never_short d room n h e = let l = short_is d room n e in let z = mended_at_most d in omega arith
