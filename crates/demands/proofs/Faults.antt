-- "The first item at fault decides": 6 to 8 are answered exactly at the first item at fault, all before which stand in their places; 5
-- exactly where the first sequence begins that is no character; 10 exactly where another encoding is named. In order: what is left after
-- an item; the scan, from its answer to the first fault and back; where a first fault lies; the answer on a document, both ways.
use mathlib.Core.Path.{◌≡◌, refl, sym, ap, ◌∙◌}
use mathlib.Core.Bool.{Bool, true, false, cond, false≢true}
use mathlib.Core.List.{List, []}
use mathlib.Core.Logic.{◌↔◌, ◌⊎◌, inl, inr}
use Prim.Native.Nat.{ℕ, zero, suc, ◌-◌, ◌≤◌, ◌<◌}
use native.Mathlib.Omega.{arith}
use borrow.Author.Tests.{ltb-true, ltb-false, lt-ltb, le-ltb}
use lib.Dec.{ltb}
use lib.ListN.{length, drop, length-drop}
use Rattle.std.specs.Prelude.{Result, Ok, Err, ⊤}
use Rattle.xml.specs.Productions.{XMLDecl, PI, Comment as CommentRule, CDSect, Reference as ReferenceRule, CharData}
use Rattle.xml.specs.Encoding.{NamesOther}
use Rattle.chars.specs.Check.{check_of}
use Rattle.chars.specs.Meaning.{CheckSays}
use Rattle.std.specs.Prelude.{Result, Ok, Err}
use Rattle.chars.specs.declared.whole.CharError.{CharError}
use Rattle.chars.proofs.Meaning.{check_says, check_only}
use Rattle.readers.specs.Meaning.{Chars}
use Rattle.readers.proofs.Combine.{chars_left}
use Rattle.readers.proofs.Follow.{ascii}
use Rattle.readers.specs.Named.{other_encoding}
use Rattle.readers.proofs.Encoding.{other_iff}
use Rattle.readers.proofs.Reference.{refers_reads}
use Rattle.tags.specs.declared.Item.{Item}
use Rattle.tags.specs.declared.Item.TheVariants.{Declaration, Instruction, Comment, Section, Reference, Text, Start, Finish}
use Rattle.tags.specs.declared.Item.TheVariants.{Doctype, Malformed, TooLarge, Nothing}
use Rattle.items.specs.Item.{Kind, kind_of, item_at}
use Rattle.items.specs.Inside.{Inside}
use Rattle.items.specs.Meaning.{KindSays, ItemSays}
use Rattle.items.proofs.Insides.{item_inside}
use Rattle.items.proofs.Meaning.{item_says, item_only}
use Rattle.items.proofs.Telling.{item_none}
use Rattle.document.specs.Place.{Opened, placement, after_item, end_of}
use Rattle.document.specs.Judge.{start_of, nothing, onward, scan_from, scanned, by_chars, by_encoding, judge_of}
use Rattle.document.specs.declared.Placement.{Placement}
use Rattle.document.specs.declared.Placement.TheVariants.{Fine, Fault, Over}
use Rattle.document.specs.declared.Why.{Why}
use Rattle.document.specs.declared.Why.TheVariants.{Malformed as Ill}
use Rattle.document.specs.declared.DocumentError.{DocumentError}
use Rattle.document.specs.declared.DocumentError.TheVariants.{TooLong, OtherEncoding, NotChar, At}
use Rattle.document.proofs.Judging.{fine_ahead}
use Rattle.trees.proofs.Passes.{over_fine}
use Rattle.trees.proofs.Over.{nothing_left}
use Rattle.demands.specs.Position.{Within, PlaceSays}
use Rattle.demands.specs.Reached.{Reaches, here, next, FirstFault}
use Rattle.demands.specs.Judged.{DocumentSays, too_long, in_other_encoding, not_char, at_fault, sound}
use Rattle.demands.proofs.First.{start_inside, start_chars, named_none, none_named, scanned_document}
use Rattle.demands.proofs.Accepted.{derived_sound}
use Rattle.demands.proofs.Position.{place_says, place_only}
use Rattle.demands.proofs.Tagged.{start_chars as tag_chars, finish_chars}

-- ---- what is left after an item

pub item_chars : (d : List ℕ) (at : ℕ) (k : Kind) (i : Item) (s : Opened) → KindSays k d at i → Chars (drop at d)
    → placement d at i s ≡ Fine → Chars (drop (end_of at i) d)
item_chars d at k (Declaration e) s h c q = chars_left XMLDecl (ascii XMLDecl refl) (drop at d) (drop e d) c h.1.0
item_chars d at k (Instruction e) s h c q = chars_left PI (ascii PI refl) (drop at d) (drop e d) c h.1.0
item_chars d at k (Comment e) s h c q = chars_left CommentRule (ascii CommentRule refl) (drop at d) (drop e d) c h.1.0
item_chars d at k (Section e) s h c q = chars_left CDSect (ascii CDSect refl) (drop at d) (drop e d) c h.1.0
item_chars d at k (Reference n e) s h c q =
    chars_left ReferenceRule (ascii ReferenceRule refl) (drop at d) (drop e d) c (refers_reads h.1.0)
item_chars d at k (Text e) s h c q = chars_left CharData (ascii CharData refl) (drop at d) (drop e d) c h.1.0.reads
item_chars d at k (Start n b e m t) s h c q = tag_chars d at h.1 c
item_chars d at k (Finish n e) s h c q = finish_chars d at h.1 c
item_chars d at k Doctype s h c q = absurd (false≢true cc)
item_chars d at k Malformed s h c q = absurd (false≢true cc)
item_chars d at k TooLarge s h c q = absurd (false≢true cc)
item_chars d at k Nothing s h c q = over_fine s q

-- ---- the scan

-- of the item that is read at a place: what it is, and that it stands inside the document
record Read (d : List ℕ) (at : ℕ) (first : Bool) (i : Item) : Type 0 where
  is : i ≡ item_at first d at
  says : ItemSays first d at i
  inside : Inside d at i

read_says : (d : List ℕ) (at : ℕ) (first : Bool) → Chars (drop at d) → Read d at first (item_at first d at)
read_says d at first c = record { is = refl; says = item_says first d at c; inside = item_inside first d at }

read_only : (d : List ℕ) (at : ℕ) (first : Bool) (i : Item) → Chars (drop at d) → ItemSays first d at i → Read d at first i
read_only d at first i c x =
    let e = item_only first d at c i x in
    record { is = e; says = x; inside = rw e (item_inside first d at) }

-- what follows an item that stands in its place
module _ {d : List ℕ} {at : ℕ} {first : Bool} {i : Item} (s : Opened) (r : Read d at first i) (c : Chars (drop at d))
    (p : placement d at i s ≡ Fine) where
  next_ahead : (at < end_of at i) × (end_of at i ≤ length d)
  next_ahead = fine_ahead d at i s r.inside p

  next_chars : Chars (drop (end_of at i) d)
  next_chars = item_chars d at (kind_of first (drop at d)) i s r.says c p

-- from a place on
record Found (d : List ℕ) (at : ℕ) (first : Bool) (s : Opened) (why : Why) (o : ℕ) : Type 0 where
  last : Bool
  opened : Opened
  reached : Reaches d at first s o last opened
  item : Item
  says : ItemSays last d o item
  fault : PlaceSays d o opened item (Fault why)

scan_found : (k : ℕ) (d : List ℕ) (at : ℕ) (first : Bool) (s : Opened) (why : Why) (o : ℕ) → length d - at < k → Chars (drop at d)
    → scan_from k d at first s ≡ Err (At why o) → Found d at first s why o
unfolding scan_from
scan_found zero d at first s why o l c e = absurd (omega arith)
scan_found (suc k) d at first s why o l c e =
    go (placement d at i s) refl (place_says d at s (kind_of first (drop at d)) i r.says r.inside) e
    (λ q. let (a, b) = next_ahead s r c q in
    scan_found k d (end_of at i) false (after_item d at i s) why o (omega arith) (next_chars s r c q))
  where
    i : Item
    i = item_at first d at

    r : Read d at first i
    r = read_says d at first c

    go : (p : Placement) → placement d at i s ≡ p → PlaceSays d at s i p
        → onward p at (scan_from k d (end_of at i) false (after_item d at i s)) ≡ Err (At why o)
        → (placement d at i s ≡ Fine → scan_from k d (end_of at i) false (after_item d at i s) ≡ Err (At why o)
        → Found d (end_of at i) false (after_item d at i s) why o)
        → Found d at first s why o
    go Fine q m e f =
        let x = f q e in
        record {
          last = x.last;
          opened = x.opened;
          reached = next i r.says m x.reached;
          item = x.item;
          says = x.says;
          fault = x.fault;
        }
    go (Fault w) q m e f =
        let y : w ≡ why = cc in
        let z : at ≡ o = cc in
        rw (← z) (record { last = first; opened = s; reached = here; item = i; says = r.says; fault = rw y at m })
    go Over q m e f = absurd (false≢true cc)

-- and back
found_scan : (k : ℕ) (d : List ℕ) {at : ℕ} {first : Bool} {s : Opened} {why : Why} {o : ℕ} {last : Bool} {t : Opened}
    → length d - at < k → Chars (drop at d) → Reaches d at first s o last t → (i : Item) → ItemSays last d o i
    → PlaceSays d o t i (Fault why) → scan_from k d at first s ≡ Err (At why o)
unfolding scan_from
found_scan zero d l c h i x y = absurd (omega arith)
found_scan (suc k) d {at} {first} {s} {why} l c here i x y =
    let r = read_only d at first i c x in
    rw (← r.is, place_only d at s (kind_of first (drop at d)) i x r.inside (Fault why) y) refl
found_scan (suc k) d {at} {first} {s} l c (next j a b h) i x y =
    let r = read_only d at first j c a in
    let q = place_only d at s (kind_of first (drop at d)) j a r.inside Fine b in
    let (u, v) = next_ahead s r c q in
    rw (← r.is, q) (found_scan k d (omega arith) (next_chars s r c q) h i x y)

-- ---- where a first fault lies

reaches_inside : {d : List ℕ} {at : ℕ} {first : Bool} {s : Opened} {o : ℕ} {last : Bool} {t : Opened} → at ≤ length d
    → Chars (drop at d) → Reaches d at first s o last t → (o ≤ length d) × Chars (drop o d)
reaches_inside l c here = (l, c)
reaches_inside {d} {at} {first} {s} l c (next j a b h) =
    let r = read_only d at first j c a in
    let q = place_only d at s (kind_of first (drop at d)) j a r.inside Fine b in
    reaches_inside (next_ahead s r c q).1 (next_chars s r c q) h

module _ {d : List ℕ} (c : Chars d) {why : Why} {o : ℕ} (x : FirstFault d why o) where
  -- an offset is at most the document's length
  pub inside : o ≤ length d
  inside = (reaches_inside (start_inside d) (start_chars d c) x.reached).0

  fault_chars : Chars (drop o d)
  fault_chars = (reaches_inside (start_inside d) (start_chars d c) x.reached).1

  -- "If the items run out .. the answer is 7 at the document's length": they run out exactly there
  pub runs_out : x.item ≡ Nothing ↔ (o ≡ length d)
  runs_out = (
    (λ e. let z : drop o d ≡ [] = nothing_left d o x.first (sym (read_only d o x.first x.item fault_chars x.says).is ∙ e) in
        let n = inside in
        omega (arith, length-drop o d, ap length z)),
    (λ e. (read_only d o x.first x.item fault_chars x.says).is
        ∙ sym (item_none x.first d o (let z = e in omega arith))),
  )

  -- and then it is 7, since an element is open or there is no root
  pub runs_out_seven : o ≡ length d → (Within x.opened ⊎ (x.opened.rooted ≡ false)) × (why ≡ Ill)
  runs_out_seven e = rw (runs_out.1 e) at x.fault

-- ---- the answer on a document

by_chars_lem : (c : Result Unit CharError) (j r : Result ⊤ DocumentError) → by_chars c j ≡ r
    → ((o : ℕ) → r ≡ Err (NotChar o) → ⊥) → (c ≡ Ok tt) × (j ≡ r)
by_chars_lem (Ok tt) j r e n = (refl, e)
by_chars_lem (Err o) j r e n = absurd (n o.valid_up_to (sym e))

-- 6, 7 and 8: the first item at fault
scanned_fault : (d : List ℕ) → Chars d → (why : Why) (o : ℕ) → scanned d ≡ Err (At why o) → FirstFault d why o
unfolding scanned
scanned_fault d c why o e =
    let x = scan_found (suc (length d)) d (start_of d) true nothing why o (omega arith) (start_chars d c) e in
    record { first = x.last; opened = x.opened; reached = x.reached; item = x.item; says = x.says; fault = x.fault }

pub fault_scanned : (d : List ℕ) → Chars d → {why : Why} {o : ℕ} → FirstFault d why o → scanned d ≡ Err (At why o)
unfolding scanned
fault_scanned d c x =
    found_scan (suc (length d)) d (omega arith) (start_chars d c) x.reached x.item x.says x.fault

-- the scan says neither 4 nor 5
scan_some : (k : ℕ) (d : List ℕ) (at : ℕ) (first : Bool) (s : Opened)
    → (scan_from k d at first s ≡ Ok tt) ⊎ ((why : Why) × (o : ℕ) × (scan_from k d at first s ≡ Err (At why o)))
unfolding scan_from
scan_some zero d at first s = inr (Ill, at, refl)
scan_some (suc k) d at first s =
    let i = item_at first d at in
    go (placement d at i s) (scan_some k d (end_of at i) false (after_item d at i s))
  where
    go : {n : Result ⊤ DocumentError} (p : Placement) → (n ≡ Ok tt) ⊎ ((why : Why) × (o : ℕ) × (n ≡ Err (At why o)))
        → (onward p at n ≡ Ok tt) ⊎ ((why : Why) × (o : ℕ) × (onward p at n ≡ Err (At why o)))
    go Fine f = f
    go (Fault w) f = inr (w, at, refl)
    go Over f = inl refl

some_scanned : (d : List ℕ) → (scanned d ≡ Ok tt) ⊎ ((why : Why) × (o : ℕ) × (scanned d ≡ Err (At why o)))
unfolding scanned
some_scanned d = scan_some (suc (length d)) d (start_of d) true nothing

-- each answer says what document 01 says
pub judge_says : (d : List ℕ) → DocumentSays d (judge_of d)
unfolding judge_of
judge_says d = size (ltb 16777216 (length d)) refl
  where
    items : length d ≤ 16777216 → (NamesOther (drop (start_of d) d) → ⊥) → Chars d
        → (scanned d ≡ Ok tt) ⊎ ((why : Why) × (o : ℕ) × (scanned d ≡ Err (At why o)))
        → DocumentSays d (scanned d)
    items l n c (inl e) = rw e (sound (record { size = l; chars = c; derived = scanned_document d n c e }))
    items l n c (inr (why, o, e)) = rw e (at_fault l n c (scanned_fault d c why o e))

    chars : length d ≤ 16777216 → (NamesOther (drop (start_of d) d) → ⊥) → (r : Result Unit CharError) → CheckSays d r
        → DocumentSays d (by_chars r (scanned d))
    chars l n (Ok tt) c = items l n c (some_scanned d)
    chars l n (Err o) h = not_char l n h

    encoding : length d ≤ 16777216 → (b : Bool) → other_encoding (drop (start_of d) d) ≡ b
        → DocumentSays d (cond b (Err (OtherEncoding (start_of d))) (by_chars (check_of d) (scanned d)))
    encoding l true e = in_other_encoding l ((other_iff (drop (start_of d) d)).0 e)
    encoding l false e = chars l (named_none (drop (start_of d) d) e) (check_of d) (check_says d)

    size : (b : Bool) → ltb 16777216 (length d) ≡ b
        → DocumentSays d (cond b (Err TooLong) (by_encoding d (by_chars (check_of d) (scanned d))))
    size true q = too_long (ltb-true 16777216 (length d) q)
    size false q = encoding (ltb-false 16777216 (length d) q) (other_encoding (drop (start_of d) d)) refl

-- and no other answer does
pub judge_only : (d : List ℕ) (j : Result ⊤ DocumentError) → DocumentSays d j → judge_of d ≡ j
unfolding judge_of
judge_only d (Err TooLong) (too_long l) = rw (lt-ltb 16777216 (length d) l) refl
judge_only d (Err (OtherEncoding o)) (in_other_encoding l n) = rw (le-ltb 16777216 (length d) l, (other_iff (drop (start_of d) d)).1 n) refl
judge_only d (Err (NotChar o)) (not_char l n h) =
    rw (le-ltb 16777216 (length d) l, none_named (drop (start_of d) d) n, ← check_only d (Err (record { valid_up_to = o })) h) refl
judge_only d (Err (At why o)) (at_fault l n c x) =
    rw (le-ltb 16777216 (length d) l, none_named (drop (start_of d) d) n, ← check_only d (Ok tt) c) (fault_scanned d c x)
judge_only d (Ok _) (sound {f} x) = derived_sound d x.size x.chars x.derived

-- "given exactly when the first item has the right shape of a declaration and names another encoding", in a document that is not too long
other_said : {d : List ℕ} {o : ℕ} → DocumentSays d (Err (OtherEncoding o))
    → (length d ≤ 16777216) × (o ≡ start_of d) × NamesOther (drop (start_of d) d)
other_said (in_other_encoding l n) = (l, refl, n)

pub other_exactly : (d : List ℕ) (o : ℕ)
    → judge_of d ≡ Err (OtherEncoding o) ↔ ((length d ≤ 16777216) × (o ≡ start_of d) × NamesOther (drop (start_of d) d))
other_exactly d o = (
  (λ e. other_said (rw e at (judge_says d))),
  (λ (l, e, n). rw e (judge_only d (Err (OtherEncoding (start_of d))) (in_other_encoding l n))),
)

-- 6, 7 and 8; and 5
pub fault_first : (d : List ℕ) (why : Why) (o : ℕ) → judge_of d ≡ Err (At why o) → FirstFault d why o
fault_first d why o e = go (rw e at (judge_says d))
  where
    go : DocumentSays d (Err (At why o)) → FirstFault d why o
    go (at_fault l n c x) = x

pub char_first : (d : List ℕ) (o : ℕ) → judge_of d ≡ Err (NotChar o) → CheckSays d (Err (record { valid_up_to = o }))
char_first d o e = go (rw e at (judge_says d))
  where
    go : DocumentSays d (Err (NotChar o)) → CheckSays d (Err (record { valid_up_to = o }))
    go (not_char l n h) = h
