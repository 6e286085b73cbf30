-- What is kept, in document 02's words: `kept_keeps`. In order: a text that touches the end; places that are reached from a place; from a
-- place on; the document. Then that what is open has a root, and that the kept bytes are the first of the document as it came.
use mathlib.Core.Path.{◌≡◌, refl, sym, ap, ◌∙◌}
use mathlib.Core.Bool.{Bool, true, false, false≢true}
use mathlib.Core.List.{List, [], ◌∷◌}
use mathlib.Core.Logic.{◌⊎◌, inl, inr}
use Prim.Native.Nat.{ℕ, zero, suc, min, ◌-◌, ◌≤◌, ◌<◌}
use native.Mathlib.Omega.{arith}
use borrow.Author.Tests.{leb-true, le-leb}
use lib.Dec.{leb}
use lib.ListN.{length, take, drop, length-take}
use lib.Seq.{take-take}
use Rattle.xml.proofs.Bools.{and_left, and_right}
use Rattle.chars.specs.Check.{check_of}
use Rattle.std.specs.Prelude.{Result, Ok, Err}
use Rattle.chars.specs.declared.whole.CharError.{CharError}
use Rattle.readers.specs.Meaning.{Chars}
use Rattle.tags.specs.declared.Item.{Item}
use Rattle.tags.specs.declared.Item.TheVariants.{Declaration, Instruction, Comment, Section, Reference, Text, Start, Finish}
use Rattle.tags.specs.declared.Item.TheVariants.{Doctype, Malformed, TooLarge, Nothing}
use Rattle.items.specs.Item.{kind_of, item_at}
use Rattle.items.specs.Inside.{Inside}
use Rattle.items.proofs.Insides.{item_inside}
use Rattle.items.proofs.Meaning.{item_says, item_only}
use Rattle.document.specs.Place.{Opened, some, inside, closed, placement, after_item, end_of}
use Rattle.document.specs.Judge.{start_of, nothing}
use Rattle.document.specs.declared.Placement.{Placement}
use Rattle.document.specs.declared.Placement.TheVariants.{Fine, Fault, Over}
use Rattle.document.proofs.Judging.{fine_ahead}
use Rattle.trees.proofs.Passes.{over_nothing}
use Rattle.demands.specs.Position.{Within, PlaceSays}
use Rattle.demands.proofs.First.{start_inside, start_chars}
use Rattle.demands.proofs.Position.{place_says}
use Rattle.mend.specs.Kept.{cut_at, readable, Kept, halved, kept_by, kept_from, kept_of}
use Rattle.mend.specs.Mended.{bytes_kept}
use Rattle.mended.specs.Meaning.{Ends, fault, over, half, Keeps}
use Rattle.mended.proofs.Reaching.{Reaches, here, next, next_chars, reaches_told, told_reaches, reaches_chars}
use Rattle.mended.proofs.Accepted.{kept_reached}

-- ---- a text that touches the end

record Halving (d : List ℕ) (i : Item) (s : Opened) : Type 0 where
  is_text_lem : i ≡ Text (length d)
  is_open : inside s ≡ true

halved_text : (d : List ℕ) (at : ℕ) (i : Item) (s : Opened) → Inside d at i → halved d i s ≡ true → Halving d i s
halved_text d at (Declaration e) s h q = absurd (false≢true q)
halved_text d at (Instruction e) s h q = absurd (false≢true q)
halved_text d at (Comment e) s h q = absurd (false≢true q)
halved_text d at (Section e) s h q = absurd (false≢true q)
halved_text d at (Reference c e) s h q = absurd (false≢true q)
halved_text d at (Text e) s h q =
    let l : length d ≤ e = leb-true (length d) e (and_right (inside s) (leb (length d) e) q) in
    let g : e ≤ length d = h.1 in
    let z : e ≡ length d = omega arith in
    record { is_text_lem = ap Text z; is_open = and_left (inside s) (leb (length d) e) q }
halved_text d at (Start n k e m t) s h q = absurd (false≢true q)
halved_text d at (Finish n e) s h q = absurd (false≢true q)
halved_text d at Doctype s h q = absurd (false≢true q)
halved_text d at Malformed s h q = absurd (false≢true q)
halved_text d at TooLarge s h q = absurd (false≢true q)
halved_text d at Nothing s h q = absurd (false≢true q)

text_halved : (d : List ℕ) (i : Item) (s : Opened) → i ≡ Text (length d) → inside s ≡ true → halved d i s ≡ true
text_halved d i s q p = rw (q, p, le-leb (length d) (length d) (omega arith)) refl

-- an element is open
pub open_within : (s : Opened) → inside s ≡ true → Within s
open_within s q e = false≢true (sym (ap some e) ∙ q)

pub within_open : (s : Opened) → Within s → inside s ≡ true
within_open s = go s.names
  where
    go : (ns : List (List ℕ)) → (ns ≡ [] → ⊥) → some ns ≡ true
    go [] f = absurd (f refl)
    go (n ∷ ns) f = refl

-- ---- places that are reached from a place

pub reaches_ahead : {d : List ℕ} {at o : ℕ} {first last : Bool} {s t : Opened} → Reaches d at first s o last t → at ≤ o
reaches_ahead here = omega arith
reaches_ahead {d} (next {at = at} {first = first} {s = s} p r) =
    let z = (fine_ahead d at (item_at first d at) s (item_inside first d at) p).0 in
    let y = reaches_ahead r in
    omega arith

-- the place itself, or one past its item
pub record Past (d : List ℕ) (at : ℕ) (first : Bool) (s : Opened) (o : ℕ) (last : Bool) (t : Opened) : Type 0 where
  pub fine : placement d at (item_at first d at) s ≡ Fine
  pub rest : Reaches d (end_of at (item_at first d at)) false (after_item d at (item_at first d at) s) o last t

pub reaches_split : {d : List ℕ} {at o : ℕ} {first last : Bool} {s t : Opened} → Reaches d at first s o last t
    → ((at ≡ o) × (first ≡ last) × (s ≡ t)) ⊎ Past d at first s o last t
reaches_split here = inl (refl, refl, refl)
reaches_split (next p r) = inr (record { fine = p; rest = r })

-- ---- from a place on

-- no text that touches the end with an element open is reached before the place k
abbrev Clear : List ℕ → ℕ → Bool → Opened → ℕ → Type 0
Clear d at first s k =
    (o : ℕ) (last : Bool) (t : Opened) → Reaches d at first s o last t → item_at last d o ≡ Text (length d) → inside t ≡ true → k ≤ o

record Tells (d : List ℕ) (at : ℕ) (first : Bool) (s : Opened) (k : Kept) : Type 0 where
  last : Bool
  reached : Reaches d at first s k.bytes last k.opened
  ends : Ends d k last
  clear : Clear d at first s k.bytes

stopped : {d : List ℕ} {at : ℕ} {first : Bool} {s : Opened} → Ends d (record { bytes = at; opened = s }) first
    → Tells d at first s (record { bytes = at; opened = s })
stopped u = record { last = _; reached = here; ends = u; clear = λ o last t r q p. reaches_ahead r }

-- past an item that is no such text
clear_past : {d : List ℕ} {at : ℕ} {first : Bool} {s : Opened} {k : ℕ} → halved d (item_at first d at) s ≡ false
    → Clear d (end_of at (item_at first d at)) false (after_item d at (item_at first d at) s) k → Clear d at first s k
clear_past {d} {at} {first} {s} {k} h f o last t r q p = go (reaches_split r)
  where
    go : ((at ≡ o) × (first ≡ last) × (s ≡ t)) ⊎ Past d at first s o last t → k ≤ o
    go (inl (a, b, c)) = absurd (false≢true (sym h ∙ text_halved d (item_at first d at) s (rw (a, b) q) (rw c p)))
    go (inr x) = f o last t x.rest q p

kept_tells : (k : ℕ) (d : List ℕ) (at : ℕ) (first : Bool) (s : Opened) → length d - at < k → Chars (drop at d)
    → Tells d at first s (kept_from k d at first s)
unfolding kept_from
kept_tells zero d at first s l c = absurd (omega arith)
kept_tells (suc k) d at first s l c =
    go (placement d at i s) (halved d i s) refl refl (place_says d at s (kind_of first (drop at d)) i (item_says first d at c) inner)
    (λ q. let (a, b) = fine_ahead d at i s inner q in
    kept_tells k d (end_of at i) false (after_item d at i s) (omega arith) (next_chars d at first s c q))
  where
    i : Item
    i = item_at first d at

    inner : Inside d at i
    inner = item_inside first d at

    go : (p : Placement) (b : Bool) → placement d at i s ≡ p → halved d i s ≡ b → PlaceSays d at s i (placement d at i s)
        → (placement d at i s ≡ Fine
        → Tells d (end_of at i) false (after_item d at i s) (kept_from k d (end_of at i) false (after_item d at i s)))
        → Tells d at first s
        (kept_by p b (record { bytes = at; opened = s }) (kept_from k d (end_of at i) false (after_item d at i s)))
    go Fine true q h m on =
        let z = halved_text d at i s inner h in
        stopped (half (rw z.is_text_lem at (item_says first d at c)) (open_within s z.is_open))
    go Fine false q h m on =
        let x = on q in
        record { last = x.last; reached = next q x.reached; ends = x.ends; clear = clear_past h x.clear }
    go (Fault why) b q h m on = stopped (fault why i (item_says first d at c) (rw q at m))
    go Over b q h m on =
        let z = over_nothing d at i s q in
        stopped (over (rw z at (item_says first d at c)) (rw z at (rw q at m)))

-- ---- the theorem, of a document of characters

pub kept_keeps : (d : List ℕ) → Chars d → Keeps d (kept_of d)
unfolding kept_of
kept_keeps d c =
    let h = start_chars d c in
    let x = kept_tells (suc (length d)) d (start_of d) true nothing (omega arith) h in
    record {
      last = x.last;
      reached = reaches_told x.reached h;
      ends = x.ends;
      clear = λ at first s r t w.
          let y = told_reaches r h in
          x.clear at first s y (sym (item_only first d at (reaches_chars y h) (Text (length d)) t)) (within_open s w);
    }

-- ---- what is open has a root

abbrev Rooting : Opened → Type 0
Rooting s = inside s ≡ true → s.rooted ≡ true

closed_some : (ns : List (List ℕ)) → some (closed ns) ≡ true → some ns ≡ true
closed_some [] q = q
closed_some (n ∷ ns) q = refl

item_rooting : (d : List ℕ) (at : ℕ) (i : Item) (s : Opened) → Rooting s → Rooting (after_item d at i s)
item_rooting d at (Declaration e) s h = h
item_rooting d at (Instruction e) s h = h
item_rooting d at (Comment e) s h = h
item_rooting d at (Section e) s h = h
item_rooting d at (Reference c e) s h = h
item_rooting d at (Text e) s h = h
item_rooting d at (Start n k e m t) s h = λ q. refl
item_rooting d at (Finish n e) s h = λ q. h (closed_some s.names q)
item_rooting d at Doctype s h = h
item_rooting d at Malformed s h = h
item_rooting d at TooLarge s h = h
item_rooting d at Nothing s h = h

reaches_rooting : {d : List ℕ} {at o : ℕ} {first last : Bool} {s t : Opened} → Reaches d at first s o last t → Rooting s → Rooting t
reaches_rooting here h = h
reaches_rooting {d} (next {at = at} {first = first} {s = s} p r) h = reaches_rooting r (item_rooting d at (item_at first d at) s h)

pub kept_rooting : (d : List ℕ) → inside (kept_of d).opened ≡ true → (kept_of d).opened.rooted ≡ true
unfolding kept_of
kept_rooting d = reaches_rooting (kept_reached (suc (length d)) d (start_of d) true nothing).1 (λ e. absurd (false≢true e))

-- ---- what is kept stands inside the document

reaches_inside : {d : List ℕ} {at o : ℕ} {first last : Bool} {s t : Opened} → Reaches d at first s o last t → at ≤ length d
    → o ≤ length d
reaches_inside here l = l
reaches_inside {d} (next {at = at} {first = first} {s = s} p r) l =
    reaches_inside r (fine_ahead d at (item_at first d at) s (item_inside first d at) p).1

kept_inside : (d : List ℕ) → (kept_of d).bytes ≤ length d
unfolding kept_of
kept_inside d = reaches_inside (kept_reached (suc (length d)) d (start_of d) true nothing).1 (start_inside d)

-- the bytes that are kept are the first of the document as it came
pub kept_first : (d : List ℕ) → (bytes_kept d ≤ length d) × (take (bytes_kept d) (readable d) ≡ take (bytes_kept d) d)
unfolding bytes_kept readable
kept_first d = go (check_of d)
  where
    go : (c : Result Unit CharError) → ((kept_of (cut_at c d)).bytes ≤ length d)
        × (take (kept_of (cut_at c d)).bytes (cut_at c d) ≡ take (kept_of (cut_at c d)).bytes d)
    go (Ok tt) = (kept_inside d, refl)
    go (Err e) =
        let o = e.valid_up_to in
        let l = kept_inside (take o d) in
        let m : length (take o d) ≡ min o (length d) = length-take o d in
        (omega arith, take-take (kept_of (take o d)).bytes o d (omega arith))
