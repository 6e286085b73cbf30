-- How far the items of a document stand in their places, computed: `Reaches` of the crate demands, with the item that is read and what is
-- said of its place as equations. Of characters the two are the same, `reaches_told` and `told_reaches`.
use mathlib.Core.Path.{◌≡◌, sym}
use mathlib.Core.Bool.{Bool, false}
use mathlib.Core.List.{List}
use Prim.Native.Nat.{ℕ}
use lib.ListN.{drop}
use Rattle.readers.specs.Meaning.{Chars}
use Rattle.items.specs.Item.{kind_of, item_at}
use Rattle.items.proofs.Insides.{item_inside}
use Rattle.items.proofs.Meaning.{item_says, item_only}
use Rattle.document.specs.Place.{Opened, placement, after_item, end_of}
use Rattle.document.specs.declared.Placement.TheVariants.{Fine}
use Rattle.demands.specs.Reached as demands
use Rattle.demands.proofs.Position.{place_says, place_only}
use Rattle.demands.proofs.Faults.{item_chars}

pub data Reaches (d : List ℕ) : ℕ → Bool → Opened → ℕ → Bool → Opened → Type 0 where
  here : {at : ℕ} {first : Bool} {s : Opened} → Reaches d at first s at first s
  next : {at : ℕ} {first : Bool} {s : Opened} {o : ℕ} {last : Bool} {t : Opened} → placement d at (item_at first d at) s ≡ Fine
      → Reaches d (end_of at (item_at first d at)) false (after_item d at (item_at first d at) s) o last t → Reaches d at first s o last t

-- what follows an item that stands in its place is characters
pub next_chars : (d : List ℕ) (at : ℕ) (first : Bool) (s : Opened) → Chars (drop at d) → placement d at (item_at first d at) s ≡ Fine
    → Chars (drop (end_of at (item_at first d at)) d)
next_chars d at first s c p = item_chars d at (kind_of first (drop at d)) (item_at first d at) s (item_says first d at c) c p

pub reaches_told : {d : List ℕ} {at o : ℕ} {first last : Bool} {s t : Opened} → Reaches d at first s o last t → Chars (drop at d)
    → demands.Reaches d at first s o last t
reaches_told here c = demands.here
reaches_told {d} (next {at = at} {first = first} {s = s} p r) c =
    let i = item_at first d at in
    let x = item_says first d at c in
    demands.next i x (rw p at (place_says d at s (kind_of first (drop at d)) i x (item_inside first d at)))
    (reaches_told r (next_chars d at first s c p))

pub told_reaches : {d : List ℕ} {at o : ℕ} {first last : Bool} {s t : Opened} → demands.Reaches d at first s o last t → Chars (drop at d)
    → Reaches d at first s o last t
told_reaches demands.here c = here
told_reaches {d} (demands.next {at = at} {first = first} {s = s} i x y r) c =
    let e = item_only first d at c i x in
    let p = place_only d at s (kind_of first (drop at d)) i x (rw e (item_inside first d at)) Fine y in
    let q : placement d at (item_at first d at) s ≡ Fine = rw e at p in
    next q (rw e at (told_reaches r (rw (sym e) at (next_chars d at first s c q))))

-- what is reached is characters too
pub reaches_chars : {d : List ℕ} {at o : ℕ} {first last : Bool} {s t : Opened} → Reaches d at first s o last t → Chars (drop at d)
    → Chars (drop o d)
reaches_chars here c = c
reaches_chars {d} (next {at = at} {first = first} {s = s} p r) c = reaches_chars r (next_chars d at first s c p)
