-- Nothing else is kept: two that keep as document 02 says keep the same. In order: of two places that are reached one is reached from the
-- other; nothing is reached past where keeping ends; `keeps_only`.
use mathlib.Core.Path.{◌≡◌, refl, sym, ap, ◌∙◌}
use mathlib.Core.Bool.{Bool, true, false, false≢true}
use mathlib.Core.List.{List}
use mathlib.Core.Logic.{◌⊎◌, inl, inr}
use Prim.Native.Nat.{ℕ, ◌<◌}
use native.Mathlib.Omega.{arith}
use lib.ListN.{drop}
use Rattle.readers.specs.Meaning.{Chars}
use Rattle.tags.specs.declared.Item.{Item}
use Rattle.tags.specs.declared.Item.TheVariants.{Nothing}
use Rattle.items.specs.Item.{kind_of, item_at}
use Rattle.items.specs.Meaning.{ItemSays}
use Rattle.items.proofs.Insides.{item_inside}
use Rattle.items.proofs.Meaning.{item_only}
use Rattle.document.specs.Place.{Opened, placement}
use Rattle.document.specs.Judge.{start_of, nothing}
use Rattle.document.specs.declared.Placement.{Placement}
use Rattle.document.specs.declared.Placement.TheVariants.{Fine, Fault, Over}
use Rattle.document.proofs.Judging.{fine_ahead}
use Rattle.demands.specs.Position.{PlaceSays}
use Rattle.demands.proofs.First.{start_chars}
use Rattle.demands.proofs.Position.{place_only}
use Rattle.mend.specs.Kept.{Kept, kept_of}
use Rattle.mended.specs.Meaning.{Ends, fault, over, half, Keeps}
use Rattle.mended.proofs.Reaching.{Reaches, here, next, told_reaches, reaches_chars}
use Rattle.mended.proofs.Told.{reaches_ahead, Past, reaches_split, kept_keeps}

-- ---- one of two places is reached from the other

reaches_order : {d : List ℕ} {at o o' : ℕ} {first last last' : Bool} {s t t' : Opened} → Reaches d at first s o last t
    → Reaches d at first s o' last' t' → Reaches d o last t o' last' t' ⊎ Reaches d o' last' t' o last t
reaches_order here r' = inl r'
reaches_order {d} {o = o} {last = last} {t = t} (next {at = at} {first = first} {s = s} p r) r' =
    go (reaches_split r') (λ y. reaches_order r y.rest)
  where
    go : {o' : ℕ} {last' : Bool} {t' : Opened} → ((at ≡ o') × (first ≡ last') × (s ≡ t')) ⊎ Past d at first s o' last' t'
        → (Past d at first s o' last' t' → Reaches d o last t o' last' t' ⊎ Reaches d o' last' t' o last t)
        → Reaches d o last t o' last' t' ⊎ Reaches d o' last' t' o last t
    go (inl (a, b, c)) f = inr (rw (← a, ← b, ← c) (next p r))
    go (inr y) f = f y

-- ---- nothing is reached past where keeping ends

past_ahead : {d : List ℕ} {at o : ℕ} {first last : Bool} {s t : Opened} → Past d at first s o last t → at < o
past_ahead {d} {at} {first = first} {s = s} x =
    let a = (fine_ahead d at (item_at first d at) s (item_inside first d at) x.fine).0 in
    let c = reaches_ahead x.rest in
    omega arith

abbrev is_fine : Placement → Bool
is_fine Fine = true
is_fine (Fault why) = false
is_fine Over = false

module _ (d : List ℕ) (c : Chars d) (k k' : Kept) (x : Keeps d k) (y : Keeps d k') where
  places : Reaches d (start_of d) true nothing k.bytes x.last k.opened
  places = told_reaches x.reached (start_chars d c)

  -- what is said of the item at the end is what is computed
  said_not : (p : Placement) → is_fine p ≡ false → (i : Item) → ItemSays x.last d k.bytes i
      → PlaceSays d k.bytes k.opened i p → placement d k.bytes (item_at x.last d k.bytes) k.opened ≡ Fine → ⊥
  said_not p q i s m f =
      let o = k.bytes in
      let e = item_only x.last d o (reaches_chars places (start_chars d c)) i s in
      let z = place_only d o k.opened (kind_of x.last (drop o d)) i s (rw e (item_inside x.last d o)) p m in
      let g : placement d o i k.opened ≡ Fine = rw e f in
      false≢true (sym q ∙ ap is_fine (sym z ∙ g))

  not_past : Past d k.bytes x.last k.opened k'.bytes y.last k'.opened → ⊥
  not_past z = go x.ends
    where
      go : Ends d k x.last → ⊥
      go (fault w i s m) = said_not (Fault w) refl i s m z.fine
      go (over s m) = said_not Over refl Nothing s m z.fine
      go (half t w) =
          let a = past_ahead z in
          let b = y.clear k.bytes x.last k.opened x.reached t w in
          omega arith

  ends_there : Reaches d k.bytes x.last k.opened k'.bytes y.last k'.opened
      → (k.bytes ≡ k'.bytes) × (k.opened ≡ k'.opened)
  ends_there r = go (reaches_split r)
    where
      go : ((k.bytes ≡ k'.bytes) × (x.last ≡ y.last) × (k.opened ≡ k'.opened))
          ⊎ Past d k.bytes x.last k.opened k'.bytes y.last k'.opened → (k.bytes ≡ k'.bytes) × (k.opened ≡ k'.opened)
      go (inl (a, b, e)) = (a, e)
      go (inr z) = absurd (not_past z)

-- ---- the theorem

kept_of_lem : {a b : ℕ} {s t : Opened} → a ≡ b → s ≡ t
    → ◌≡◌ {A = Kept} (record { bytes = a; opened = s }) (record { bytes = b; opened = t })
kept_of_lem p q = rw (p, q) refl

same_kept : (k k' : Kept) → (k.bytes ≡ k'.bytes) × (k.opened ≡ k'.opened) → k ≡ k'
same_kept k k' (p, q) = kept_of_lem p q

pub keeps_same : (d : List ℕ) → Chars d → (k k' : Kept) → Keeps d k → Keeps d k' → k ≡ k'
keeps_same d c k k' x y = go (reaches_order (places d c k k' x y) (places d c k' k y x))
  where
    go : Reaches d k.bytes x.last k.opened k'.bytes y.last k'.opened
        ⊎ Reaches d k'.bytes y.last k'.opened k.bytes x.last k.opened → k ≡ k'
    go (inl r) = same_kept k k' (ends_there d c k k' x y r)
    go (inr r) = sym (same_kept k' k (ends_there d c k' k y x r))

pub keeps_only : (d : List ℕ) → Chars d → (k : Kept) → Keeps d k → k ≡ kept_of d
keeps_only d c k x = keeps_same d c k (kept_of d) x (kept_keeps d c)
