-- A scan that finds no fault, item by item: from each place on, the item there may stand there and the scan passes from its end on, or the
-- items are over. Then what is known of the last: nothing is left of the document, and nothing is open.
use mathlib.Core.Path.{◌≡◌, refl}
use mathlib.Core.Bool.{Bool, true, false, cond, not, ◌&&◌, ◌||◌, false≢true}
use mathlib.Core.List.{List, [], ◌∷◌}
use mathlib.Core.Logic.{◌⊎◌, inl, inr}
use Prim.Native.Nat.{ℕ, zero, suc, ◌+◌}
use lib.Dec.{leb}
use lib.ListN.{length}
use Rattle.std.specs.Prelude.{Result, Ok, Err, ⊤}
use Rattle.tags.specs.Kept.{name_from}
use Rattle.items.specs.Item.{item_at}
use Rattle.tags.specs.declared.Item.{Item}
use Rattle.tags.specs.declared.Item.TheVariants.{Declaration, Instruction, Comment, Section, Reference, Text, Start, Finish}
use Rattle.tags.specs.declared.Item.TheVariants.{Doctype, Malformed, TooLarge, Nothing}
use Rattle.document.specs.Place.{Opened, some, inside, outside, formed, blank, closes, over_placement, placement, after_item, end_of}
use Rattle.document.specs.Judge.{onward, scan_from}
use Rattle.document.specs.declared.Placement.{Placement}
use Rattle.document.specs.declared.Placement.TheVariants.{Fine, Fault, Over}
use Rattle.document.specs.declared.Why.{Why}
use Rattle.document.specs.declared.Why.TheVariants.{Malformed as NotFormed}
use Rattle.document.specs.declared.DocumentError.{DocumentError}
use Rattle.document.specs.declared.DocumentError.TheVariants.{At}

abbrev pub Passes : ℕ → List ℕ → ℕ → Bool → Opened → Type 0
Passes zero d at first s = ⊥
Passes (suc k) d at first s =
    let i = item_at first d at in
    (placement d at i s ≡ Over) ⊎ ((placement d at i s ≡ Fine) × Passes k d (end_of at i) false (after_item d at i s))

fault_sound : {A : Type 0} (why : Why) (at : ℕ) → ◌≡◌ {A = Result ⊤ DocumentError} (Err (At why at)) (Ok tt) → A
fault_sound why at e = absurd (false≢true cc)

pub scan_passes : (k : ℕ) (d : List ℕ) (at : ℕ) (first : Bool) (s : Opened) → scan_from k d at first s ≡ Ok tt → Passes k d at first s
unfolding scan_from
scan_passes zero d at first s e = fault_sound _ at e
scan_passes (suc k) d at first s e =
    let i = item_at first d at in
    go (placement d at i s) refl e (scan_passes k d (end_of at i) false (after_item d at i s))
  where
    go : {next : Result ⊤ DocumentError} {Rest : Type 0} (p : Placement) {q : Placement} → q ≡ p → onward p at next ≡ Ok tt
        → (next ≡ Ok tt → Rest)
        → (q ≡ Over) ⊎ ((q ≡ Fine) × Rest)
    go Fine q e r = inr (q, r e)
    go (Fault why) q e r = fault_sound why at e
    go Over q e r = inl q

-- ---- the items are over: `Fine` is not said of that, and `Over` of nothing else

pub over_fine : {A : Type 0} (s : Opened) → over_placement s ≡ Fine → A
over_fine s = go (s.rooted && outside s)
  where
    go : {A : Type 0} (b : Bool) → cond b Over (Fault NotFormed) ≡ Fine → A
    go true e = absurd (false≢true cc)
    go false e = absurd (false≢true cc)

formed_over : {A : Type 0} (b : Bool) → formed b ≡ Over → A
formed_over true e = absurd (false≢true cc)
formed_over false e = absurd (false≢true cc)

start_over : {A : Type 0} (b c : Bool) (why : Why) → cond b (Fault why) (formed c) ≡ Over → A
start_over true c why e = absurd (false≢true cc)
start_over false c why e = formed_over c e

pub over_nothing : (d : List ℕ) (at : ℕ) (i : Item) (s : Opened) → placement d at i s ≡ Over → i ≡ Nothing
over_nothing d at (Declaration e) s q = cc
over_nothing d at (Instruction e) s q = cc
over_nothing d at (Comment e) s q = cc
over_nothing d at (Section e) s q = formed_over (inside s) q
over_nothing d at (Reference n e) s q = formed_over (inside s) q
over_nothing d at (Text e) s q = formed_over (inside s || blank d at e) q
over_nothing d at (Start n h e m t) s q = start_over (leb 64 (length s.names)) (not (t || (s.rooted && outside s))) _ q
over_nothing d at (Finish n e) s q = formed_over (closes (name_from d (at + 2) n) s.names) q
over_nothing d at Doctype s q = cc
over_nothing d at Malformed s q = cc
over_nothing d at TooLarge s q = cc
over_nothing d at Nothing s q = refl

pub over_closed : (d : List ℕ) (at : ℕ) (s : Opened) → placement d at Nothing s ≡ Over → s.names ≡ []
over_closed d at s = go s.names s.rooted
  where
    go : (ns : List (List ℕ)) (r : Bool) → cond (r && not (some ns)) Over (Fault NotFormed) ≡ Over → ns ≡ []
    go [] r e = refl
    go (n ∷ ns) true e = cc
    go (n ∷ ns) false e = cc
