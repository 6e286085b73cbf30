-- The tokens of a sound document close all levels that they open, and no more: so they are those of its forest.
use mathlib.Core.Path.{◌≡◌}
use mathlib.Core.Bool.{Bool, true, false}
use mathlib.Core.List.{List, [], ◌∷◌}
use mathlib.Core.Logic.{inl, inr}
use Prim.Native.Nat.{ℕ, zero, suc, ◌+◌}
use lib.ListN.{length}
use Rattle.std.specs.Prelude.{Ok}
use Rattle.xml.specs.Forest.{Tag}
use Rattle.tags.specs.Kept.{name_from}
use Rattle.items.specs.Item.{item_at}
use Rattle.tags.specs.declared.Item.{Item}
use Rattle.tags.specs.declared.Item.TheVariants.{Declaration, Instruction, Comment, Section, Reference, Text, Start, Finish}
use Rattle.tags.specs.declared.Item.TheVariants.{Doctype, Malformed, TooLarge, Nothing}
use Rattle.document.specs.Place.{Opened, opens, closes, closed, formed, placement, after_item, end_of}
use Rattle.document.specs.Judge.{start_of, nothing, scanned}
use Rattle.document.specs.declared.Placement.TheVariants.{Fine, Over}
use Rattle.trees.specs.Grown.{Token, finish, part, tag_of, started, item_tokens, tokens_from, tokens_of, forest_of, tokens}
use Rattle.trees.proofs.Grown.{nested, grown_tokens}
use Rattle.trees.proofs.Passes.{Passes, scan_passes, over_fine, over_nothing, over_closed}

-- ---- an item that may stand where it stands

started-nested : (m : Bool) (t : Tag) (n : List ℕ) (ns : List (List ℕ)) (ts : List Token) → nested (length (opens m n ns)) ts ≡ true
    → nested (length ns) (started m t ts) ≡ true
started-nested true t n ns ts h = h
started-nested false t n ns ts h = h

finish-nested : (n raw : List ℕ) (ns : List (List ℕ)) (ts : List Token) → formed (closes n ns) ≡ Fine
    → nested (length (closed ns)) ts ≡ true → nested (length ns) (finish raw ∷ ts) ≡ true
finish-nested n raw [] ts q h = cc
finish-nested n raw (m ∷ ns) ts q h = h

item_nested : (d : List ℕ) (at : ℕ) (i : Item) (s : Opened) (ts : List Token) → placement d at i s ≡ Fine
    → nested (length (after_item d at i s).names) ts ≡ true → nested (length s.names) (item_tokens d at i ts) ≡ true
item_nested d at (Declaration e) s ts q h = h
item_nested d at (Instruction e) s ts q h = h
item_nested d at (Comment e) s ts q h = h
item_nested d at (Section e) s ts q h = h
item_nested d at (Reference n e) s ts q h = h
item_nested d at (Text e) s ts q h = h
item_nested d at (Start n k e m t) s ts q h = started-nested m (tag_of d at n k e) (name_from d (at + 1) n) s.names ts h
item_nested d at (Finish n e) s ts q h = finish-nested (name_from d (at + 2) n) (part d at e) s.names ts q h
item_nested d at Doctype s ts q h = cc
item_nested d at Malformed s ts q h = cc
item_nested d at TooLarge s ts q h = cc
item_nested d at Nothing s ts q h = over_fine s q

-- ---- the document

over_nested : (d : List ℕ) (at : ℕ) (i : Item) (s : Opened) (ts : List Token) → placement d at i s ≡ Over
    → nested (length s.names) (item_tokens d at i ts) ≡ true
over_nested d at i s ts q =
    let z = over_nothing d at i s q in
    let y = over_closed d at s (rw z at q) in
    rw (z, y)

pub passes_nested : (k : ℕ) (d : List ℕ) (at : ℕ) (first : Bool) (s : Opened) → Passes k d at first s
    → nested (length s.names) (tokens_from k d at first) ≡ true
unfolding tokens_from
passes_nested zero d at first s h = absurd h
passes_nested (suc k) d at first s (inl q) = over_nested d at (item_at first d at) s _ q
passes_nested (suc k) d at first s (inr (q, h)) =
    let i = item_at first d at in
    item_nested d at i s _ q (passes_nested k d (end_of at i) false (after_item d at i s) h)

pub sound_nested : (d : List ℕ) → scanned d ≡ Ok tt → nested 0 (tokens_of d) ≡ true
unfolding scanned tokens_of
sound_nested d e = passes_nested (suc (length d)) d (start_of d) true nothing (scan_passes (suc (length d)) d (start_of d) true nothing e)

pub sound_tokens : (d : List ℕ) → scanned d ≡ Ok tt → tokens (forest_of d) [] ≡ tokens_of d
unfolding forest_of
sound_tokens d e = grown_tokens (tokens_of d) (sound_nested d e)
