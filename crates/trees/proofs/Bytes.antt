-- The bytes of a sound document's forest are those of the document from its first item on: those of the item at a place, and then what is
-- left at the item's end, are what is left at the place.
use mathlib.Core.Path.{◌≡◌, refl, sym, ap, ◌∙◌}
use mathlib.Core.Bool.{Bool, true, false}
use mathlib.Core.List.{List, [], ◌∷◌, ◌++◌, append_assoc, append-nil}
use mathlib.Core.Logic.{inl, inr}
use Prim.Native.Nat.{ℕ, zero, suc, ◌+◌, ◌-◌, ◌≤◌, ◌<◌}
use native.Mathlib.Omega.{arith}
use lib.ListN.{length, drop, take-append-drop}
use lib.Seq.{drop-drop}
use Rattle.std.specs.Prelude.{Ok}
use Rattle.xml.specs.Forest.{Forest, nil, other, elem, render}
use Rattle.items.specs.Item.{item_at}
use Rattle.items.specs.Inside.{Inside}
use Rattle.tags.specs.declared.Item.{Item}
use Rattle.tags.specs.declared.Item.TheVariants.{Declaration, Instruction, Comment, Section, Reference, Text, Start, Finish}
use Rattle.tags.specs.declared.Item.TheVariants.{Doctype, Malformed, TooLarge, Nothing}
use Rattle.items.proofs.Insides.{item_inside}
use Rattle.document.specs.Place.{Opened, placement, after_item, end_of}
use Rattle.document.specs.Judge.{start_of, nothing, scanned}
use Rattle.document.specs.declared.Placement.TheVariants.{Fine, Over}
use Rattle.trees.specs.Grown.{Token, start, finish, aside, part, tag_of, started, item_tokens, tokens_from, tokens_of, forest_of, tokens}
use Rattle.trees.proofs.Passes.{Passes, scan_passes, over_fine, over_nothing}
use Rattle.trees.proofs.Nested.{sound_tokens}
use Rattle.trees.proofs.Over.{nothing_left}

-- ---- the bytes of tokens, one after the other

abbrev pub spelled : List Token → List ℕ
spelled [] = []
spelled (start t ∷ ts) = t.head ++ (t.tail ++ spelled ts)
spelled (finish raw ∷ ts) = raw ++ spelled ts
spelled (aside raw ∷ ts) = raw ++ spelled ts

pub tokens-spelled : (f : Forest) (ts : List Token) → spelled (tokens f ts) ≡ render f ++ spelled ts
tokens-spelled nil ts = refl
tokens-spelled (other raw rest) ts = rw (tokens-spelled rest ts) (simp append_assoc)
tokens-spelled (elem t kids close rest) ts =
    rw (tokens-spelled kids (finish close ∷ tokens rest ts), tokens-spelled rest ts) (simp append_assoc)

-- ---- those of an item

part_left : (d : List ℕ) (a e : ℕ) → a ≤ e → part d a e ++ drop e d ≡ drop a d
part_left d a e l =
    let z : a + (e - a) ≡ e = omega arith in
    ap (λ (r : List ℕ). part d a e ++ r) (ap (λ (k : ℕ). drop k d) (sym z) ∙ sym (drop-drop (e - a) a d))
    ∙ take-append-drop (e - a) (drop a d)

item_left : (d : List ℕ) (at e : ℕ) (ts : List Token) → at < e → spelled ts ≡ drop e d → part d at e ++ spelled ts ≡ drop at d
item_left d at e ts l h = ap (λ (r : List ℕ). part d at e ++ r) h ∙ part_left d at e (omega arith)

tag_left : (d : List ℕ) (at n h e : ℕ) (m : Bool) (ts : List Token) → at ≤ h → h < e → spelled ts ≡ drop e d
    → spelled (started m (tag_of d at n h e) ts) ≡ drop at d
tag_left d at n h e true ts l k q = ap (λ (r : List ℕ). part d at h ++ r) (item_left d h e ts k q) ∙ part_left d at h l
tag_left d at n h e false ts l k q = ap (λ (r : List ℕ). part d at h ++ r) (item_left d h e ts k q) ∙ part_left d at h l

item_spelled : (d : List ℕ) (at : ℕ) (i : Item) (s : Opened) (ts : List Token) → Inside d at i → placement d at i s ≡ Fine
    → spelled ts ≡ drop (end_of at i) d → spelled (item_tokens d at i ts) ≡ drop at d
item_spelled d at (Declaration e) s ts h q r = item_left d at e ts h.0 r
item_spelled d at (Instruction e) s ts h q r = item_left d at e ts h.0 r
item_spelled d at (Comment e) s ts h q r = item_left d at e ts h.0 r
item_spelled d at (Section e) s ts h q r = item_left d at e ts h.0 r
item_spelled d at (Reference n e) s ts h q r = item_left d at e ts h.0 r
item_spelled d at (Text e) s ts h q r = item_left d at e ts h.0 r
item_spelled d at (Start n k e m t) s ts h q r =
    tag_left d at n k e m ts (let z = h.0 in omega arith) h.1 r
item_spelled d at (Finish n e) s ts h q r = item_left d at e ts (let z = h.0 in omega arith) r
item_spelled d at Doctype s ts h q r = cc
item_spelled d at Malformed s ts h q r = cc
item_spelled d at TooLarge s ts h q r = cc
item_spelled d at Nothing s ts h q r = over_fine s q

-- ---- those of the document

over_spelled : (d : List ℕ) (at : ℕ) (first : Bool) (s : Opened) (ts : List Token) → placement d at (item_at first d at) s ≡ Over
    → spelled (item_tokens d at (item_at first d at) ts) ≡ drop at d
over_spelled d at first s ts q =
    let z = over_nothing d at (item_at first d at) s q in
    rw z (sym (nothing_left d at first z))

pub passes_spelled : (k : ℕ) (d : List ℕ) (at : ℕ) (first : Bool) (s : Opened) → Passes k d at first s
    → spelled (tokens_from k d at first) ≡ drop at d
unfolding tokens_from
passes_spelled zero d at first s h = absurd h
passes_spelled (suc k) d at first s (inl q) = over_spelled d at first s _ q
passes_spelled (suc k) d at first s (inr (q, h)) =
    let i = item_at first d at in
    item_spelled d at i s _ (item_inside first d at) q (passes_spelled k d (end_of at i) false (after_item d at i s) h)

pub forest_bytes : (d : List ℕ) → scanned d ≡ Ok tt → render (forest_of d) ≡ drop (start_of d) d
unfolding scanned tokens_of
forest_bytes d e =
    let n = suc (length d) in
    sym (append-nil (render (forest_of d)))
    ∙ sym (tokens-spelled (forest_of d) [])
    ∙ ap spelled (sound_tokens d e)
    ∙ passes_spelled n d (start_of d) true nothing (scan_passes n d (start_of d) true nothing e)
