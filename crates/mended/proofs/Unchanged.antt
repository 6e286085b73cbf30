-- Document 02: "A sound document comes back unchanged with 0 added". In order: a text that touches the end with an element open is
-- followed by a fault; so a scan without a fault keeps all; the document.
use mathlib.Core.Path.{◌≡◌, refl, sym, ap, ◌∙◌}
use mathlib.Core.Bool.{Bool, true, false, cond, not, ◌&&◌, false≢true}
use mathlib.Core.List.{List, [], append-nil}
use mathlib.Core.Logic.{inl, inr}
use Prim.Native.Nat.{ℕ, zero, suc, ◌≤◌}
use native.Mathlib.Omega.{arith}
use borrow.Author.Tests.{leb-true}
use lib.Dec.{leb}
use lib.ListN.{length, take, drop, length-drop, drop_of_length-le}
use lib.Seq.{take-length}
use Rattle.std.specs.Prelude.{Ok}
use Rattle.xml.proofs.Bools.{and_left, and_right}
use Rattle.std.specs.Prelude.{Result, Ok}
use Rattle.chars.specs.declared.whole.CharError.{CharError}
use Rattle.chars.proofs.Meaning.{check_only}
use Rattle.readers.specs.Meaning.{Chars}
use Rattle.tags.specs.declared.Item.{Item}
use Rattle.tags.specs.declared.Item.TheVariants.{Declaration, Instruction, Comment, Section, Reference, Text, Start, Finish}
use Rattle.tags.specs.declared.Item.TheVariants.{Doctype, Malformed, TooLarge, Nothing}
use Rattle.items.specs.Item.{item_at}
use Rattle.items.proofs.Insides.{item_inside}
use Rattle.document.specs.Place.{Opened, some, inside, placement, after_item, end_of}
use Rattle.document.specs.Judge.{start_of, nothing, scanned, judge_of}
use Rattle.document.specs.declared.Placement.TheVariants.{Fine, Fault, Over}
use Rattle.document.specs.declared.Why.TheVariants.{Malformed as NotFormed}
use Rattle.document.proofs.Judging.{fine_ahead}
use Rattle.trees.proofs.Passes.{Passes, scan_passes, over_fine, over_nothing, over_closed}
use Rattle.trees.proofs.Over.{nothing_left}
use Rattle.demands.proofs.Goes.{over_item}
use Rattle.demands.proofs.First.{start_inside, sound_scanned}
use Rattle.mend.specs.Kept.{cut_at, readable, Kept, halved, kept_by, kept_from, kept_of}
use Rattle.mend.specs.Mended.{bytes_kept, missing, root_kept, tags_added, mended_of}

-- ---- the end of the items

past_item : (d : List ℕ) (at : ℕ) → length d ≤ at → item_at false d at ≡ Nothing
past_item d at l = over_item d at (drop_of_length-le d l)

over_rooted : (d : List ℕ) (at : ℕ) (s : Opened) → placement d at Nothing s ≡ Over → s.rooted ≡ true
over_rooted d at s = go s.rooted (some s.names)
  where
    go : (r b : Bool) → cond (r && not b) Over (Fault NotFormed) ≡ Over → r ≡ true
    go true b e = refl
    go false b e = absurd (false≢true cc)

open_over : (ns : List (List ℕ)) → some ns ≡ true → ns ≡ [] → ⊥
open_over ns p q = false≢true (ap some (sym q) ∙ p)

-- with an element open, no scan passes from the end on
open_fails : (k : ℕ) (d : List ℕ) (e : ℕ) (s : Opened) → length d ≤ e → inside s ≡ true → Passes k d e false s → ⊥
open_fails zero d e s l q h = h
open_fails (suc k) d e s l q (inl p) = open_over s.names q (over_closed d e s (rw (past_item d e l) at p))
open_fails (suc k) d e s l q (inr (p, h)) =
    let z : placement d e Nothing s ≡ Fine = rw (past_item d e l) at p in over_fine s z

pub halved_fails : (k : ℕ) (d : List ℕ) (at : ℕ) (i : Item) (s : Opened) → halved d i s ≡ true
    → Passes k d (end_of at i) false (after_item d at i s) → ⊥
halved_fails k d at (Declaration e) s q h = false≢true q
halved_fails k d at (Instruction e) s q h = false≢true q
halved_fails k d at (Comment e) s q h = false≢true q
halved_fails k d at (Section e) s q h = false≢true q
halved_fails k d at (Reference c e) s q h = false≢true q
halved_fails k d at (Text e) s q h =
    open_fails k d e s (leb-true (length d) e (and_right (inside s) (leb (length d) e) q)) (and_left (inside s) (leb (length d) e) q) h
halved_fails k d at (Start n b e m t) s q h = false≢true q
halved_fails k d at (Finish n e) s q h = false≢true q
halved_fails k d at Doctype s q h = false≢true q
halved_fails k d at Malformed s q h = false≢true q
halved_fails k d at TooLarge s q h = false≢true q
halved_fails k d at Nothing s q h = false≢true q

-- ---- a scan without a fault keeps all

pub record Whole (d : List ℕ) (k : Kept) : Type 0 where
  pub all : k.bytes ≡ length d
  pub closed : k.opened.names ≡ []
  pub rooted : k.opened.rooted ≡ true

pub over_whole : (d : List ℕ) (at : ℕ) (first : Bool) (s : Opened) → at ≤ length d → placement d at (item_at first d at) s ≡ Over
    → Whole d (record { bytes = at; opened = s })
over_whole d at first s l p =
    let z = over_nothing d at (item_at first d at) s p in
    let p' : placement d at Nothing s ≡ Over = rw z at p in
    let e : length (drop at d) ≡ 0 = ap length (nothing_left d at first z) in
    record { all = omega (arith, length-drop at d); closed = over_closed d at s p'; rooted = over_rooted d at s p' }

pub passes_whole : (k : ℕ) (d : List ℕ) (at : ℕ) (first : Bool) (s : Opened) → at ≤ length d → Passes k d at first s
    → Whole d (kept_from k d at first s)
unfolding kept_from
passes_whole zero d at first s l h = absurd h
passes_whole (suc k) d at first s l (inl p) = rw p (over_whole d at first s l p)
passes_whole (suc k) d at first s l (inr (p, h)) =
    let i = item_at first d at in
    let on = passes_whole k d (end_of at i) false (after_item d at i s) (fine_ahead d at i s (item_inside first d at) p).1 h in
    rw p (go (halved d i s) refl on (λ q. halved_fails k d at i s q h))
  where
    go : {on : Kept} (b : Bool) → halved d (item_at first d at) s ≡ b → Whole d on → (halved d (item_at first d at) s ≡ true → ⊥)
        → Whole d (kept_by Fine b (record { bytes = at; opened = s }) on)
    go true q w f = absurd (f q)
    go false q w f = w

-- ---- the document

pub readable_all : (d : List ℕ) → Chars d → readable d ≡ d
unfolding readable
readable_all d c = ap (λ (x : Result Unit CharError). cut_at x d) (sym (check_only d (Ok tt) c))

pub sound_whole : (d : List ℕ) → judge_of d ≡ Ok tt → Whole d (kept_of (readable d))
unfolding kept_of scanned
sound_whole d e =
    let (l, u, c, x) = sound_scanned d e in
    let n = suc (length d) in
    rw (readable_all d c)
    (passes_whole n d (start_of d) true nothing (start_inside d) (scan_passes n d (start_of d) true nothing x))

pub record Unchanged (d : List ℕ) : Type 0 where
  pub same : mended_of d ≡ d
  pub kept : bytes_kept d ≡ length d
  pub added : tags_added d ≡ 0
  pub rooted : root_kept d ≡ true

pub sound_unchanged : (d : List ℕ) → judge_of d ≡ Ok tt → Unchanged d
unfolding mended_of bytes_kept missing tags_added root_kept
sound_unchanged d e =
    let w = sound_whole d e in
    let r = readable_all d (sound_scanned d e).2 in
    record {
      same = rw (w.all, w.closed, r) (append-nil (take (length d) d) ∙ take-length d);
      kept = w.all;
      added = ap length w.closed;
      rooted = w.rooted;
    }
