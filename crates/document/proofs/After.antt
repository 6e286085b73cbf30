-- After an item that may stand where it stands: its name's place and length are kept at the level reached, and what is open then is what
-- the definitions say. In order: the names below a level are as they were; a start tag has a level left; what is open; the places are
-- inside the document.
use mathlib.Core.Path.{◌≡◌, refl, ap, ap₂, ◌∙◌}
use mathlib.Core.Bool.{Bool, true, false, cond, not, ◌&&◌, ◌||◌}
use mathlib.Core.List.{List, ◌∷◌}
use mathlib.Core.Logic.{⊎_elim}
use Prim.Native.Nat.{ℕ, zero, suc, ◌+◌, ◌-◌, ◌≤◌, ◌<◌}
use native.Mathlib.Nat.{eq-or-lt_of_le}
use native.Mathlib.Numerals.{add-one}
use native.Mathlib.Omega.{arith}
use borrow.Author.Tests.{leb-false}
use lib.Dec.{leb}
use lib.ListN.{length, get_or, set, length-set}
use lib.Seq.{get_or-set_same, get_or-set_other}
use Rattle.tags.specs.Kept.{name_from}
use Rattle.tags.specs.declared.Item.{Item}
use Rattle.tags.specs.declared.Item.TheVariants.{Declaration, Instruction, Comment, Section, Reference, Text, Start, Finish}
use Rattle.tags.specs.declared.Item.TheVariants.{Doctype, Malformed, TooLarge, Nothing}
use Rattle.items.specs.Inside.{Inside}
use Rattle.document.specs.Place.{Opened, formed, outside, closed, opens, placement, start_placement, after_item}
use Rattle.document.specs.Levels.{names_of, opened_of, Names, deeper, open_after, len_of}
use Rattle.document.specs.declared.Open.{Open}
use Rattle.document.specs.declared.Placement.{Placement}
use Rattle.document.specs.declared.Placement.TheVariants.{Fine, Fault}
use Rattle.document.specs.declared.Why.TheVariants.{TooLarge as OverSize}
use Rattle.document.proofs.Placing.{names_long}

-- ---- names below a level

below_set : (xs : List ℕ) (l v k : ℕ) → k < l → get_or (set xs l v) k 0 ≡ get_or xs k 0
below_set xs l v k g = get_or-set_other xs l k v 0 (λ q. omega arith)

module _ (d starts lens : List ℕ) (l a n : ℕ) where
  names_set : (k : ℕ) → k ≤ l → names_of d (set starts l a) (set lens l n) k ≡ names_of d starts lens k
  names_set zero g = refl
  names_set (suc k) g =
      ap₂ (λ (m : List ℕ) (ms : List (List ℕ)). m ∷ ms)
      (ap₂ (name_from d) (below_set starts l a k (omega arith)) (below_set lens l n k (omega arith)))
      (names_set k (omega arith))

names_closed : (d starts lens : List ℕ) (l : ℕ) → names_of d starts lens (l - 1) ≡ closed (names_of d starts lens l)
names_closed d starts lens zero = refl
names_closed d starts lens (suc l) =
    let z : suc l - 1 ≡ l = omega arith in
    ap (names_of d starts lens) z

-- ---- a start tag that may stand there has a level left

not_over : (b : Bool) (p : Placement) → cond b (Fault OverSize) p ≡ Fine → b ≡ false
not_over true p q = cc
not_over false p q = refl

pub start_room : (d starts lens : List ℕ) (o : Open) (t : Bool) → start_placement t (opened_of d starts lens o) ≡ Fine → o.level.0 < 64
start_room d starts lens o t f =
    let open_now = opened_of d starts lens o in
    let z = not_over (leb 64 (length open_now.names)) (formed (not (t || (o.rooted && outside open_now)))) f in
    rw (names_long d starts lens o.level.0) at (leb-false 64 (length open_now.names) z)

-- ---- what is open after an item

abbrev with_names : Bool → List (List ℕ) → Opened
with_names r ns = record { names = ns; rooted = r }

module _ {d starts lens : List ℕ} {o : Open} (s : Names d starts lens o) (at : ℕ) where
  same_names : (n : ℕ) → names_of d (set starts o.level.0 (at + 1)) (set lens o.level.0 n) o.level.0
      ≡ names_of d starts lens o.level.0
  same_names n = names_set d starts lens o.level.0 (at + 1) n o.level.0 (omega arith)

  one_more : (n : ℕ) → o.level.0 < 64 → names_of d (set starts o.level.0 (at + 1)) (set lens o.level.0 n) (o.level.0 + 1)
      ≡ name_from d (at + 1) n ∷ names_of d starts lens o.level.0
  one_more n l =
      let z = s.starts_long in
      let y = s.lens_long in
      rw (add-one o.level.0)
      (ap₂ (λ (m : List ℕ) (ms : List (List ℕ)). m ∷ ms)
      (ap₂ (name_from d)
      (get_or-set_same starts o.level.0 (at + 1) 0 (omega arith)) (get_or-set_same lens o.level.0 n 0 (omega arith)))
      (same_names n))

  start_names : (m : Bool) (n : ℕ) → o.level.0 < 64
      → names_of d (set starts o.level.0 (at + 1)) (set lens o.level.0 n) (deeper m o.level.0)
      ≡ opens m (name_from d (at + 1) n) (names_of d starts lens o.level.0)
  start_names true n l = same_names n
  start_names false n l = one_more n l

  pub opened_after : (i : Item) → placement d at i (opened_of d starts lens o) ≡ Fine
      → opened_of d (set starts o.level.0 (at + 1)) (set lens o.level.0 (len_of i)) (open_after i o)
      ≡ after_item d at i (opened_of d starts lens o)
  opened_after (Declaration e) f = ap (with_names o.rooted) (same_names 0)
  opened_after (Instruction e) f = ap (with_names o.rooted) (same_names 0)
  opened_after (Comment e) f = ap (with_names o.rooted) (same_names 0)
  opened_after (Section e) f = ap (with_names o.rooted) (same_names 0)
  opened_after (Reference n e) f = ap (with_names o.rooted) (same_names 0)
  opened_after (Text e) f = ap (with_names o.rooted) (same_names 0)
  opened_after (Start n h e m t) f = ap (with_names true) (start_names m n (start_room d starts lens o t f))
  opened_after (Finish n e) f =
      ap (with_names o.rooted)
      (names_set d starts lens o.level.0 (at + 1) 0 (o.level.0 - 1) (omega arith) ∙ names_closed d starts lens o.level.0)
  opened_after Doctype f = ap (with_names o.rooted) (same_names 0)
  opened_after Malformed f = ap (with_names o.rooted) (same_names 0)
  opened_after TooLarge f = ap (with_names o.rooted) (same_names 0)
  opened_after Nothing f = ap (with_names o.rooted) (same_names 0)

-- ---- the places are inside the document

module _ {d starts lens : List ℕ} {o : Open} (s : Names d starts lens o) (at : ℕ) where
  long_set : (xs : List ℕ) (v : ℕ) → length xs ≡ 64 → length (set xs o.level.0 v) ≡ 64
  long_set xs v e = length-set xs o.level.0 v ∙ e

  inside_below : (n k : ℕ) → k < o.level.0
      → get_or (set starts o.level.0 (at + 1)) k 0 + get_or (set lens o.level.0 n) k 0 ≤ length d
  inside_below n k g =
      rw (below_set starts o.level.0 (at + 1) k g, below_set lens o.level.0 n k g)
      (s.inside k g)

  -- at no deeper level
  names_kept : (n : ℕ) (p : Open) → p.level.0 ≤ o.level.0
      → Names d (set starts o.level.0 (at + 1)) (set lens o.level.0 n) p
  names_kept n p l =
      record {
        deep = let z = s.deep in omega arith;
        starts_long = long_set starts (at + 1) s.starts_long;
        lens_long = long_set lens n s.lens_long;
        inside = λ k g. inside_below n k (omega arith);
      }

  -- one level deeper
  names_more : (n : ℕ) (p : Open) → p.level.0 ≡ o.level.0 + 1 → o.level.0 < 64 → at + 1 + n ≤ length d
      → Names d (set starts o.level.0 (at + 1)) (set lens o.level.0 n) p
  names_more n p q l h =
      record {
        deep = omega arith;
        starts_long = long_set starts (at + 1) s.starts_long;
        lens_long = long_set lens n s.lens_long;
        inside = λ k g. ⊎_elim (here k) (λ z. inside_below n k z) (eq-or-lt_of_le (below k g));
      }
    where
      below : (k : ℕ) → k < p.level.0 → k ≤ o.level.0
      below k g = omega arith

      here : (k : ℕ) → k ≡ o.level.0
          → get_or (set starts o.level.0 (at + 1)) k 0 + get_or (set lens o.level.0 n) k 0 ≤ length d
      here k e =
          let z = s.starts_long in
          let y = s.lens_long in
          rw (
            e,
            get_or-set_same starts o.level.0 (at + 1) 0 (omega arith),
            get_or-set_same lens o.level.0 n 0 (omega arith),
          )
          h

  start_inside : (m : Bool) (n : ℕ) → o.level.0 < 64 → at + 1 + n ≤ length d
      → Names d (set starts o.level.0 (at + 1)) (set lens o.level.0 n)
      (record { level = record { 0 = deeper m o.level.0 }; rooted = true })
  start_inside true n l h = names_kept n _ (omega arith)
  start_inside false n l h = names_more n _ refl l h

  pub names_after : (i : Item) → Inside d at i → placement d at i (opened_of d starts lens o) ≡ Fine
      → Names d (set starts o.level.0 (at + 1)) (set lens o.level.0 (len_of i)) (open_after i o)
  names_after (Declaration e) h f = names_kept 0 o (omega arith)
  names_after (Instruction e) h f = names_kept 0 o (omega arith)
  names_after (Comment e) h f = names_kept 0 o (omega arith)
  names_after (Section e) h f = names_kept 0 o (omega arith)
  names_after (Reference n e) h f = names_kept 0 o (omega arith)
  names_after (Text e) h f = names_kept 0 o (omega arith)
  names_after (Start n k e m t) h f = start_inside m n (start_room d starts lens o t f) (omega arith)
  names_after (Finish n e) h f = names_kept 0 _ (omega arith)
  names_after Doctype h f = names_kept 0 o (omega arith)
  names_after Malformed h f = names_kept 0 o (omega arith)
  names_after TooLarge h f = names_kept 0 o (omega arith)
  names_after Nothing h f = names_kept 0 o (omega arith)
