-- A note is made: what it adds to the text of the notes.
-- `Noted` says it of whatever was made; a count over the log's length says nothing.
use mathlib.Core.Path.{◌≡◌, refl, sym, ap, ◌∙◌}
use mathlib.Core.Bool.{Bool, true, false, cond, false≢true}
use mathlib.Core.List.{List, [], ◌++◌, append_assoc, append-nil}
use mathlib.Core.Logic.{⊎_elim}
use Prim.Native.Nat.{ℕ, zero, suc, ◌+◌, ◌-◌, ◌*◌, ◌≤◌, ◌<◌}
use native.Mathlib.Nat.{eq-or-lt_of_le}
use native.Mathlib.Numerals.{add-one}
use native.Mathlib.Omega.{arith}
use borrow.Author.Rules.{rules}
use borrow.Author.Tests.{ltb-true, ltb-false, eqb-true, eqb-false, lt-ltb, le-ltb, eq-eqb, ne_eqb}
use mir.Syntax.{w64}
use mir.Val.{Fits}
use lib.Dec.{ltb, eqb}
use lib.ListN.{length, get_or, take, drop, set, length-set}
use lib.Seq.{set_out, get_or-set_same, get_or-set_other, drop-drop, take-add}
use Rattle.trees.specs.Grown.{part}
use Rattle.notes.specs.Notes.{word_of, kind_of, from_of, size_of, as_kind, note_text, text_of, Within, count_after, ends_at, joins}
use Rattle.notes.specs.Notes.{count_joined, longer, log_joined, Noted, Stood}

-- ---- `note`

module _ (g : List ℕ) (k w : ℕ) where
  pub note_room : k < length g → k + 1 ≡ count_after g k
  note_room l = rw (lt-ltb k (length g) l)

  pub note_full : length g ≤ k → length g + 1 ≡ count_after g k
  note_full l = rw (le-ltb k (length g) l)

  pub note_out : length g ≤ k → g ≡ set g k w
  note_out l = sym (set_out g k w (omega arith))

  pub note_in : {v : ℕ} → v ≡ w → set g k v ≡ set g k w
  note_in e = rw e

pub ruleset noting = (note_room, note_full, note_out, note_in)

-- ---- `ends_at`

module _ (g : List ℕ) (k at : ℕ) where
  pub ends_none : k ≡ 0 → false ≡ joins g k at
  unfolding joins
  ends_none z = rw (eq-eqb k 0 z)

  pub ends_full : (k ≡ 0 → ⊥) → length g < k → false ≡ joins g k at
  unfolding joins
  ends_full z l = rw (ne_eqb k 0 z, lt-ltb (length g) k l)

  module _ (z : k ≡ 0 → ⊥) (l : k ≤ length g) where
    pub ends_other : (kind_of (get_or g (k - 1) 0) ≡ 0 → ⊥) → false ≡ joins g k at
    unfolding joins
    ends_other q = rw (ne_eqb k 0 z, le-ltb (length g) k l, ne_eqb (kind_of (get_or g (k - 1) 0)) 0 q)

    pub ends_part : kind_of (get_or g (k - 1) 0) ≡ 0 → {a n : ℕ} → a ≡ from_of (get_or g (k - 1) 0) → n ≡ size_of (get_or g (k - 1) 0)
        → eqb (a + n) at ≡ joins g k at
    unfolding joins
    ends_part q ea en = rw (ea, en, ne_eqb k 0 z, le-ltb (length g) k l, eq-eqb (kind_of (get_or g (k - 1) 0)) 0 q)

pub ruleset ending = (ends_none, ends_full, ends_other, ends_part)

-- ---- `extend`

-- what a test that holds says
pub record Joins (g : List ℕ) (k at : ℕ) : Type 0 where
  pub some : 0 < k
  pub room : k ≤ length g
  pub bytes : kind_of (get_or g (k - 1) 0) ≡ 0
  pub ends : from_of (get_or g (k - 1) 0) + size_of (get_or g (k - 1) 0) ≡ at

-- the same of the last note itself
says : (w k n at : ℕ) → cond (eqb k 0) false (cond (ltb n k) false (ends_at w at)) ≡ true
    → (0 < k) × (k ≤ n) × (kind_of w ≡ 0) × (from_of w + size_of w ≡ at)
says w k n at e = first (eqb k 0) refl e
  where
    third : (k ≡ 0 → ⊥) → k ≤ n → (x : Bool) → eqb (kind_of w) 0 ≡ x → cond x (eqb (from_of w + size_of w) at) false ≡ true
        → (0 < k) × (k ≤ n) × (kind_of w ≡ 0) × (from_of w + size_of w ≡ at)
    third z l true q e = (omega arith, l, eqb-true (kind_of w) 0 q, eqb-true (from_of w + size_of w) at e)
    third z l false q e = absurd (false≢true e)

    second : (k ≡ 0 → ⊥) → (x : Bool) → ltb n k ≡ x → cond x false (ends_at w at) ≡ true
        → (0 < k) × (k ≤ n) × (kind_of w ≡ 0) × (from_of w + size_of w ≡ at)
    second z true q e = absurd (false≢true e)
    second z false q e = third z (ltb-false n k q) (eqb (kind_of w) 0) refl e

    first : (x : Bool) → eqb k 0 ≡ x → cond x false (cond (ltb n k) false (ends_at w at)) ≡ true
        → (0 < k) × (k ≤ n) × (kind_of w ≡ 0) × (from_of w + size_of w ≡ at)
    first true q e = absurd (false≢true e)
    first false q e = second (eqb-false k 0 q) (ltb n k) refl e

pub joins_says : (g : List ℕ) (k at : ℕ) → joins g k at ≡ true → Joins g k at
unfolding joins
joins_says g k at e =
    let z = says (get_or g (k - 1) 0) k (length g) at e in
    record { some = z.0; room = z.1; bytes = z.2; ends = z.3 }

module _ (g : List ℕ) (k at : ℕ) where
  module _ {b : Bool} (e : b ≡ joins g k at) where
    module _ (t : b ≡ true) where
      join : Joins g k at
      join = joins_says g k at (sym e ∙ t)

      pub extend_some : 1 ≤ k
      extend_some = omega (arith, join.some)

      pub extend_index : k - 1 < length g
      extend_index = omega (arith, join.some, join.room)

      pub extend_fits : length g ≤ 16777216 → Fits w64 ((k - 1) * 8)
      extend_fits h = record { fits = omega (arith, extend_index) }

      pub extend_from : {a : ℕ} → a ≡ from_of (get_or g (k - 1) 0) → at ≤ 16777216 → a ≤ 16777216
      extend_from ea l = omega (arith, join.ends)

      pub extend_size : {n size : ℕ} → n ≡ size_of (get_or g (k - 1) 0) → at ≤ 16777216 → size ≤ 16777216 → n + size ≤ 33554432
      extend_size en l m = omega (arith, join.ends)

      pub extend_count : k ≡ count_joined g k at
      extend_count = rw (sym e ∙ t)

      pub extend_log : {v a : ℕ} (n size : ℕ) → v ≡ word_of 0 a (n + size) → a ≡ from_of (get_or g (k - 1) 0)
          → n ≡ size_of (get_or g (k - 1) 0)
          → set g (k - 1) v ≡ log_joined g k at size
      extend_log n size ev ea en = rw (sym e ∙ t, ev, ea, en)

    module _ (t : b ≡ false) where
      pub append_count : {r : ℕ} → r ≡ count_after g k → r ≡ count_joined g k at
      append_count q = rw (sym e ∙ t) q

      pub append_log : (size : ℕ) {g' : List ℕ} → g' ≡ set g k (word_of 0 at size) → g' ≡ log_joined g k at size
      append_log size q = rw (sym e ∙ t) q

pub ruleset extending = (
  extend_some,
  extend_index,
  extend_fits,
  extend_from,
  extend_size,
  extend_count,
  extend_log,
  append_count,
  append_log,
  rules,
)

-- ---- what a note adds

module _ (kind from size : ℕ) (k : kind < 4) (f : from < 33554432) (s : size < 33554432) where
  kind_is : kind_of (word_of kind from size) ≡ kind
  kind_is = omega arith

  from_is : from_of (word_of kind from size) ≡ from
  from_is = omega arith

  size_is : size_of (word_of kind from size) ≡ size
  size_is = omega arith

pub part_join : (d : List ℕ) (a h e : ℕ) → a ≤ h → h ≤ e → part d a h ++ part d h e ≡ part d a e
part_join d a h e l m =
    let p : a + (h - a) ≡ h = omega arith in
    let q : e - a ≡ (h - a) + (e - h) = omega arith in
    ap (λ (s : List ℕ). part d a h ++ take (e - h) s) (ap (λ (k : ℕ). drop k d) (sym p) ∙ sym (drop-drop (h - a) a d))
    ∙ sym (take-add (h - a) (e - h) (drop a d))
    ∙ ap (λ (k : ℕ). take k (drop a d)) (sym q)

-- notes before the one that is set
text_before : (d g : List ℕ) (i w k : ℕ) → k ≤ i → text_of d (set g i w) k ≡ text_of d g k
text_before d g i w zero l = refl
text_before d g i w (suc k) l =
    rw (text_before d g i w k (omega arith), get_or-set_other g i k w 0 (λ q. omega arith))

-- the last of k + 1 notes is set
module _ (d g : List ℕ) (k w : ℕ) (l : k < length g) where
  text_set : text_of d (set g k w) (k + 1) ≡ text_of d g k ++ note_text d w
  text_set = rw (add-one k, text_before d g k w k (omega arith), get_or-set_same g k w 0 l)

  within_set : Within d g k → from_of w + size_of w ≤ length d → Within d (set g k w) (k + 1)
  within_set v h = record { inside = go }
    where
      go : (i : ℕ) → i < k + 1 → from_of (get_or (set g k w) i 0) + size_of (get_or (set g k w) i 0) ≤ length d
      go i m =
          let le : i ≤ k = omega arith in
          ⊎_elim
          (λ (q : i ≡ k). rw (q, get_or-set_same g k w 0 l) h)
          (λ (q : i < k). rw (get_or-set_other g k i w 0 (λ z. omega arith)) (v.inside i q))
          (eq-or-lt_of_le le)

-- `note`: the bytes from a place on, as the kind has them
pub note_adds : (d g : List ℕ) (k kind from size : ℕ) → length d ≤ 16777216 → kind < 4 → from + size ≤ length d
    → {k' : ℕ} → k' ≡ count_after g k → {g' : List ℕ} → g' ≡ set g k (word_of kind from size)
    → Noted d g k (as_kind kind (part d from (from + size))) k' g'
unfolding note_text
note_adds d g k kind from size small h l {k'} ek {g'} eg = rw (ek, eg) (go (ltb k (length g)) refl)
  where
    w : ℕ
    w = word_of kind from size

    text_is : note_text d w ≡ as_kind kind (part d from (from + size))
    text_is =
        rw (
          kind_is kind from size h (omega arith) (omega arith),
          from_is kind from size h (omega arith) (omega arith),
          size_is kind from size h (omega arith) (omega arith),
        )

    inside : from_of w + size_of w ≤ length d
    inside = rw (from_is kind from size h (omega arith) (omega arith), size_is kind from size h (omega arith) (omega arith)) l

    go : (b : Bool) → ltb k (length g) ≡ b
        → Noted d g k (as_kind kind (part d from (from + size))) (cond b (k + 1) (length g + 1)) (set g k w)
    go true q =
        let m : k < length g = ltb-true k (length g) q in
        record {
          fewer = λ z. omega arith;
          adds = λ z. text_set d g k w (omega arith) ∙ ap (λ (s : List ℕ). text_of d g k ++ s) text_is;
          within = λ z v. within_set d g k w (omega arith) v inside;
          same = length-set g k w;
        }
    go false q =
        record {
          fewer = λ z. absurd (omega arith);
          adds = λ z. absurd (omega arith);
          within = λ z v. absurd (omega arith);
          same = length-set g k w;
        }

-- `extend`: the same for bytes as they stand
module _ (d g : List ℕ) (j at size : ℕ) (small : length d ≤ 16777216) (l : at + size ≤ length d)
    (room : j < length g) (bytes : kind_of (get_or g j 0) ≡ 0) (ends : from_of (get_or g j 0) + size_of (get_or g j 0) ≡ at) where
  abbrev last : ℕ
  last = get_or g j 0

  from_long : from_of (longer last size) ≡ from_of last
  from_long = from_is 0 (from_of last) (size_of last + size) (omega arith) (omega arith) (omega arith)

  size_long : size_of (longer last size) ≡ size_of last + size
  size_long = size_is 0 (from_of last) (size_of last + size) (omega arith) (omega arith) (omega arith)

  kind_long : kind_of (longer last size) ≡ 0
  kind_long = kind_is 0 (from_of last) (size_of last + size) (omega arith) (omega arith) (omega arith)

  text_long : note_text d (longer last size) ≡ note_text d last ++ part d at (at + size)
  unfolding note_text
  text_long =
      let q : from_of last + (size_of last + size) ≡ at + size = omega arith in
      rw (kind_long, from_long, size_long, bytes, q, ends)
      (sym (part_join d (from_of last) at (at + size) (omega arith) (omega arith)))

  longer_adds : Noted d g (j + 1) (part d at (at + size)) (j + 1) (set g j (longer last size))
  longer_adds =
      record {
        fewer = λ z. z;
        adds = λ z. text_set d g j (longer last size) (omega arith)
            ∙ ap (λ (s : List ℕ). text_of d g j ++ s) text_long
            ∙ rw (add-one j) (sym (append_assoc (text_of d g j) (note_text d last) (part d at (at + size))));
        within = λ z v. within_set d g j (longer last size) (omega arith) (record { inside = λ i m. v.inside i (omega arith) })
            (rw (from_long, size_long) (omega arith));
        same = length-set g j (longer last size);
      }

pub extend_adds : (d g : List ℕ) (k at size : ℕ) → length d ≤ 16777216 → at + size ≤ length d
    → {k' : ℕ} → k' ≡ count_joined g k at → {g' : List ℕ} → g' ≡ log_joined g k at size → Noted d g k (part d at (at + size)) k' g'
extend_adds d g k at size small l {k'} ek {g'} eg = rw (ek, eg) (go (joins g k at) refl)
  where
    go : (b : Bool) → joins g k at ≡ b
        → Noted d g k (part d at (at + size)) (cond b k (count_after g k))
        (cond b (set g (k - 1) (longer (get_or g (k - 1) 0) size)) (set g k (word_of 0 at size)))
    go true q =
        let v = joins_says g k at q in
        let z : k - 1 + 1 ≡ k = omega (arith, v.some) in
        rw z at (longer_adds d g (k - 1) at size small l (omega (arith, v.some, v.room)) v.bytes v.ends)
    go false q = note_adds d g k 0 at size small (omega arith) l refl refl

-- ---- notes after notes

pub noted_none : {d g : List ℕ} {k : ℕ} → Noted d g k [] k g
noted_none {d} {g} {k} = record { fewer = λ z. z; adds = λ z. sym (append-nil (text_of d g k)); within = λ z v. v; same = refl }

pub noted_more : {d g g₁ g₂ s t : List ℕ} {k a b : ℕ} → Noted d g k s a g₁ → Noted d g₁ a t b g₂ → Noted d g k (s ++ t) b g₂
noted_more {d} {g} {g₁} {s = s} {t} {k} {a} {b} p q =
    record {
      fewer = λ z. p.fewer (back z);
      adds = λ z. q.adds (on z) ∙ rw (p.adds (back z)) (append_assoc (text_of d g k) s t);
      within = λ z v. q.within (on z) (p.within (back z) v);
      same = q.same ∙ p.same;
    }
  where
    on : b ≤ length g → b ≤ length g₁
    on z = omega (arith, p.same)

    back : b ≤ length g → a ≤ length g
    back z = omega (arith, p.same, q.fewer (on z))

pub stood_none : {d g : List ℕ} → Stood d g 0 []
stood_none = record { text = λ z. refl; inside = λ z. record { inside = λ i l. absurd (omega arith) } }

pub stood_more : {d g g' w s : List ℕ} {k k' : ℕ} → Stood d g k w → Noted d g k s k' g' → Stood d g' k' (w ++ s)
stood_more {g = g} {g'} {k' = k'} t n =
    record {
      text = λ z. n.adds (back z) ∙ rw (t.text (n.fewer (back z)));
      inside = λ z. n.within (back z) (t.inside (n.fewer (back z)));
    }
  where
    back : k' ≤ length g' → k' ≤ length g
    back z = omega (arith, n.same)
