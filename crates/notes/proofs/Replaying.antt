-- Notes are laid into a buffer: one, and the first k.
-- None has over 16,777,219 bytes.
use mathlib.Core.Path.{◌≡◌, refl, ◌∙◌}
use mathlib.Core.List.{List, [], ◌∷◌}
use Prim.Native.Nat.{ℕ, ◌+◌, ◌-◌, ◌*◌, ◌≤◌, ◌<◌}
use native.Mathlib.Numerals.{add-one}
use native.Mathlib.Omega.{arith}
use borrow.Author.Rules.{rules}
use mir.Syntax.{w64}
use mir.Val.{Fits}
use lib.ListN.{length, get_or, take, drop, length-append, length-drop}
use lib.Seq.{length-take-le}
use Rattle.std.proofs.lemmas.List.{get_or-take}
use Rattle.xml.specs.Forest.{start_tag, end_tag}
use Rattle.trees.specs.Grown.{part}
use Rattle.writer.specs.Wrote.{Wrote}
use Rattle.writer.proofs.Laying.{wrote_more, wrote_long}
use Rattle.notes.specs.Notes.{kind_of, from_of, size_of, as_kind, note_text, text_of}

pub part_size : (d : List ℕ) (a n : ℕ) → a + n ≤ length d → length (part d a (a + n)) ≡ n
part_size d a n h =
    let q : a + n - a ≡ n = omega arith in
    rw q (length-take-le n (drop a d) (omega (arith, length-drop a d)))

-- ---- `lay`

-- the bytes of the note w, which are n from the place a on
module _ (d : List ℕ) (w : ℕ) {a n : ℕ} (ea : a ≡ from_of w) (en : n ≡ size_of w) (small : length d ≤ 16777216)
    (l : from_of w + size_of w ≤ length d) where
  within : a + n ≤ length d
  within = rw (ea, en) l

  long : length (part d a (a + n)) ≡ n
  long = part_size d a n within

  pub lay_fits : Fits w64 (a + n)
  lay_fits = record { fits = omega (arith, within) }

  pub lay_within : a + n ≤ length d
  lay_within = within

  text_is : {x : List ℕ} (k : ℕ) → kind_of w ≡ k → as_kind k (part d a (a + n)) ≡ x → note_text d w ≡ x
  unfolding note_text
  text_is k q e = rw (q, ← ea, ← en) e

  module _ {len : ℕ} (near : len < 144115188075855872) where
    pub lay_room : len + length (part d a (a + n)) ≤ 18446744073709551615
    lay_room = omega (arith, long, within)

    pub lay_room_start : len + length (part d a (a + n)) + 2 ≤ 18446744073709551615
    lay_room_start = omega (arith, long, within)

    pub lay_room_end : len + length (part d a (a + n)) + 3 ≤ 18446744073709551615
    lay_room_end = omega (arith, long, within)

    module _ {o o' : List ℕ} {r : ℕ} where
      module _ (u : Wrote o len (part d a (a + n)) r o') where
        pub lay_part : kind_of w ≡ 0 → Wrote o len (note_text d w) r o'
        lay_part q = rw (text_is 0 q refl) u

        pub far_part : r ≤ len + 16777219
        far_part = omega (arith, u.long, long, within)

        pub lay_put : r + 1 ≤ 18446744073709551615
        lay_put = omega (arith, u.long, long, within)

      module _ (u : Wrote o len (start_tag (part d a (a + n))) r o') where
        pub lay_start : kind_of w ≡ 1 → Wrote o len (note_text d w) r o'
        lay_start q = rw (text_is 1 q refl) u

        pub far_start : r ≤ len + 16777219
        far_start = omega (arith, u.long, long, within, length-append (part d a (a + n)) (62 ∷ []))

      module _ (u : Wrote o len (end_tag (part d a (a + n))) r o') where
        pub lay_end : kind_of w ≡ 2 → Wrote o len (note_text d w) r o'
        lay_end q = rw (text_is 2 q refl) u

        pub far_end : r ≤ len + 16777219
        far_end = omega (arith, u.long, long, within, length-append (part d a (a + n)) (62 ∷ []))

      module _ {e : ℕ} {o₁ : List ℕ} (u : Wrote o len (part d a (a + n)) e o₁) (v : Wrote o₁ e (62 ∷ []) r o') where
        pub lay_head : (kind_of w ≡ 0 → ⊥) → (kind_of w ≡ 1 → ⊥) → (kind_of w ≡ 2 → ⊥) → Wrote o len (note_text d w) r o'
        lay_head x y z =
            let q : kind_of w ≡ 3 = omega arith in
            rw (text_is 3 q refl) (wrote_more u v)

        pub far_head : r ≤ len + 16777219
        far_head = omega (arith, u.long, v.long, long, within)

pub ruleset laid_note = (
  lay_fits,
  lay_within,
  lay_room,
  lay_room_start,
  lay_room_end,
  lay_part,
  far_part,
  lay_put,
  lay_start,
  far_start,
  lay_end,
  far_end,
  lay_head,
  far_head,
  rules,
)

-- ---- `replay`

pub record Replaying (d g o : List ℕ) (noted k len : ℕ) (o' : List ℕ) : Type 0 where
  pub before : k ≤ noted
  pub far : len ≤ k * 16777219
  pub same : length o' ≡ length o
  pub wrote : Wrote o 0 (text_of d g k) len o'

-- one note more
pub replay_step : {d g o o₁ o₂ : List ℕ} {noted k len r : ℕ} → Replaying d g o noted k len o₁ → noted ≤ length g → k < length (take noted g)
    → Wrote o₁ len (note_text d (get_or (take noted g) k 0)) r o₂ × (r ≤ len + 16777219) → Replaying d g o noted (k + 1) r o₂
replay_step {d} {g} {o} {o₁} {o₂} {noted} {k} {len} {r} v few h u =
    let l : k < noted = omega (arith, h, length-take-le noted g few) in
    let w : Wrote o₁ len (note_text d (get_or g k 0)) r o₂ = rw (get_or-take noted g k 0 l) at u.0 in
    record {
      before = omega arith;
      far = omega (arith, v.far, u.1);
      same = wrote_long w ∙ v.same;
      wrote = rw (add-one k) (wrote_more v.wrote w);
    }
