-- The answers and what stands in the buffers afterwards. In order: two texts compared; the writer; whether an input is the packed form of a
-- text; the reader; and the two round trips of whole calls.
use mathlib.Core.Path.{◌≡◌, refl, sym, ap, ◌∙◌}
use mathlib.Core.Bool.{Bool, true, false, ◌&&◌}
use mathlib.Core.List.{List, ◌++◌}
use mathlib.Core.Option.{none, some}
use Prim.Native.Nat.{ℕ, ◌-◌, ◌≤◌, ◌<◌}
use native.Mathlib.Omega.{arith}
use borrow.Author.Tests.{lt-ltb, le-ltb}
use lib.Dec.{eqb}
use lib.ListN.{length, take, drop}
use lib.Seq.{take-append_seam}
use Rattle.std.specs.Prelude.{Result, Ok, Err, is_ok, nat_eq}
use Rattle.std.specs.Cmp.Lexicographic.{pointwise, same_text, other_text}
use Rattle.paths.specs.Judge.{list_answer}
use Rattle.paths.specs.declared.ListError.{ListError}
use Rattle.writer.specs.Wrote.{Wrote}
use Rattle.writer.proofs.Laying.{laid_whole}
use Rattle.packed.specs.Packed.{pack_of}
use Rattle.packed.specs.Spelled.{spelled, same, packs, text_of}
use Rattle.packed.specs.Answer.{by_room, after, pack_answer, pack_bytes, unpack_answer, unpack_bytes}
use Rattle.packed.specs.declared.PackError.{PackError}
use Rattle.packed.specs.declared.PackError.TheVariants.{List as OfList, NotPacked, Short}
use Rattle.packed.proofs.Bound.{sound_short, pack_bound}
use Rattle.packed.proofs.Meaning.{same_true, same_refl, packs_form, text_packed_text, packed_text_packed}

-- ---- two texts

-- the same bytes are what `==` of two slices finds
pub equal_same : (a b : List ℕ) (x : Bool) → x ≡ pointwise nat_eq a b → x ≡ same a b
equal_same a b true h = let e : a ≡ b = same_text a b h in sym (rw e (same_refl b))
equal_same a b false h = go (same a b) refl
  where
    go : (y : Bool) → same a b ≡ y → false ≡ y
    go true e = absurd (other_text a b h (same_true a b e))
    go false e = refl

-- ---- room

-- w laid from the front of o, where there is room
laid_front : {w o o' : List ℕ} {n : ℕ} → Wrote o 0 w n o' → length w ≤ length o → o' ≡ w ++ drop (length w) o
laid_front {w} {o} v l = v.laid ∙ laid_whole w o l

room_short : (w o : List ℕ) {n : ℕ} → n ≡ length w → length o < n
    → (Err (Short n) ≡ by_room (length o) w) × (o ≡ after (by_room (length o) w) w o)
room_short w o e l = rw (e, lt-ltb (length o) (length w) (omega arith)) (refl, refl)

room_enough : (w o : List ℕ) {o' : List ℕ} {n m : ℕ} → n ≡ length w → n ≤ length o → Wrote o 0 w m o'
    → (Ok n ≡ by_room (length o) w) × (o' ≡ after (by_room (length o) w) w o)
room_enough w o e l v = rw (e, le-ltb (length o) (length w) (omega arith)) (refl, laid_front v (omega arith))

-- ---- the writer

module _ (s : List ℕ) (e : list_answer s ≡ Ok tt) (o : List ℕ) where
  pub pack_gives : length (pack_of s) ≤ length o
      → (pack_answer s (length o) ≡ Ok (length (pack_of s))) × (pack_bytes s o ≡ pack_of s ++ drop (length (pack_of s)) o)
  unfolding pack_answer pack_bytes
  pack_gives l = rw (e, le-ltb (length o) (length (pack_of s)) l) (refl, refl)

  -- what was measured, where there is room for it, and laid
  pub pack_laid : {t t' o' : List ℕ} {n m : ℕ} → Wrote t 0 (pack_of s) n t' → n ≤ length o → Wrote o 0 (pack_of s) m o'
      → o' ≡ pack_bytes s o
  pack_laid w l v =
      let i : length (pack_of s) ≤ length o = omega (arith, w.long) in
      laid_front v i ∙ sym (pack_gives i).1

-- ---- whether an input is the packed form of a text

-- a sound list finds room in 8,833 bytes
sound_written : (s o : List ℕ) → length o ≡ 8833 → list_answer s ≡ Ok tt
    → (pack_answer s (length o) ≡ Ok (length (pack_of s))) × (pack_bytes s o ≡ pack_of s ++ drop (length (pack_of s)) o)
sound_written s o l e = let b = pack_bound s e in pack_gives s e o (omega arith)

module _ (d s o : List ℕ) (l : length o ≡ 8833) {r : Result ℕ PackError} (e : r ≡ pack_answer s (length o)) where
  -- no packed form was written
  pub not_packed : {x : PackError} → r ≡ Err x → false ≡ packs d s
  unfolding packs
  not_packed {x} h = go (list_answer s) refl
    where
      go : (f : Result (Unit {0}) ListError) → list_answer s ≡ f → false ≡ (is_ok (list_answer s) && same (pack_of s) d)
      go (Err y) z = rw z
      go (Ok tt) z =
          absurd (let q : Err x ≡ Ok (length (pack_of s)) = sym h ∙ e ∙ (sound_written s o l z).0 in
          let y : ◌≡◌ {A = ℕ} 0 1 = cc in omega arith)

  module _ {n : ℕ} (h : r ≡ Ok n) where
    was_sound : list_answer s ≡ Ok tt
    unfolding pack_answer
    was_sound = go (list_answer s) refl
      where
        go : (f : Result (Unit {0}) ListError) → list_answer s ≡ f → f ≡ Ok tt
        go (Ok tt) z = refl
        go (Err x) z = absurd (let q : Err (OfList x) ≡ Ok n = sym (rw z at e) ∙ h in let y : ◌≡◌ {A = ℕ} 0 1 = cc in omega arith)

    size : n ≡ length (pack_of s)
    size = let q : Ok n ≡ Ok (length (pack_of s)) = sym h ∙ e ∙ (sound_written s o l was_sound).0 in cc

    pub written_inside : n ≤ 8833
    written_inside = let b = pack_bound s was_sound in let z = size in omega arith

    pub written_packed : {o' : List ℕ} {x : Bool} → o' ≡ pack_bytes s o → x ≡ same (take (n - 0) o') d → x ≡ packs d s
    unfolding packs
    written_packed {o'} q k =
        let z : n - 0 ≡ length (pack_of s) = omega (arith, size) in
        let t : take (n - 0) o' ≡ pack_of s =
        rw (z, q ∙ (sound_written s o l was_sound).1) (take-append_seam (pack_of s) (drop (length (pack_of s)) o)) in
        k ∙ ap (λ (y : List ℕ). same y d) t ∙ rw was_sound

-- ---- the reader

text_taken : {w t t' : List ℕ} {n : ℕ} → length t ≡ 8192 → Wrote t 0 w n t' → n ≤ 8192 → take (n - 0) t' ≡ w
text_taken {w} {t} {t'} {n} l v i =
    let z : n - 0 ≡ length w = omega (arith, v.long) in
    rw (z, laid_front v (omega (arith, v.long))) (take-append_seam w (drop (length w) t))

module _ (d o : List ℕ) where
  by_none : text_of d ≡ none → (Err NotPacked ≡ unpack_answer d (length o)) × (o ≡ unpack_bytes d o)
  unfolding unpack_answer unpack_bytes
  by_none e = rw e (refl, refl)

  no_text : packs d (spelled d) ≡ false → text_of d ≡ none
  unfolding text_of
  no_text e = rw e

  the_text : packs d (spelled d) ≡ true → text_of d ≡ some (spelled d)
  unfolding text_of
  the_text e = rw e

  module _ {t t' : List ℕ} {n : ℕ} (w : Wrote t 0 (spelled d) n t') where
    -- a text over its size is no sound list
    pub unpack_long : 8192 < n → (Err NotPacked ≡ unpack_answer d (length o)) × (o ≡ unpack_bytes d o)
    unpack_long l = by_none (no_text (go (packs d (spelled d)) refl))
      where
        go : (b : Bool) → packs d (spelled d) ≡ b → b ≡ false
        go false e = refl
        go true e = absurd (let h = sound_short (spelled d) (packs_form d (spelled d) e).sound in omega (arith, w.long))

    module _ (l : length t ≡ 8192) (i : n ≤ 8192) {x : Bool} (e : x ≡ packs d (take (n - 0) t')) where
      packs_is : packs d (spelled d) ≡ x
      packs_is = sym (e ∙ ap (packs d) (text_taken l w i))

      pub unpack_none : x ≡ false → (Err NotPacked ≡ unpack_answer d (length o)) × (o ≡ unpack_bytes d o)
      unpack_none h = by_none (no_text (packs_is ∙ h))

      module _ (h : x ≡ true) where
        found : text_of d ≡ some (spelled d)
        found = the_text (packs_is ∙ h)

        text_size : n ≡ length (spelled d)
        text_size = omega (arith, w.long)

        pub unpack_short : length o < n → (Err (Short n) ≡ unpack_answer d (length o)) × (o ≡ unpack_bytes d o)
        unfolding unpack_answer unpack_bytes
        unpack_short k = rw found (room_short (spelled d) o text_size k)

        pub unpack_written : {o' : List ℕ} {m : ℕ} → n ≤ length o → Wrote o 0 (take (n - 0) t') m o'
            → (Ok n ≡ unpack_answer d (length o)) × (o' ≡ unpack_bytes d o)
        unfolding unpack_answer unpack_bytes
        unpack_written k v = rw found (room_enough (spelled d) o text_size k (rw (text_taken l w i) at v))

-- ---- "Text to packed to text gives the same bytes, and so does packed to text to packed"

module _ (s : List ℕ) (e : list_answer s ≡ Ok tt) where
  -- what the writer wrote, the reader reads as the text it was
  pub pack_unpack : (o : List ℕ) → length s ≤ length o
      → (unpack_answer (pack_of s) (length o) ≡ Ok (length s)) × (unpack_bytes (pack_of s) o ≡ s ++ drop (length s) o)
  unfolding unpack_answer unpack_bytes
  pack_unpack o l = rw (text_packed_text s e, le-ltb (length o) (length s) l) (refl, refl)

module _ (d s : List ℕ) (e : text_of d ≡ some s) where
  pub unpack_gives : (o : List ℕ) → length s ≤ length o
      → (unpack_answer d (length o) ≡ Ok (length s)) × (unpack_bytes d o ≡ s ++ drop (length s) o)
  unfolding unpack_answer unpack_bytes
  unpack_gives o l = rw (e, le-ltb (length o) (length s) l) (refl, refl)

  -- what the reader wrote, the writer packs as the input it was
  pub unpack_pack : (o : List ℕ) → length d ≤ length o
      → (pack_answer s (length o) ≡ Ok (length d)) × (pack_bytes s o ≡ d ++ drop (length d) o)
  unpack_pack o l =
      let (h, q) = packed_text_packed d s e in
      rw q at (pack_gives s h o (rw q l))
