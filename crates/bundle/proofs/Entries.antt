-- Laws of the documents in some bytes: bytes passed over; an entry at a place, and what follows it; a length at fault; the end. Then of
-- whole entries from a place to the end, `Stands`.
use mathlib.Core.Path.{◌≡◌, refl, sym, ap, ◌∙◌}
use mathlib.Core.Bool.{Bool, true, false}
use mathlib.Core.List.{List, [], ◌∷◌}
use Prim.Native.Nat.{ℕ, zero, suc, ◌+◌, ◌≤◌, ◌<◌}
use native.Mathlib.Omega.{arith}
use borrow.Author.Tests.{le-leb, lt-leb, leb-true}
use lib.ListN.{length, take, drop, length-append, length-drop, drop_of_length-le}
use lib.Seq.{drop-drop, length-take-le}
use Rattle.bundle.specs.Batch.{print_entries, number_at, whole_at, entries_from}

-- bytes that are passed over
pub entries_drop : (k : ℕ) (s : List ℕ) → entries_from k s ≡ entries_from 0 (drop k s)
entries_drop zero s = refl
entries_drop (suc k) [] = refl
entries_drop (suc k) (x ∷ s) = entries_drop k s

pub entries_skip : (k m : ℕ) (s : List ℕ) → entries_from k (drop m s) ≡ entries_from (m + k) s
entries_skip k m s = entries_drop k (drop m s) ∙ ap (entries_from 0) (drop-drop k m s) ∙ sym (entries_drop (m + k) s)

-- an entry at the front, and none
pub front_whole : (s : List ℕ) → whole_at s ≡ true
    → entries_from 0 s ≡ take (number_at s) (drop 4 s) ∷ entries_from (4 + number_at s) s
front_whole [] h = cc
front_whole (x ∷ s) h =
    let q : 4 + number_at (x ∷ s) ≡ suc (3 + number_at (x ∷ s)) = omega arith in
    rw (h, q) refl

pub front_fault : (s : List ℕ) → whole_at s ≡ false → entries_from 0 s ≡ []
front_fault [] h = refl
front_fault (x ∷ s) h = rw h refl

-- the document behind the length at a place
abbrev pub document_at : List ℕ → ℕ → List ℕ
document_at b at = take (number_at (drop at b)) (drop (at + 4) b)

-- where the next length stands
abbrev pub next_at : List ℕ → ℕ → ℕ
next_at b at = at + 4 + number_at (drop at b)

module _ (b : List ℕ) (at : ℕ) where
  pub at_whole : next_at b at ≤ length b → entries_from at b ≡ document_at b at ∷ entries_from (next_at b at) b
  at_whole h =
      let n = number_at (drop at b) in
      let w : whole_at (drop at b) ≡ true = le-leb (4 + n) (length (drop at b)) (omega (arith, length-drop at b)) in
      let q : at + (4 + n) ≡ next_at b at = omega arith in
      entries_drop at b
      ∙ front_whole (drop at b) w
      ∙ rw (drop-drop 4 at b, entries_skip (4 + n) at b, q) refl

  pub at_fault : length b < next_at b at → entries_from at b ≡ []
  at_fault h =
      let l : length (drop at b) < 4 + number_at (drop at b) = omega (arith, length-drop at b) in
      entries_drop at b ∙ front_fault (drop at b) (lt-leb (4 + number_at (drop at b)) (length (drop at b)) l)

  pub at_end : length b ≤ at → entries_from at b ≡ []
  at_end h = entries_drop at b ∙ ap (entries_from 0) (drop_of_length-le b h)

  pub document_long : next_at b at ≤ length b → length (document_at b at) ≡ number_at (drop at b)
  document_long h = length-take-le (number_at (drop at b)) (drop (at + 4) b) (omega (arith, length-drop (at + 4) b))

-- the length of an entry's print
pub entry_long : (d : List ℕ) (ds : List (List ℕ)) → length (print_entries (d ∷ ds)) ≡ 4 + length d + length (print_entries ds)
entry_long d ds = omega (arith, length-append d (print_entries ds))

-- what is read is there
pub entries_inside : (s : List ℕ) (k : ℕ) → k ≤ length s → k + length (print_entries (entries_from k s)) ≤ length s
entries_inside [] k h = omega arith
entries_inside (x ∷ s) (suc k) h = omega (arith, entries_inside s k (omega arith))
entries_inside (x ∷ s) zero h = go (whole_at (x ∷ s)) refl (entries_inside s)
  where
    go : (y : Bool) → whole_at (x ∷ s) ≡ y
        → ((k : ℕ) → k ≤ length s → k + length (print_entries (entries_from k s)) ≤ length s)
        → zero + length (print_entries (entries_from zero (x ∷ s))) ≤ length (x ∷ s)
    go true e f =
        let n = number_at (x ∷ s) in
        let l = leb-true (4 + n) (length (x ∷ s)) e in
        let d = length-take-le n (drop 3 s) (omega (arith, length-drop 3 s)) in
        rw e (omega (arith, l, d, f (3 + n) (omega arith), entry_long (take n (drop 3 s)) (entries_from (3 + n) s)))
    go false e f = rw e (omega arith)

-- ---- from the place to the end of the batch there are whole entries

pub record Stands (b : List ℕ) (at : ℕ) : Type 0 where
  pub inside : at ≤ length b
  pub reach : at + length (print_entries (entries_from at b)) ≡ length b

module _ (b : List ℕ) (at : ℕ) (s : Stands b at) (more : at < length b) where
  -- so the length at the place is whole
  pub stands_whole : next_at b at ≤ length b
  stands_whole = go (whole_at (drop at b)) refl
    where
      go : (x : Bool) → whole_at (drop at b) ≡ x → next_at b at ≤ length b
      go true e = omega (arith, leb-true (4 + number_at (drop at b)) (length (drop at b)) e, length-drop at b)
      go false e =
          let z = ap (λ (ds : List (List ℕ)). length (print_entries ds)) (entries_drop at b ∙ front_fault (drop at b) e) in
          absurd (omega (arith, z, s.reach))

  pub stands_next : Stands b (next_at b at)
  stands_next =
      let h = stands_whole in
      let z = ap (λ (ds : List (List ℕ)). length (print_entries ds)) (at_whole b at h) in
      record {
        inside = h;
        reach =
            omega (arith, z, s.reach, document_long b at h, entry_long (document_at b at) (entries_from (next_at b at) b));
      }
