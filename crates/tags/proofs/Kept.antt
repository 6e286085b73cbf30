-- Names kept by their places. `seen`: what is left of the names kept is asked. `note`: one name more.
-- Names are compared by their bytes.
use mathlib.Core.Path.{◌≡◌, refl, sym, ap, ap₂, ◌∙◌}
use mathlib.Core.Bool.{Bool, true, false, ◌||◌, or-false, or_assoc, false≢true}
use mathlib.Core.List.{List, [], ◌∷◌, ◌++◌}
use Prim.Native.Nat.{ℕ, ◌+◌, ◌≤◌, ◌<◌}
use mathlib.Core.Logic.{⊎_elim}
use native.Mathlib.Nat.{eq-or-lt_of_le}
use native.Mathlib.Numerals.{add-one}
use native.Mathlib.Omega.{arith}
use borrow.Author.Tests.{eqb-true, eqb-false}
use lib.Dec.{eqb}
use lib.ListN.{length, get_or, take, drop, set, length-drop, length-append, length-set, drop_of_length-le, get_or-append}
use lib.Seq.{drop-cons, length-take-le, take_all, take-append-le, get_or-set_same, get_or-set_other, get_or-append_seam}
use Rattle.xml.specs.Productions.{same}
use Rattle.readers.specs.Named.{has, repeated}
use Rattle.xml.proofs.Same.{same_equal, same_refl, same_other}
use Rattle.tags.specs.Kept.{name_from, KeptOf, Keeps, Seen, Noted}

-- ---- a name of n bytes

module _ (d : List ℕ) (a n : ℕ) (l : a + n ≤ length d) where
  pub name_size : length (name_from d a n) ≡ n
  name_size = length-take-le n (drop a d) (omega (arith, length-drop a d))

-- ---- `seen`

pub record Seeing (d starts lens : List ℕ) (count a n k : ℕ) : Type 0 where
  pub inside : a + n ≤ length d
  pub few : count < 32
  pub keeps : Keeps d starts lens count
  pub goes : (ns : List (List ℕ)) → KeptOf d starts lens count ns → has (name_from d a n) (drop k ns) ≡ has (name_from d a n) ns

pub see_start : {d starts lens : List ℕ} {count a n : ℕ} → Keeps d starts lens count → count < 32 → a + n ≤ length d
    → Seeing d starts lens count a n 0
see_start v f l = record { inside = l; few = f; keeps = v; goes = λ ns h. refl }

-- fewer names than 32 are all kept
all_kept : {count : ℕ} (ns : List (List ℕ)) → count < 32 → count ≡ length ns → take 32 ns ≡ ns
all_kept ns f e = take_all 32 ns (omega arith)

module _ {d starts lens : List ℕ} {count a n k : ℕ} (v : Seeing d starts lens count a n k) where
  pub see_end : count ≤ k → Seen d starts lens count a n false
  see_end l =
      record {
        is = λ ns h.
            let z : length ns ≤ k = let y = h.count_is in omega arith in
            ap (has (name_from d a n)) (sym (drop_of_length-le ns z)) ∙ v.goes ns h
            ∙ ap (has (name_from d a n)) (sym (all_kept ns v.few h.count_is));
      }

  module _ (l : k < count) where
    module _ (ns : List (List ℕ)) (h : KeptOf d starts lens count ns) where
      here : k < length (take 32 ns)
      here = rw (all_kept ns v.few h.count_is) (let y = h.count_is in omega arith)

      name_is : name_from d (get_or starts k 0) (get_or lens k 0) ≡ get_or ns k []
      name_is = h.held.are k here ∙ ap (λ (m : List (List ℕ)). get_or m k []) (all_kept ns v.few h.count_is)

      next_name : drop k ns ≡ get_or ns k [] ∷ drop (k + 1) ns
      next_name = rw (add-one k) (drop-cons ns k [] (let y = h.count_is in omega arith))

      step : has (name_from d a n) ns
          ≡ same (name_from d a n) (name_from d (get_or starts k 0) (get_or lens k 0)) || has (name_from d a n) (drop (k + 1) ns)
      step =
          sym (v.goes ns h)
          ∙ ap (has (name_from d a n)) next_name
          ∙ ap (λ (m : List ℕ). same (name_from d a n) m || has (name_from d a n) (drop (k + 1) ns)) (sym name_is)

    passed : same (name_from d a n) (name_from d (get_or starts k 0) (get_or lens k 0)) ≡ false → Seeing d starts lens count a n (k + 1)
    passed q =
        record {
          inside = v.inside;
          few = v.few;
          keeps = v.keeps;
          goes = λ ns h. sym (step ns h ∙ ap (λ (b : Bool). b || has (name_from d a n) (drop (k + 1) ns)) q);
        }

    pub see_inside : get_or starts k 0 + get_or lens k 0 ≤ length d
    see_inside = v.keeps.kept.held.inside k (here v.keeps.names v.keeps.kept)

    module _ {b : Bool} (t : b ≡ same (name_from d a n) (name_from d (get_or starts k 0) (get_or lens k 0))) where
      pub see_differs : b ≡ false → Seeing d starts lens count a n (k + 1)
      see_differs q = passed (sym t ∙ q)

      pub see_found : b ≡ true → Seen d starts lens count a n true
      see_found q =
          record {
            is = λ ns h.
                sym (ap (has (name_from d a n)) (all_kept ns v.few h.count_is)
                ∙ step ns h
                ∙ ap (λ (c : Bool). c || has (name_from d a n) (drop (k + 1) ns)) (sym t ∙ q));
          }

-- the places asked for are inside
pub see_part : {d starts lens : List ℕ} {count a n k : ℕ} → Seeing d starts lens count a n k → a + n ≤ length d
see_part v = v.inside

pub see_room : {d starts lens : List ℕ} {count a n k : ℕ} → Seeing d starts lens count a n k → count < 32
see_room v = v.few

pub ruleset seeing = (see_start, see_end, see_inside, see_differs, see_found, see_part, see_room)

-- ---- `note`

same_comm : (w m : List ℕ) → same w m ≡ same m w
same_comm w m = go (same m w) refl
  where
    go : (b : Bool) → same m w ≡ b → same w m ≡ b
    go true e = rw (same_equal m w e) (same_refl w)
    go false e = same_other w m (λ q. false≢true (sym e ∙ rw q (same_refl m)))

has_snoc : (m : List ℕ) (ns : List (List ℕ)) (w : List ℕ) → has m (ns ++ w ∷ []) ≡ has m ns || (same m w || false)
has_snoc m [] w = refl
has_snoc m (n ∷ ns) w =
    ap (λ (b : Bool). same m n || b) (has_snoc m ns w) ∙ sym (or_assoc (same m n) (has m ns) (same m w || false))

-- a name more: it stands there before, or a name stood there twice already
repeated_snoc : (ns : List (List ℕ)) (w : List ℕ) → repeated (ns ++ w ∷ []) ≡ repeated ns || has w ns
repeated_snoc [] w = refl
repeated_snoc (m ∷ ns) w =
    ap₂ (λ (a b : Bool). a || b) (has_snoc m ns w) (repeated_snoc ns w)
    ∙ shuffled (has m ns) (same m w) (repeated ns) (has w ns)
    ∙ ap (λ (b : Bool). (has m ns || repeated ns) || (b || has w ns)) (same_comm m w)
  where
    shuffled : (h s p q : Bool) → ((h || (s || false)) || (p || q)) ≡ ((h || p) || (s || q))
    shuffled true s p q = refl
    shuffled false true true q = refl
    shuffled false true false q = refl
    shuffled false false p q = refl

lower : {k count : ℕ} → (k ≡ count → ⊥) → k ≤ count → k < count
lower ne l = ⊎_elim (λ e. absurd (ne e)) (λ g. g) (eq-or-lt_of_le l)

module _ {d starts lens : List ℕ} {count a n : ℕ} where
  -- no room
  pub note_full : 32 ≤ count → Noted d starts lens count a n starts lens false
  note_full l =
      record {
        held = λ ns h. rw (cut ns h) h.held;
        twice = λ ns h. rw (cut ns h) (sym (or-false (repeated (take 32 ns))));
      }
    where
      cut : (ns : List (List ℕ)) → KeptOf d starts lens count ns → take 32 (ns ++ name_from d a n ∷ []) ≡ take 32 ns
      cut ns h = take-append-le 32 ns (name_from d a n ∷ []) (let z = h.count_is in omega arith)

  module _ (inside : a + n ≤ length d) (l : count < 32) {r : Bool} (s : Seen d starts lens count a n r) where
    module _ (ns : List (List ℕ)) (h : KeptOf d starts lens count ns) where
      all : take 32 ns ≡ ns
      all = all_kept ns l h.count_is

      more : take 32 (ns ++ name_from d a n ∷ []) ≡ ns ++ name_from d a n ∷ []
      more = take_all 32 (ns ++ name_from d a n ∷ []) (let z = h.count_is in omega (arith, length-append ns (name_from d a n ∷ [])))

      -- what holds of the entries kept and of the new one holds of all
      each : (P : ℕ → ℕ → List ℕ → Type 0)
          → ((k : ℕ) → k < length (take 32 ns) → P (get_or starts k 0) (get_or lens k 0) (get_or (take 32 ns) k []))
          → P a n (name_from d a n)
          → (k : ℕ) → k < length (ns ++ name_from d a n ∷ [])
          → P (get_or (set starts count a) k 0) (get_or (set lens count n) k 0) (get_or (ns ++ name_from d a n ∷ []) k [])
      each P old new k g = go (eqb k count) refl
        where
          go : (b : Bool) → eqb k count ≡ b
              → P (get_or (set starts count a) k 0) (get_or (set lens count n) k 0) (get_or (ns ++ name_from d a n ∷ []) k [])
          go true e =
              let q = eqb-true k count e in
              let z = h.held.starts_long in
              let y = h.held.lens_long in
              rw (
                q,
                get_or-set_same starts count a 0 (omega arith),
                get_or-set_same lens count n 0 (omega arith),
                h.count_is,
                get_or-append_seam ns (name_from d a n) [] [],
              )
              new
          go false e =
              let ne = eqb-false k count e in
              let all_long = length-append ns (name_from d a n ∷ []) in
              let less : k < length ns = rw h.count_is at (lower ne (omega (arith, h.count_is, all_long))) in
              rw (
                get_or-set_other starts count k a 0 ne,
                get_or-set_other lens count k n 0 ne,
                get_or-append ns (name_from d a n ∷ []) [] k less,
              )
              (rw all at (old k (rw all less)))

    pub note_kept : Noted d starts lens count a n (set starts count a) (set lens count n) r
    note_kept =
        record {
          held = λ ns h.
              rw (more ns h)
              (record {
                few = let z = h.count_is in omega (arith, length-append ns (name_from d a n ∷ []));
                starts_long = length-set starts count a ∙ h.held.starts_long;
                lens_long = length-set lens count n ∙ h.held.lens_long;
                inside = each ns h (λ x m w. x + m ≤ length d) h.held.inside inside;
                are = each ns h (λ x m w. name_from d x m ≡ w) h.held.are refl;
              });
          twice = λ ns h.
              rw (more ns h)
              (repeated_snoc ns (name_from d a n)
              ∙ ap₂ (λ (p q : Bool). p || q) (ap repeated (sym (all ns h)))
              (ap (has (name_from d a n)) (sym (all ns h)) ∙ sym (s.is ns h)));
        }

pub keeps_long : {d starts lens : List ℕ} {count : ℕ} → Keeps d starts lens count → (length starts ≡ 32) × (length lens ≡ 32)
keeps_long v = (v.kept.held.starts_long, v.kept.held.lens_long)

pub ruleset noting = (note_full, note_kept)
