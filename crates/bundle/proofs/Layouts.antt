-- "A batch is .. one version byte 1, then for each document a four-byte big-endian length and its bytes", both ways: what is printed is
-- read, `batch_printed`; and bytes are what is read of them, printed, and a rest that holds no whole entry, `bytes_split`. So each answer
-- on a layout is said of the bytes, and it alone: `says_layout`, `only_layout`.
use mathlib.Core.Path.{◌≡◌, refl, sym, ap, subst, ◌∙◌}
use mathlib.Core.Bool.{Bool, true, false}
use mathlib.Core.List.{List, [], ◌∷◌, ◌++◌, append_assoc, append-nil}
use mathlib.Core.Logic.{◌⊎◌, inl, inr}
use Rattle.std.specs.Prelude.{Result}
use Prim.Native.Nat.{ℕ, zero, suc, ◌+◌, ◌*◌, ◌/◌, ◌%◌, ◌≤◌, ◌<◌}
use native.Mathlib.Omega.{arith}
use borrow.Author.Tests.{le-leb, lt-leb, leb-true, leb-false, eqb-true, eqb-false, ltb-true, ltb-false, lt-ltb, le-ltb}
use lib.Dec.{ltb, eqb}
use lib.ListN.{length, get_or, take, drop, length-append, length-drop, take-append-drop}
use lib.Seq.{take_at, drop_at, length-take-le}
use Rattle.bundle.specs.Batch.{big, print_entries, print_batch, number_at, whole_at, entries_from, entries_of, reach_of, layout_of}
use Rattle.bundle.specs.Layout.{Bytes, CutShort, RunsPast, LayoutSays, empty, over, version, bad_length, sound}
use Rattle.bundle.specs.declared.LayoutError.{LayoutError}
use Rattle.bundle.proofs.Entries.{entries_drop, entries_skip, front_whole, front_fault, entry_long}
use Rattle.bundle.proofs.Judging.{judge_empty, judge_over, judge_version, Fronted, front_judged}

-- ---- four bytes

-- a number below 2 ^ 32 is said by its four bytes
pub big_said : (n : ℕ) (u : List ℕ) → n < 4294967296 → number_at (big n ++ u) ≡ n
big_said n u h =
    let a : n / 256 / 256 ≡ n / 65536 = omega arith in
    let b : n / 65536 / 256 ≡ n / 16777216 = omega arith in
    let c : n / 16777216 % 256 ≡ n / 16777216 = omega arith in
    omega arith

-- and four bytes are those of the number that they say
pub said_big : (w x y z : ℕ) (u : List ℕ) → w < 256 → x < 256 → y < 256 → z < 256
    → big (number_at (w ∷ x ∷ y ∷ z ∷ u)) ≡ w ∷ x ∷ y ∷ z ∷ []
said_big w x y z u hw hx hy hz =
    let n = w * 16777216 + x * 65536 + y * 256 + z in
    let a : n / 16777216 ≡ w = omega arith in
    let b : n / 65536 ≡ w * 256 + x = omega arith in
    let c : n / 256 ≡ (w * 256 + x) * 256 + y = omega arith in
    let d : n % 256 ≡ z = omega arith in
    let e : w % 256 ≡ w = omega arith in
    let f : (w * 256 + x) % 256 ≡ x = omega arith in
    let g : ((w * 256 + x) * 256 + y) % 256 ≡ y = omega arith in
    rw (a, b, c, d, e, f, g) refl

-- ---- what is printed is read

pub entries_printed : (ds : List (List ℕ)) (t : List ℕ) → length (print_entries ds) < 4294967296
    → entries_from 0 (print_entries ds ++ t) ≡ ds ++ entries_from 0 t
entries_printed [] t h = refl
entries_printed (d ∷ ds) t h =
    let n = length d in
    let u = (d ++ print_entries ds) ++ t in
    let l = entry_long d ds in
    let q : number_at (big n ++ u) ≡ n = big_said n u (omega (arith, l)) in
    let w : whole_at (big n ++ u) ≡ true =
    le-leb (4 + number_at (big n ++ u)) (length (big n ++ u))
    (omega (arith, q, length-append (d ++ print_entries ds) t, length-append d (print_entries ds))) in
    front_whole (big n ++ u) w
    ∙ rw (q, ← entries_skip n 4 (big n ++ u), entries_drop n u)
    (rw (append_assoc d (print_entries ds) t)
    (rw (take_at d (print_entries ds ++ t) n refl, drop_at d (print_entries ds ++ t) n refl)
    (ap (λ (es : List (List ℕ)). d ∷ es) (entries_printed ds t (omega (arith, l))))))

-- a batch is read as its documents
pub batch_printed : (ds : List (List ℕ)) → length (print_batch ds) < 4294967296 → entries_of (print_batch ds) ≡ ds
unfolding entries_of
batch_printed ds h =
    ap (entries_from 0) (sym (append-nil (print_entries ds))) ∙ entries_printed ds [] (omega arith) ∙ append-nil ds

-- ---- bytes are what is read of them, and a rest without a whole entry

pub record Split (s : List ℕ) (ds : List (List ℕ)) : Type 0 where
  pub rest : List ℕ
  pub prints : s ≡ print_entries ds ++ rest
  pub stops : whole_at rest ≡ false

pub bytes_split : (s : List ℕ) (k : ℕ) → Bytes s → Split (drop k s) (entries_from k s)
bytes_split [] zero b = record { rest = []; prints = refl; stops = refl }
bytes_split [] (suc k) b = record { rest = []; prints = refl; stops = refl }
bytes_split (x ∷ s) (suc k) b = bytes_split s k b.1
bytes_split (x ∷ s) zero b = go (whole_at (x ∷ s)) refl (λ k. bytes_split s k b.1)
  where
    -- four bytes and the document behind them
    entry : (s : List ℕ) → Bytes (x ∷ s) → 4 + number_at (x ∷ s) ≤ length (x ∷ s)
        → x ∷ s ≡ big (number_at (x ∷ s)) ++ (take (number_at (x ∷ s)) (drop 3 s) ++ drop (3 + number_at (x ∷ s)) s)
    entry [] b l = absurd (omega arith)
    entry (y ∷ []) b l = absurd (omega arith)
    entry (y ∷ z ∷ []) b l = absurd (omega arith)
    entry (y ∷ z ∷ w ∷ u) (bx, (by, (bz, (bw, bu)))) l =
        let n = number_at (x ∷ y ∷ z ∷ w ∷ u) in
        let q : 3 + n ≡ suc (suc (suc n)) = omega arith in
        ap (λ (t : List ℕ). t ++ u) (sym (said_big x y z w u bx by bz bw))
        ∙ ap (λ (t : List ℕ). big n ++ t)
        (sym (take-append-drop n u) ∙ ap (λ (k : ℕ). take n u ++ drop k (y ∷ z ∷ w ∷ u)) (sym q))

    go : (y : Bool) → whole_at (x ∷ s) ≡ y → ((k : ℕ) → Split (drop k s) (entries_from k s)) → Split (x ∷ s) (entries_from zero (x ∷ s))
    go true e f =
        let n = number_at (x ∷ s) in
        let l = leb-true (4 + n) (length (x ∷ s)) e in
        let r = f (3 + n) in
        let d = take n (drop 3 s) in
        let k : length d ≡ n = length-take-le n (drop 3 s) (omega (arith, length-drop 3 s)) in
        rw e
        (record {
          rest = r.rest;
          prints =
              entry s b l
              ∙ ap (λ (t : List ℕ). big n ++ (d ++ t)) r.prints
              ∙ rw k (ap (λ (t : List ℕ). big n ++ t) (sym (append_assoc d (print_entries (entries_from (3 + n) s)) r.rest)));
          stops = r.stops;
        })
    go false e f = rw e (record { rest = x ∷ s; prints = refl; stops = e })

-- ---- each answer is said, and no other

-- a rest that holds no whole entry: none, "cut short", or "runs past the end"
rest_bad : (t : List ℕ) → Bytes t → 1 ≤ length t → whole_at t ≡ false → CutShort t ⊎ RunsPast t
rest_bad [] b l e = absurd (omega arith)
rest_bad (w ∷ []) b l e = inl (omega arith, omega arith)
rest_bad (w ∷ x ∷ []) b l e = inl (omega arith, omega arith)
rest_bad (w ∷ x ∷ y ∷ []) b l e = inl (omega arith, omega arith)
rest_bad (w ∷ x ∷ y ∷ z ∷ u) (bw, (bx, (by, (bz, bu)))) l e =
    let s = w ∷ x ∷ y ∷ z ∷ u in
    inr (record {
      promised = number_at s;
      rest = u;
      prints = ap (λ (t : List ℕ). t ++ u) (sym (said_big w x y z u bw bx by bz));
      fits = omega arith;
      past = omega (arith, leb-false (4 + number_at s) (length s) e);
    })

bad_stops : (t : List ℕ) → CutShort t ⊎ RunsPast t → whole_at t ≡ false
bad_stops t (inl (some, l)) = lt-leb (4 + number_at t) (length t) (omega arith)
bad_stops t (inr r) =
    let q = ap number_at r.prints ∙ big_said r.promised r.rest r.fits in
    lt-leb (4 + number_at t) (length t) (omega (arith, q, ap length r.prints, r.past))

bad_some : (t : List ℕ) → CutShort t ⊎ RunsPast t → 1 ≤ length t
bad_some t (inl (some, l)) = some
bad_some t (inr r) = omega (arith, ap length r.prints)

bytes_rest : (s t : List ℕ) → Bytes (s ++ t) → Bytes t
bytes_rest [] t b = b
bytes_rest (x ∷ s) t b = bytes_rest s t b.1

length_none : (s : List ℕ) → length s ≡ 0 → s ≡ []
length_none [] e = refl
length_none (x ∷ s) e = absurd (omega (arith, e))

pub says_layout : (b : List ℕ) → Bytes b → LayoutSays b (layout_of b)
unfolding reach_of entries_of
says_layout [] h = rw (sym (judge_empty [] refl)) (empty refl)
says_layout (v ∷ s) h = small (ltb 67108864 (length (v ∷ s))) refl
  where
    there : length (v ∷ s) ≡ 0 → ⊥
    there e = omega arith

    lengths : v ≡ 1 → length (v ∷ s) ≤ 67108864 → (x : Bool) → ltb (reach_of (v ∷ s)) (length (v ∷ s)) ≡ x
        → LayoutSays (v ∷ s) (layout_of (v ∷ s))
    lengths q l true e =
        let r = bytes_split (v ∷ s) 1 h in
        let f : Fronted (v ∷ s) = record { some = there; small = l; version = q } in
        let z : v ∷ s ≡ print_batch (entries_from 1 (v ∷ s)) ++ r.rest =
        ap (λ (t : List ℕ). v ∷ t) r.prints
        ∙ ap (λ (x : ℕ). x ∷ (print_entries (entries_from 1 (v ∷ s)) ++ r.rest)) q in
        let k = length-append (print_batch (entries_from 1 (v ∷ s))) r.rest in
        let m = ltb-true (reach_of (v ∷ s)) (length (v ∷ s)) e in
        let some : 1 ≤ length r.rest = omega (arith, k, ap length z, m) in
        let c : Bytes r.rest = bytes_rest (print_batch (entries_from 1 (v ∷ s))) r.rest (subst (λ (t : List ℕ). Bytes t) z h) in
        rw (sym (front_judged (v ∷ s) f e)) (bad_length (entries_from 1 (v ∷ s)) z l (rest_bad r.rest c some r.stops))
    lengths q l false e =
        let r = bytes_split (v ∷ s) 1 h in
        let f : Fronted (v ∷ s) = record { some = there; small = l; version = q } in
        let z : v ∷ s ≡ print_batch (entries_from 1 (v ∷ s)) ++ r.rest =
        ap (λ (t : List ℕ). v ∷ t) r.prints
        ∙ ap (λ (x : ℕ). x ∷ (print_entries (entries_from 1 (v ∷ s)) ++ r.rest)) q in
        let k = length-append (print_batch (entries_from 1 (v ∷ s))) r.rest in
        let m = ltb-false (reach_of (v ∷ s)) (length (v ∷ s)) e in
        let none : length r.rest ≡ 0 = omega (arith, k, ap length z, m) in
        let y : v ∷ s ≡ print_batch (entries_from 1 (v ∷ s)) =
        z ∙ rw (length_none r.rest none) (append-nil (print_batch (entries_from 1 (v ∷ s)))) in
        rw (sym (front_judged (v ∷ s) f e)) (sound (entries_from 1 (v ∷ s)) y l)

    versions : length (v ∷ s) ≤ 67108864 → (x : Bool) → eqb v 1 ≡ x → LayoutSays (v ∷ s) (layout_of (v ∷ s))
    versions l true e = lengths (eqb-true v 1 e) l (ltb (reach_of (v ∷ s)) (length (v ∷ s))) refl
    versions l false e =
        rw (sym (judge_version (v ∷ s) there l (eqb-false v 1 e))) (version refl l (eqb-false v 1 e))

    small : (x : Bool) → ltb 67108864 (length (v ∷ s)) ≡ x → LayoutSays (v ∷ s) (layout_of (v ∷ s))
    small true e = let l = ltb-true 67108864 (length (v ∷ s)) e in rw (sym (judge_over (v ∷ s) l)) (over l)
    small false e = versions (ltb-false 67108864 (length (v ∷ s)) e) (eqb v 1) refl

-- what stands behind printed documents, of which no whole entry is the front
reach_printed : (ds : List (List ℕ)) (t : List ℕ) → length (print_batch ds ++ t) ≤ 67108864 → whole_at t ≡ false
    → reach_of (print_batch ds ++ t) ≡ length (print_batch ds)
unfolding reach_of entries_of
reach_printed ds t l e =
    ap (λ (es : List (List ℕ)). length (print_batch es))
    (entries_printed ds t (omega (arith, length-append (print_entries ds) t))
    ∙ ap (λ (es : List (List ℕ)). ds ++ es) (front_fault t e)
    ∙ append-nil ds)

pub only_layout : (b : List ℕ) {l : Result (Unit {0}) LayoutError} → LayoutSays b l → l ≡ layout_of b
only_layout b (empty e) = judge_empty b (ap length e)
only_layout b (over l) = judge_over b l
only_layout b (version {v} {s} e l n) =
    judge_version b (λ z. omega (arith, z, ap length e)) l (λ z. n (ap (λ (x : List ℕ). get_or x 0 0) (sym e) ∙ z))
only_layout b (bad_length ds {t} e l h) =
    let r = reach_printed ds t (rw e at l) (bad_stops t h) in
    let k = length-append (print_batch ds) t in
    rw e
    (rw (← r)
    (front_judged (print_batch ds ++ t)
    (record { some = λ z. omega (arith, z); small = rw e at l; version = refl })
    (lt-ltb (reach_of (print_batch ds ++ t)) (length (print_batch ds ++ t)) (omega (arith, r, k, bad_some t h)))))
only_layout b (sound ds e l) =
    let a = append-nil (print_entries ds) in
    let r : reach_of (print_batch ds) ≡ length (print_batch ds) = rw a at (reach_printed ds [] (rw a (rw e at l)) refl) in
    rw e
    (front_judged (print_batch ds) (record { some = λ z. omega (arith, z); small = rw e at l; version = refl })
    (le-ltb (reach_of (print_batch ds)) (length (print_batch ds)) (omega (arith, r))))
