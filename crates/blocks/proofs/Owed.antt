-- A block of usual characters is a run of characters of [2]. In order: the code's tests are those of the definitions; what tests that fail
-- say of the bytes; characters of two, three and four bytes; from a place to the next, by how many bytes are owed to the character that is
-- begun; the same of characters of one and two bytes; a block of 64 places, and the place after it.
use mathlib.Core.Path.{◌≡◌, refl, sym, ap, ◌∙◌}
use mathlib.Core.Bool.{Bool, beq, true, false, cond, not, ◌&&◌, ◌||◌, true≢false, false≢true}
use mathlib.Core.List.{List, [], ◌∷◌, ◌++◌}
use mathlib.Core.Option.{some}
use Prim.Native.Nat.{ℕ, zero, suc, ◌+◌, ◌-◌, ◌*◌, ◌≤◌, ◌<◌}
use native.Mathlib.Nat.{add-zero}
use native.Mathlib.Omega.{arith}
use borrow.Author.Tests.{ltb-true, ltb-false, leb-false, eqb-true, eqb-false, lt-ltb, lt-leb, le-leb, eq-eqb, ne_eqb, not-true, not-false}
use lib.Dec.{eqb, leb, ltb}
use lib.ListN.{length, get_or, drop, length-drop}
use lib.Seq.{get_or-drop, drop-drop}
use Rattle.xml.specs.Range.{◌–◌, inside}
use Rattle.xml.specs.Utf8.{utf8, is_scalar}
use Rattle.xml.specs.Character.{character, starts, run}
use Rattle.xml.specs.Productions.{is_char}
use Rattle.xml.proofs.Bools.{inside_bounds}
use Rattle.xml.proofs.Borders.{char_control, char_basic, char_private, char_high}
use Rattle.xml.proofs.Utf8.{scalar_low, scalar_high, encode_two, encode_three, encode_four}
use Rattle.xml.proofs.Character.{character_is}
use Rattle.xml.proofs.Run.{run_low, run_skip}
use Rattle.blocks.specs.Block.{some_of, is_other, Passes}
use Rattle.blocks.specs.Usual.{is_later, is_never, is_outside, differ, is_odd, odd_at, is_cut, cut_at}
use Rattle.blocks.specs.Usual.{is_strange, strange_at, after_later, after_pairs, after_block}
use Rattle.blocks.proofs.Until.{seek_start, seek_past, some_none}
use Rattle.blocks.proofs.Plain.{plain_run}

-- ---- the code's tests

pub never_test : (a : ℕ)
    → (ltb a 0x20 && not ((eqb a 0x9 || eqb a 0xA) || eqb a 0xD) || inside (0xC0 – 0xC1) a) || leb 0xF1 a ≡ is_never a
unfolding is_never
never_test a = go (ltb a 0x20) refl
  where
    go : (x : Bool) → ltb a 0x20 ≡ x
        → (ltb a 0x20 && not ((eqb a 0x9 || eqb a 0xA) || eqb a 0xD) || inside (0xC0 – 0xC1) a) || leb 0xF1 a
        ≡ (ltb a 0x20 && not (is_char a) || inside (0xC0 – 0xC1) a) || leb 0xF1 a
    go true p = rw (← char_control {c = a} (ltb-true a 0x20 p))
    go false p = rw p

module _ (d : List ℕ) (i : ℕ) {x : Bool} (p : x ≡ is_later (get_or d i 0)) where
  pub later_none : not x ≡ true → i ≡ after_later d i
  unfolding after_later
  later_none h = sym (rw (sym p ∙ not-true x h))

  module _ (h : not x ≡ false) {y : Bool} (q : y ≡ is_later (get_or d (i + 1) 0)) where
    pub later_one : not y ≡ true → i + 1 ≡ after_later d i
    unfolding after_later
    later_one k = sym (rw (sym p ∙ not-false x h, sym q ∙ not-true y k))

    module _ (k : not y ≡ false) {z : Bool} (r : z ≡ is_later (get_or d (i + 2) 0)) where
      pub later_two : not z ≡ true → i + 2 ≡ after_later d i
      unfolding after_later
      later_two l = sym (rw (sym p ∙ not-false x h, sym q ∙ not-false y k, sym r ∙ not-true z l))

      pub later_three : not z ≡ false → i + 3 ≡ after_later d i
      unfolding after_later
      later_three l = sym (rw (sym p ∙ not-false x h, sym q ∙ not-false y k, sym r ∙ not-false z l))

module _ (d : List ℕ) (i : ℕ) {x : Bool} (p : x ≡ some_of (λ k. is_other (get_or d (i + k) 0)) 64) where
  pub block_plain : not x ≡ true → i + 64 ≡ after_block d i
  unfolding after_block
  block_plain h = sym (rw (sym p ∙ not-true x h))

  module _ (h : not x ≡ false) {u : ℕ} (w : u ≡ after_pairs d i) where
    pub block_pairs : (u ≡ i → ⊥) → u ≡ after_block d i
    unfolding after_block
    block_pairs n = w ∙ sym (rw (sym p ∙ not-false x h, ← w, ne_eqb u i n))

    module _ (o : u ≡ i) {y : Bool} (q : y ≡ is_cut (get_or d i 0) (get_or d (i + 1) 0) (get_or d (i + 2) 0)) where
      same_place : eqb (after_pairs d i) i ≡ true
      same_place = eq-eqb (after_pairs d i) i (sym w ∙ o)

      pub block_cut : y ≡ true → i ≡ after_block d i
      unfolding after_block cut_at
      block_cut k = sym (rw (sym p ∙ not-false x h, same_place, sym q ∙ k))

      module _ (k : y ≡ false) {z : Bool} (r : z ≡ some_of (λ k. odd_at d (i + k)) 64) where
        pub block_odd : z ≡ true → i ≡ after_block d i
        unfolding after_block cut_at
        block_odd l = sym (rw (sym p ∙ not-false x h, same_place, sym q ∙ k, sym r ∙ l))

        pub block_usual : z ≡ false → {e : ℕ} → e ≡ after_later d (i + 64) → e ≡ after_block d i
        unfolding after_block cut_at
        block_usual l f = f ∙ sym (rw (sym p ∙ not-false x h, same_place, sym q ∙ k, sym r ∙ l))

-- the shorter test
module _ (d : List ℕ) (i : ℕ) {x : Bool} (p : x ≡ is_later (get_or d i 0)) where
  pub pairs_later : x ≡ true → i ≡ after_pairs d i
  unfolding after_pairs
  pairs_later h = sym (rw (sym p ∙ h))

  module _ (h : x ≡ false) {y : Bool} (q : y ≡ some_of (λ k. strange_at d (i + k)) 64) where
    pub pairs_strange : y ≡ true → i ≡ after_pairs d i
    unfolding after_pairs
    pairs_strange k = sym (rw (sym p ∙ h, sym q ∙ k))

    module _ (k : y ≡ false) {z : Bool} (r : z ≡ is_later (get_or d (i + 64) 0)) where
      pub pairs_over : z ≡ true → i + 65 ≡ after_pairs d i
      unfolding after_pairs
      pairs_over l = sym (rw (sym p ∙ h, sym q ∙ k, sym r ∙ l))

      pub pairs_end : z ≡ false → i + 64 ≡ after_pairs d i
      unfolding after_pairs
      pairs_end l = sym (rw (sym p ∙ h, sym q ∙ k, sym r ∙ l))

pub strange_test : (a b : ℕ) → (is_never a || leb 0xE0 a) || not (beq (leb 0xC0 a) (is_later b)) ≡ is_strange a b
unfolding is_strange differ
strange_test a b = refl

-- ---- what tests that fail say of the bytes

neither : (x y : Bool) → x || y ≡ false → (x ≡ false) × (y ≡ false)
neither true y e = absurd (true≢false e)
neither false true e = absurd (true≢false e)
neither false false e = (refl, refl)

apart : (x y : Bool) → x && y ≡ false → x ≡ true → y ≡ false
apart true y e h = e
apart false y e h = absurd (false≢true h)

same : (x y : Bool) → differ x y ≡ false → x ≡ y
unfolding differ
same true true e = refl
same true false e = absurd (true≢false e)
same false true e = absurd (true≢false e)
same false false e = refl

module _ (b : ℕ) (e : is_later b ≡ true) where
  later_bounds : (0x80 ≤ b) × (b ≤ 0xBF)
  unfolding is_later
  later_bounds = inside_bounds (0x80 – 0xBF) b e

  -- it asks for nothing
  later_asks : (leb 0xC0 b ≡ false) × (leb 0xE0 b ≡ false) × (leb 0xF0 b ≡ false)
  later_asks =
      let (l, h) = later_bounds in
      (lt-leb 0xC0 b (omega arith), lt-leb 0xE0 b (omega arith), lt-leb 0xF0 b (omega arith))

later_not : (b : ℕ) → is_later b ≡ false → 0x80 ≤ b → 0xC0 ≤ b
unfolding is_later
later_not b e l = let h = leb-false b 0xBF (apart (leb 0x80 b) _ e (le-leb 0x80 b l)) in omega arith

module _ (a : ℕ) (e : is_never a ≡ false) where
  never_char : a < 0x80 → is_char a ≡ true
  unfolding is_never
  never_char h = go (ltb a 0x20) refl
    where
      go : (x : Bool) → ltb a 0x20 ≡ x → is_char a ≡ true
      go true p =
          not-false (is_char a) (apart (ltb a 0x20) _ (neither (ltb a 0x20 && not (is_char a)) _ (neither _ (leb 0xF1 a) e).0).0 p)
      go false p = sym (char_basic {c = a} (ltb-false a 0x20 p) (omega arith))

  never_bounds : 0xC0 ≤ a → (0xC2 ≤ a) × (a ≤ 0xF0)
  unfolding is_never
  never_bounds h =
      let (p, q) = neither (ltb a 0x20 && not (is_char a) || inside (0xC0 – 0xC1) a) _ e in
      let l = leb-false a 0xC1 (apart (leb 0xC0 a) _ (neither (ltb a 0x20 && not (is_char a)) _ p).1 (le-leb 0xC0 a h)) in
      let m = leb-false 0xF1 a q in
      omega arith

module _ (a b : ℕ) (e : is_outside a b ≡ false) where
  outside_parts : (eqb a 0xE0 && ltb b 0xA0 ≡ false) × (eqb a 0xED && leb 0xA0 b ≡ false) × (eqb a 0xEF && eqb b 0xBF ≡ false)
      × (eqb a 0xF0 && ltb b 0x90 ≡ false)
  unfolding is_outside
  outside_parts =
      let (p, q) = neither ((eqb a 0xE0 && ltb b 0xA0 || eqb a 0xED && leb 0xA0 b) || eqb a 0xEF && eqb b 0xBF) _ e in
      let (r, s) = neither (eqb a 0xE0 && ltb b 0xA0 || eqb a 0xED && leb 0xA0 b) _ p in
      let (t, u) = neither (eqb a 0xE0 && ltb b 0xA0) _ r in
      (t, u, s, q)

  after_e0 : a ≡ 0xE0 → 0xA0 ≤ b
  after_e0 h = ltb-false b 0xA0 (apart (eqb a 0xE0) _ outside_parts.0 (eq-eqb a 0xE0 h))

  after_ed : a ≡ 0xED → b < 0xA0
  after_ed h = leb-false 0xA0 b (apart (eqb a 0xED) _ outside_parts.1 (eq-eqb a 0xED h))

  after_ef : a ≡ 0xEF → b ≡ 0xBF → ⊥
  after_ef h = eqb-false b 0xBF (apart (eqb a 0xEF) _ outside_parts.2 (eq-eqb a 0xEF h))

  after_f0 : a ≡ 0xF0 → 0x90 ≤ b
  after_f0 h = ltb-false b 0x90 (apart (eqb a 0xF0) _ outside_parts.3 (eq-eqb a 0xF0 h))

-- ---- characters of two, three and four bytes

-- a run passes the first byte of a character, and then owes the others
run_wide : (g a : ℕ) (w s : List ℕ) → is_scalar g ≡ true → is_char g ≡ true → utf8 g ≡ a ∷ w
    → run is_char 0 (a ∷ (w ++ s)) ≡ run is_char (length w) (w ++ s)
unfolding run starts
run_wide g a w s h q e =
    let k : character (a ∷ (w ++ s)) ≡ some g = character_is (a ∷ (w ++ s)) g s h (ap (λ (v : List ℕ). v ++ s) (sym e)) in
    rw (k, q, e)

module _ (a b : ℕ) (s : List ℕ) (kb : is_later b ≡ true) where
  run_two : 0xC2 ≤ a → a ≤ 0xDF → run is_char 0 (a ∷ b ∷ s) ≡ run is_char 1 (b ∷ s)
  run_two l h =
      let (lb, hb) = later_bounds b kb in
      let g = a * 0x40 + b - 0x3080 in
      run_wide g a (b ∷ []) s (scalar_low g (omega arith)) (sym (char_basic {c = g} (omega arith) (omega arith)))
      (encode_two a b g (omega arith) l h lb hb)

  module _ (o : is_outside a b ≡ false) (c : ℕ) (kc : is_later c ≡ true) where
    three_least : 0xE0 ≤ a → 0xE2880 ≤ a * 0x1000 + b * 0x40 + c
    three_least l = go (eqb a 0xE0) refl
      where
        go : (x : Bool) → eqb a 0xE0 ≡ x → 0xE2880 ≤ a * 0x1000 + b * 0x40 + c
        go true e = let k = eqb-true a 0xE0 e in omega (arith, after_e0 a b o k, later_bounds c kc)
        go false e = let k = eqb-false a 0xE0 e in omega (arith, k, later_bounds b kb, later_bounds c kc)

    -- below the surrogates, or above them and below U+FFFE
    three_allowed : (g : ℕ) → g + 0xE2080 ≡ a * 0x1000 + b * 0x40 + c → 0x800 ≤ g → a ≤ 0xEF → (is_scalar g ≡ true) × (is_char g ≡ true)
    three_allowed g e m h = go (ltb a 0xED) (eqb a 0xED) (eqb a 0xEF) refl refl refl
      where
        low : g < 0xD800 → (is_scalar g ≡ true) × (is_char g ≡ true)
        low k = (scalar_low g k, sym (char_basic {c = g} (omega arith) k))

        high : 0xE000 ≤ g → g < 0xFFFE → (is_scalar g ≡ true) × (is_char g ≡ true)
        high k n = (scalar_high g k (omega arith), sym (char_private {c = g} k n))

        go : (x y z : Bool) → ltb a 0xED ≡ x → eqb a 0xED ≡ y → eqb a 0xEF ≡ z → (is_scalar g ≡ true) × (is_char g ≡ true)
        go true y z p q r = let k = ltb-true a 0xED p in low (omega (arith, later_bounds b kb, later_bounds c kc))
        go false true z p q r = let k = eqb-true a 0xED q in low (omega (arith, after_ed a b o k, later_bounds c kc))
        go false false true p q r =
            let k = eqb-true a 0xEF r in
            let n = after_ef a b o k in
            high (omega (arith, later_bounds b kb, later_bounds c kc)) (omega (arith, n, later_bounds b kb, later_bounds c kc))
        go false false false p q r =
            let k = ltb-false a 0xED p in
            let n = eqb-false a 0xED q in
            let f = eqb-false a 0xEF r in
            high (omega (arith, n, later_bounds b kb, later_bounds c kc)) (omega (arith, f, later_bounds b kb, later_bounds c kc))

    run_three : 0xE0 ≤ a → a ≤ 0xEF → run is_char 0 (a ∷ b ∷ c ∷ s) ≡ run is_char 2 (b ∷ c ∷ s)
    run_three l h =
        let (lb, hb) = later_bounds b kb in
        let (lc, hc) = later_bounds c kc in
        let g = a * 0x1000 + b * 0x40 + c - 0xE2080 in
        let k = three_least l in
        let e : g + 0xE2080 ≡ a * 0x1000 + b * 0x40 + c = omega arith in
        let m : 0x800 ≤ g = omega arith in
        let (p, q) = three_allowed g e m h in
        run_wide g a (b ∷ c ∷ []) s p q (encode_three a b c g e h lb hb lc hc m)

    run_four : (d : ℕ) → is_later d ≡ true → a ≡ 0xF0 → run is_char 0 (a ∷ b ∷ c ∷ d ∷ s) ≡ run is_char 3 (b ∷ c ∷ d ∷ s)
    run_four d kd h =
        let (lb, hb) = later_bounds b kb in
        let (lc, hc) = later_bounds c kc in
        let (ld, hd) = later_bounds d kd in
        let m = after_f0 a b o h in
        let g = a * 0x40000 + b * 0x1000 + c * 0x40 + d - 0x3C82080 in
        let e : g + 0x3C82080 ≡ a * 0x40000 + b * 0x1000 + c * 0x40 + d = omega arith in
        let k : 0x10000 ≤ g = omega arith in
        run_wide g a (b ∷ c ∷ d ∷ []) s (scalar_high g (omega arith) (omega arith))
        (sym (char_high {c = g} k) ∙ lt-ltb g 0x110000 (omega arith)) (encode_four a b c d g e lb hb lc hc ld hd k)

-- ---- from a place to the next

-- n bytes from x on are owed to the character that is begun; those after them, up to z, go on with a character where it is asked for
data Owed (x y z n : ℕ) : Type 0 where
  none : n ≡ 0 → is_later x ≡ false → is_later y ≡ leb 0xC0 x → is_later z ≡ (leb 0xE0 x || leb 0xC0 y) → Owed x y z n
  one : n ≡ 1 → is_later x ≡ true → is_later y ≡ false → is_later z ≡ leb 0xC0 y → Owed x y z n
  two : n ≡ 2 → is_later x ≡ true → is_later y ≡ true → is_later z ≡ false → Owed x y z n
  three : n ≡ 3 → is_later x ≡ true → is_later y ≡ true → is_later z ≡ true → Owed x y z n

owed_start : (a b c : ℕ) → is_cut a b c ≡ false → Owed a b c 0
unfolding is_cut
owed_start a b c e =
    let (p, q) = neither (is_later a || differ (leb 0xC0 a) (is_later b)) _ e in
    let (r, t) = neither (is_later a) _ p in
    none refl r (sym (same _ (is_later b) t)) (sym (same _ (is_later c) q))

module _ (x y z w : ℕ) (s : List ℕ) (odd : is_odd x y z w ≡ false) where
  abbrev Next : ℕ → Type 0
  Next n = (m : ℕ) × Owed y z w m × (run is_char n (x ∷ y ∷ z ∷ w ∷ s) ≡ run is_char m (y ∷ z ∷ w ∷ s))

  odd_parts : (is_never x ≡ false) × (is_outside x y ≡ false) × (is_later w ≡ ((leb 0xF0 x || leb 0xE0 y) || leb 0xC0 z))
  unfolding is_odd
  odd_parts =
      let (p, q) = neither (is_never x || is_outside x y) _ odd in
      let (r, t) = neither (is_never x) _ p in
      (r, t, sym (same _ (is_later w) q))

  -- a character begins with x
  begun : is_later x ≡ false → is_later y ≡ leb 0xC0 x → is_later z ≡ (leb 0xE0 x || leb 0xC0 y) → Next 0
  begun p q r = go (ltb x 0x80) (ltb x 0xE0) (ltb x 0xF0) refl refl refl
    where
      last : is_later w ≡ ((leb 0xF0 x || leb 0xE0 y) || leb 0xC0 z)
      last = odd_parts.2

      bounds : 0x80 ≤ x → (0xC2 ≤ x) × (x ≤ 0xF0)
      bounds l = never_bounds x odd_parts.0 (later_not x p l)

      second : 0x80 ≤ x → is_later y ≡ true
      second l = q ∙ le-leb 0xC0 x (later_not x p l)

      third : 0xE0 ≤ x → is_later z ≡ true
      third l = r ∙ rw (le-leb 0xE0 x l)

      go : (t u v : Bool) → ltb x 0x80 ≡ t → ltb x 0xE0 ≡ u → ltb x 0xF0 ≡ v → Next 0
      go true u v a b c =
          let h = ltb-true x 0x80 a in (
            0,
            none refl (q ∙ lt-leb 0xC0 x (omega arith)) (r ∙ rw (lt-leb 0xE0 x (omega arith))) (last ∙ rw (lt-leb 0xF0 x (omega arith))),
            run_low is_char x _ h ∙ rw (never_char x odd_parts.0 h),
          )
      go false true v a b c =
          let l = ltb-false x 0x80 a in
          let h = ltb-true x 0xE0 b in
          let k = second l in (
            1,
            one refl k (r ∙ rw (lt-leb 0xE0 x h, (later_asks y k).0)) (last ∙ rw (lt-leb 0xF0 x (omega arith), (later_asks y k).1)),
            run_two x y (z ∷ w ∷ s) k (bounds l).0 (omega arith),
          )
      go false false true a b c =
          let l = ltb-false x 0xE0 b in
          let h = ltb-true x 0xF0 c in
          let k = second (omega arith) in
          let m = third l in (
            2,
            two refl k m (last ∙ rw (lt-leb 0xF0 x h, (later_asks y k).1, (later_asks z m).0)),
            run_three x y (w ∷ s) k odd_parts.1 z m l (omega arith),
          )
      go false false false a b c =
          let l = ltb-false x 0xF0 c in
          let (_, h) = bounds (omega arith) in
          let k = second (omega arith) in
          let m = third (omega arith) in
          let n : is_later w ≡ true = last ∙ rw (le-leb 0xF0 x l) in
          (3, three refl k m n, run_four x y s k odd_parts.1 z m w n (omega arith))

  next : (n : ℕ) → Owed x y z n → Next n
  unfolding run
  next n (none e p q r) = rw e (begun p q r)
  next n (one e p q r) = (0, none refl q r (odd_parts.2 ∙ rw (later_asks x p).2), rw e)
  next n (two e p q r) = (1, one refl q r (odd_parts.2 ∙ rw ((later_asks x p).2, (later_asks y q).1)), rw e)
  next n (three e p q r) = (2, two refl q r (odd_parts.2 ∙ rw ((later_asks x p).2, (later_asks y q).1, (later_asks z r).0)), rw e)

-- ---- a block

abbrev OwedOn : List ℕ → ℕ → Type 0
OwedOn s n = Owed (get_or s 0 0) (get_or s 1 0) (get_or s 2 0) n

abbrev odd_on : List ℕ → Bool
odd_on s = is_odd (get_or s 0 0) (get_or s 1 0) (get_or s 2 0) (get_or s 3 0)

-- k places on, none of them odd
places_on : (k : ℕ) (s : List ℕ) (n : ℕ) → k + 3 ≤ length s → OwedOn s n → ((j : ℕ) → j < k → odd_on (drop j s) ≡ false)
    → (m : ℕ) × OwedOn (drop k s) m × (run is_char m (drop k s) ≡ run is_char n s)
places_on zero s n h o f = (n, o, refl)
places_on (suc k) [] n h o f = absurd (omega arith)
places_on (suc k) (x ∷ []) n h o f = absurd (omega arith)
places_on (suc k) (x ∷ y ∷ []) n h o f = absurd (omega arith)
places_on (suc k) (x ∷ y ∷ z ∷ []) n h o f = absurd (omega arith)
places_on (suc k) (x ∷ y ∷ z ∷ w ∷ s) n h o f =
    let (m, p, e) = next x y z w s (f 0 (omega arith)) n o in
    let (m', p', e') = places_on k (y ∷ z ∷ w ∷ s) m (omega arith) p (λ j l. f (suc j) (omega arith)) in
    (m', p', e' ∙ sym e)

-- the bytes that are owed are those that go on with a character
module _ (d : List ℕ) (j m : ℕ) where
  owed_after : Owed (get_or d j 0) (get_or d (j + 1) 0) (get_or d (j + 2) 0) m → (after_later d j ≡ j + m) × (m ≤ 3)
  unfolding after_later
  owed_after (none e p q r) = (rw p (omega arith), omega arith)
  owed_after (one e p q r) = (rw (p, q) (omega arith), omega arith)
  owed_after (two e p q r) = (rw (p, q, r) (omega arith), omega arith)
  owed_after (three e p q r) = (rw (p, q, r) (omega arith), omega arith)

-- ---- the same of characters of one and two bytes

-- one byte is owed, or none: x goes on with a character, or not
module _ (x y : ℕ) (s : List ℕ) (e : is_strange x y ≡ false) where
  strange_parts : (is_never x ≡ false) × (x < 0xE0) × (leb 0xC0 x ≡ is_later y)
  unfolding is_strange
  strange_parts =
      let (p, q) = neither (is_never x || leb 0xE0 x) _ e in
      let (r, t) = neither (is_never x) _ p in
      (r, leb-false 0xE0 x t, same _ (is_later y) q)

  pair_next : (n : ℕ) → n ≡ cond (is_later x) 1 0 → run is_char (cond (is_later y) 1 0) (y ∷ s) ≡ run is_char n (x ∷ y ∷ s)
  unfolding run
  pair_next n h = go (is_later x) (ltb x 0x80) refl refl
    where
      low : x < 0xC0 → is_later y ≡ false
      low l = sym strange_parts.2 ∙ lt-leb 0xC0 x l

      go : (k t : Bool) → is_later x ≡ k → ltb x 0x80 ≡ t → run is_char (cond (is_later y) 1 0) (y ∷ s) ≡ run is_char n (x ∷ y ∷ s)
      go true t p q =
          let (_, u) = later_bounds x p in
          rw (h, p, low (omega arith))
      go false true p q =
          let l = ltb-true x 0x80 q in
          rw (h, p, low (omega arith)) (sym (run_low is_char x (y ∷ s) l ∙ rw (never_char x strange_parts.0 l)))
      go false false p q =
          let l = later_not x p (ltb-false x 0x80 q) in
          let k : is_later y ≡ true = sym strange_parts.2 ∙ le-leb 0xC0 x l in
          let u = strange_parts.1 in
          rw (h, p, k) (sym (run_two x y s k (never_bounds x strange_parts.0 l).0 (omega arith)))

abbrev strange_on : List ℕ → Bool
strange_on s = is_strange (get_or s 0 0) (get_or s 1 0)

abbrev owed_on : List ℕ → ℕ
owed_on s = cond (is_later (get_or s 0 0)) 1 0

pairs_on : (k : ℕ) (s : List ℕ) → k + 1 ≤ length s → ((j : ℕ) → j < k → strange_on (drop j s) ≡ false)
    → run is_char (owed_on (drop k s)) (drop k s) ≡ run is_char (owed_on s) s
pairs_on zero s h f = refl
pairs_on (suc k) [] h f = absurd (omega arith)
pairs_on (suc k) (x ∷ []) h f = absurd (omega arith)
pairs_on (suc k) (x ∷ y ∷ s) h f =
    pairs_on k (y ∷ s) (omega arith) (λ j l. f (suc j) (omega arith)) ∙ pair_next x y s (f 0 (omega arith)) _ refl

module _ (d : List ℕ) (i : ℕ) where
  byte_drop : (k : ℕ) → get_or (drop i d) k 0 ≡ get_or d (i + k) 0
  byte_drop k = get_or-drop i d k 0

  first_drop : get_or (drop i d) 0 0 ≡ get_or d i 0
  first_drop = byte_drop 0 ∙ ap (λ (k : ℕ). get_or d k 0) (add-zero i)

  strange_drop : strange_on (drop i d) ≡ strange_at d i
  unfolding strange_at
  strange_drop = rw (first_drop, byte_drop 1)

  odd_drop : odd_on (drop i d) ≡ odd_at d i
  unfolding odd_at
  odd_drop = rw (first_drop, byte_drop 1, byte_drop 2, byte_drop 3)

  owed_drop : (n : ℕ) → OwedOn (drop i d) n ≡ Owed (get_or d i 0) (get_or d (i + 1) 0) (get_or d (i + 2) 0) n
  owed_drop n = rw (first_drop, byte_drop 1, byte_drop 2)

module _ (d : List ℕ) (i : ℕ) (h : i + 67 ≤ length d) where
  none_passed : Passes d i i
  none_passed = record { ahead = omega arith; inside = omega arith; same = refl }

  plain_passed : some_of (λ k. is_other (get_or d (i + k) 0)) 64 ≡ false → Passes d i (i + 64)
  plain_passed n =
      let v = seek_past (seek_start {p = is_other} {d = d} {from = i} (omega arith)) 64 (omega arith) refl n in
      record {
        ahead = omega arith;
        inside = omega arith;
        same = sym (plain_run (drop (i + 64) d)) ∙ ap (run is_char 0) v.same ∙ plain_run (drop i d);
      }

  usual_passed : cut_at d i ≡ false → some_of (λ k. odd_at d (i + k)) 64 ≡ false → Passes d i (after_later d (i + 64))
  unfolding cut_at
  usual_passed c n =
      let l : 64 + 3 ≤ length (drop i d) = omega (arith, length-drop i d) in
      let o : OwedOn (drop i d) 0 = rw (owed_drop d i 0) (owed_start _ _ _ c) in
      let f = some_none (λ k. odd_at d (i + k)) 64 n in
      let (m, p, e) = places_on 64 (drop i d) 0 l o (λ j k. rw (drop-drop j i d, odd_drop d (i + j)) (f j k)) in
      let (q, b) = owed_after d (i + 64) m (rw (drop-drop 64 i d, owed_drop d (i + 64) m) at p) in
      rw q (record { ahead = omega arith; inside = omega arith; same = rest m e })
    where
      rest : (m : ℕ) → run is_char m (drop 64 (drop i d)) ≡ run is_char 0 (drop i d)
          → run is_char 0 (drop (i + 64 + m) d) ≡ run is_char 0 (drop i d)
      rest m e =
          ap (run is_char 0) (sym (ap (drop m) (drop-drop 64 i d) ∙ drop-drop m (i + 64) d))
          ∙ sym (run_skip is_char m (drop 64 (drop i d))) ∙ e

  pairs_passed : Passes d i (after_pairs d i)
  unfolding after_pairs
  pairs_passed = go (is_later (get_or d i 0)) (some_of (λ k. strange_at d (i + k)) 64) (is_later (get_or d (i + 64) 0)) refl refl refl
    where
      rest : is_later (get_or d i 0) ≡ false → some_of (λ k. strange_at d (i + k)) 64 ≡ false → (b : Bool)
          → is_later (get_or d (i + 64) 0) ≡ b
          → run is_char (cond b 1 0) (drop (i + 64) d) ≡ run is_char 0 (drop i d)
      rest p q b r =
          let l : 64 + 1 ≤ length (drop i d) = omega (arith, length-drop i d) in
          let f = some_none (λ k. strange_at d (i + k)) 64 q in
          let e = pairs_on 64 (drop i d) l (λ j k. rw (drop-drop j i d, strange_drop d (i + j)) (f j k)) in
          rw (drop-drop 64 i d, first_drop d (i + 64), r, first_drop d i, p) at e

      go : (x y z : Bool) → is_later (get_or d i 0) ≡ x → some_of (λ k. strange_at d (i + k)) 64 ≡ y → is_later (get_or d (i + 64) 0) ≡ z
          → Passes d i (cond x i (cond y i (cond z (i + 65) (i + 64))))
      go true y z p q r = none_passed
      go false true z p q r = none_passed
      go false false true p q r =
          let one : (i + 64) + 1 ≡ i + 65 = omega arith in
          record {
            ahead = omega arith;
            inside = omega arith;
            same =
                ap (run is_char 0) (sym (drop-drop 1 (i + 64) d ∙ ap (λ (k : ℕ). drop k d) one))
                ∙ sym (run_skip is_char 1 (drop (i + 64) d)) ∙ rest p q true r;
          }
      go false false false p q r = record { ahead = omega arith; inside = omega arith; same = rest p q false r }

  pub block_passed : Passes d i (after_block d i)
  unfolding after_block
  block_passed =
      go (some_of (λ k. is_other (get_or d (i + k) 0)) 64) (eqb (after_pairs d i) i) (cut_at d i) (some_of (λ k. odd_at d (i + k)) 64)
      refl refl refl
    where
      go : (x v y z : Bool) → some_of (λ k. is_other (get_or d (i + k) 0)) 64 ≡ x → cut_at d i ≡ y → some_of (λ k. odd_at d (i + k)) 64 ≡ z
          → Passes d i (cond x (cond v (cond y i (cond z i (after_later d (i + 64)))) (after_pairs d i)) (i + 64))
      go false v y z p q r = plain_passed p
      go true false y z p q r = pairs_passed
      go true true true z p q r = none_passed
      go true true false true p q r = none_passed
      go true true false false p q r = usual_passed q r
