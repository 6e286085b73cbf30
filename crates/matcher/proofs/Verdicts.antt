-- The verdict: the state of an element's parent and the element's fit give it, `verdict_laid` for anything that steps may fit and
-- `verdict_plain` for names. Some path is hit where some path can be laid; a path past the last can be laid nowhere. They give the paths
-- whose steps select the element, too, as bits, `selecting_are`; and those of them whose test it passes give the verdict, `picked_verdict`.
-- Then where the verdict on names is that with attributes: where it is that no path selects, and where no path has a test.
use mathlib.Core.Path.{◌≡◌, refl, sym, ap, ap₂, ◌∙◌}
use mathlib.Core.Bool.{Bool, true, false, cond, ◌&&◌, ◌||◌, or_assoc, or-false, true≢false}
use mathlib.Core.List.{List, [], ◌∷◌, ◌++◌, map}
use mathlib.Core.Logic.{◌↔◌}
use mathlib.Core.Option.{Option}
use Prim.Native.Nat.{ℕ, zero, suc, ◌+◌, ◌-◌, ◌*◌, ◌/◌, ◌^◌, ◌≤◌, ◌<◌}
use native.Mathlib.Nat.{pow-zero, pow-le-pow_right}
use native.Mathlib.Omega.{arith}
use lib.ListN.{length, replicate}
use lib.Bits.{bit_or, or_zero_l, or_add_and, and_le_r}
use Rattle.xml.proofs.Bools.{and_right}
use Rattle.paths.specs.Path.{Step, AttributeTest, Path, All, more}
use Rattle.attributes.specs.Attribute.{Attribute}
use Rattle.lookup.specs.Index.{padded}
use Rattle.compiled.specs.Bits.{bit, bits_of, column, last_bit, lasts_of, marks_of, fit_of}
use Rattle.compiled.specs.Built.{listed}
use Rattle.matcher.specs.Select.{PassesName}
use Rattle.matcher.specs.Test.{lays, passes_name, selects}
use Rattle.matcher.specs.Pick.{passes_test, picks}
use Rattle.matcher.specs.Says.{some, decided, verdict_of}
use Rattle.matcher.specs.Picked.{some_set, passing_of, picked_by, Untested}
use Rattle.matcher.specs.Fit.{fit_for}
use Rattle.matcher.specs.State.{fresh_state, down, state_of, joined, nonzero, hit_at, any_hit, verdict_by, selecting_by}
use Rattle.matcher.specs.declared.Verdict.{Verdict}
use Rattle.matcher.specs.declared.Verdict.TheVariants.{Unselected}
use Rattle.matcher.proofs.Places.{passes_decides}
use Rattle.matcher.proofs.Hits.{lays_none}
use Rattle.matcher.proofs.Digits.{bit_half, bit_odd}
use Rattle.matcher.proofs.Carrying.{nonzero_not}
use Rattle.matcher.proofs.AllPaths.{fit_with, no_path, path_at, steps_at, among_hit}

-- ---- some hit

abbrev up_to : (ℕ → Bool) → ℕ → Bool
up_to f zero = false
up_to f (suc k) = up_to f k || f k

nonzero_or : (x y : ℕ) → nonzero (bit_or x y) ≡ nonzero x || nonzero y
nonzero_or zero y = ap nonzero (or_zero_l y)
nonzero_or (suc x) y = positive (bit_or (suc x) y) (let a = or_add_and (suc x) y in let b = and_le_r (suc x) y in omega arith)
  where
    positive : (z : ℕ) → 0 < z → nonzero z ≡ true
    positive zero l = absurd (omega arith)
    positive (suc z) l = refl

nonzero_joined : (h : ℕ → ℕ) (g : ℕ → Bool) (k : ℕ) → ((i : ℕ) → i < k → nonzero (h i) ≡ g i) → nonzero (joined h k) ≡ up_to g k
nonzero_joined h g zero e = refl
nonzero_joined h g (suc k) e =
    nonzero_or (joined h k) (h k) ∙ ap₂ (λ (a b : Bool). a || b) (nonzero_joined h g k (λ i l. e i (omega arith))) (e k (omega arith))

-- the first by itself
upto_first : (g : ℕ → Bool) (k : ℕ) → up_to g (suc k) ≡ (g 0 || up_to (λ i. g (suc i)) k)
upto_first g zero = sym (or-false (g 0))
upto_first g (suc k) =
    ap (λ (b : Bool). b || g (suc k)) (upto_first g k) ∙ or_assoc (g 0) (up_to (λ i. g (suc i)) k) (g (suc k))

upto_none : (k : ℕ) → up_to (λ i. false) k ≡ false
upto_none zero = refl
upto_none (suc k) = rw (upto_none k)

upto_some : (f : Path → Bool) → f no_path ≡ false → (ps : List Path) (k : ℕ) → length ps ≤ k → up_to (λ i. f (path_at ps i)) k ≡ some f ps
upto_some f e [] k l = rw e (upto_none k)
upto_some f e (p ∷ ps) zero l = absurd (omega arith)
upto_some f e (p ∷ ps) (suc k) l =
    upto_first (λ i. f (path_at (p ∷ ps) i)) k ∙ ap (λ (b : Bool). f p || b) (upto_some f e ps k (omega arith))

-- ---- bits of all paths

listed_same : (f g : ℕ → Bool) (i n : ℕ) → ((k : ℕ) → k < i + n → f k ≡ g k) → listed f i n ≡ listed g i n
listed_same f g i zero h = refl
listed_same f g i (suc n) h =
    ap₂ (λ (b : Bool) (bs : List Bool). b ∷ bs) (h i (omega arith)) (listed_same f g (suc i) n (λ k l. h k (omega arith)))

listed_later : (f : ℕ → Bool) (i n : ℕ) → listed f (suc i) n ≡ listed (λ k. f (suc k)) i n
listed_later f i zero = refl
listed_later f i (suc n) = ap (λ (bs : List Bool). f (suc i) ∷ bs) (listed_later f (suc i) n)

bits_none : (b : Bool) → b ≡ false → (i n : ℕ) → bits_of (listed (λ k. b) i n) ≡ 0
bits_none b e i zero = refl
bits_none b e i (suc n) = ap₂ (λ (c : Bool) (k : ℕ). bit c + 2 * k) e (bits_none b e (suc i) n)

bits_listed : (f : Path → Bool) → f no_path ≡ false → (ps : List Path) (n : ℕ) → length ps ≤ n
    → bits_of (listed (λ i. f (path_at ps i)) 0 n) ≡ bits_of (map f ps)
bits_listed f e [] n l = bits_none (f no_path) e 0 n
bits_listed f e (p ∷ ps) zero l = absurd (omega arith)
bits_listed f e (p ∷ ps) (suc n) l =
    ap (λ (k : ℕ). bit (f p) + 2 * k)
    (ap bits_of (listed_later (λ i. f (path_at (p ∷ ps) i)) 0 n) ∙ bits_listed f e ps n (omega arith))

-- ---- tests on all paths

some_fewer : (f g : Path → Bool) → ((p : Path) → f p ≡ true → g p ≡ true) → (ps : List Path) → some g ps ≡ false → some f ps ≡ false
some_fewer f g h [] e = refl
some_fewer f g h (p ∷ ps) e = go (f p) (g p) (h p) e (some_fewer f g h ps)
  where
    go : (b c : Bool) → (b ≡ true → c ≡ true) → (c || some g ps) ≡ false → (some g ps ≡ false → some f ps ≡ false)
        → (b || some f ps) ≡ false
    go b true q e r = absurd (true≢false e)
    go true false q e r = absurd (true≢false (sym (q refl)))
    go false false q e r = r e

decided_none : (b c : Bool) → decided b c ≡ Unselected → c ≡ false
decided_none true c e = cc
decided_none false true e = cc
decided_none false false e = refl

-- ---- the verdict

module _ {A : Type 0} (Fits : Step → A → Type 0) (fits : Step → A → Bool) (decides : (s : Step) (x : A) → Fits s x ↔ (fits s x ≡ true))
    (ps : List Path) (few : length ps ≤ 32) (short : All (λ p. length p.steps ≤ 16) ps) (above : List A) (x : A) where
  -- the paths that can be laid to an element, those that are marked and all
  pub verdict_laid : verdict_by (down (fit_with fits ps) fresh_state above) (fit_with fits ps x)
      ≡ decided (some (λ p. p.marked && lays fits (above ++ x ∷ []) p.steps) ps) (some (λ p. lays fits (above ++ x ∷ []) p.steps) ps)
  unfolding verdict_by any_hit lasts_of marks_of
  verdict_laid =
      let f = fit_with fits ps x in
      let bits = (down (fit_with fits ps) fresh_state above).bits in
      let unlaid = lays_none fits above x in
      ap₂ decided
      (nonzero_joined (hit_at bits f.passes f.stays f.goes f.marks)
      (λ i. (path_at ps i).marked && lays fits (above ++ x ∷ []) (steps_at ps i)) 32
      (among_hit Fits fits decides ps short above x (λ p. p.marked))
      ∙ upto_some (λ p. p.marked && lays fits (above ++ x ∷ []) p.steps) refl ps 32 few)
      (nonzero_joined (hit_at bits f.passes f.stays f.goes f.lasts) (λ i. lays fits (above ++ x ∷ []) (steps_at ps i)) 32
      (among_hit Fits fits decides ps short above x (λ p. true))
      ∙ upto_some (λ p. lays fits (above ++ x ∷ []) p.steps) unlaid ps 32 few)

  -- the paths that can be laid to it, as bits
  pub selecting_laid : selecting_by (down (fit_with fits ps) fresh_state above) (fit_with fits ps x)
      ≡ bits_of (map (λ p. lays fits (above ++ x ∷ []) p.steps) ps)
  unfolding selecting_by lasts_of
  selecting_laid =
      ap bits_of (listed_same _ (λ i. lays fits (above ++ x ∷ []) (steps_at ps i)) 0 32
      (λ k l. among_hit Fits fits decides ps short above x (λ p. true) k l))
      ∙ bits_listed (λ p. lays fits (above ++ x ∷ []) p.steps) (lays_none fits above x) ps 32 few

-- ---- on names

-- whether a marked path selects, and whether any does
abbrev pub names_verdict : List Path → List (List ℕ) → Verdict
names_verdict ps names = decided (some (λ p. p.marked && selects p.steps names) ps) (some (λ p. selects p.steps names) ps)

module _ (ps : List Path) (few : length ps ≤ 32) (short : All (λ p. length p.steps ≤ 16) ps) (names : List (List ℕ)) (n : List ℕ) where
  -- without a look at attributes
  pub verdict_plain : verdict_by (state_of ps names) (fit_for ps n) ≡ names_verdict ps (names ++ n ∷ [])
  unfolding state_of fit_for fit_of
  verdict_plain = verdict_laid PassesName passes_name passes_decides ps few short names n

  pub selecting_are : selecting_by (state_of ps names) (fit_for ps n) ≡ bits_of (map (λ p. selects p.steps (names ++ n ∷ [])) ps)
  unfolding state_of fit_for fit_of
  selecting_are = selecting_laid PassesName passes_name passes_decides ps few short names n

-- ---- with attributes

-- the bits of those that pick
pub passing_are : (ps : List Path) (names : List (List ℕ)) (xs : List Attribute)
    → passing_of ps (bits_of (map (λ p. selects p.steps names) ps)) xs ≡ bits_of (map (λ p. picks p names xs) ps)
unfolding passing_of
passing_are [] names xs = refl
passing_are (p ∷ ps) names xs =
    let g : Path → Bool = λ p. selects p.steps names in
    ap₂ (λ (b : Bool) (k : ℕ). bit (passes_test p.test xs && b) + 2 * passing_of ps k xs)
    (bit_odd (g p) (bits_of (map g ps))) (bit_half (g p) (bits_of (map g ps)))
    ∙ ap (λ (k : ℕ). bit (picks p names xs) + 2 * k) (passing_are ps names xs)

bits_some : (f : Path → Bool) (ps : List Path) → nonzero (bits_of (map f ps)) ≡ some f ps
bits_some f [] = refl
bits_some f (p ∷ ps) = go (f p) (bits_of (map f ps)) ∙ ap (λ (b : Bool). f p || b) (bits_some f ps)
  where
    go : (b : Bool) (k : ℕ) → nonzero (bit b + 2 * k) ≡ (b || nonzero k)
    go true k = nonzero_not (bit true + 2 * k) (λ e. omega arith)
    go false zero = refl
    go false (suc k) = nonzero_not (bit false + 2 * suc k) (λ e. omega arith)

pub last_some : (q : Path) → 0 < last_bit q
last_some q =
    let i : 0 ≤ length q.steps - 1 = omega arith in
    let z : 2 ^ 0 ≤ 2 ^ (length q.steps - 1) = pow-le-pow_right {n = 2} (omega arith) i in
    let y = pow-zero 2 in
    omega arith

zeros_unset : (n bits : ℕ) → some_set (replicate n 0) bits ≡ false
zeros_unset zero bits = refl
zeros_unset (suc n) bits = zeros_unset n (bits / 2)

-- the marked ones among those whose bit is set
set_marked : (f : Path → Bool) (ps : List Path) → some_set (marks_of ps) (bits_of (map f ps)) ≡ some (λ p. p.marked && f p) ps
unfolding marks_of column padded
set_marked f ps = go ps (32 - length (map mark ps))
  where
    mark : Path → ℕ
    mark p = cond p.marked (last_bit p) 0

    is : (p : Path) → nonzero (mark p) ≡ p.marked
    is p = by p.marked
      where
        by : (b : Bool) → nonzero (cond b (last_bit p) 0) ≡ b
        by true = nonzero_not (last_bit p) (λ e. let l = last_some p in omega arith)
        by false = refl

    go : (qs : List Path) (n : ℕ) → some_set (map mark qs ++ replicate n 0) (bits_of (map f qs)) ≡ some (λ p. p.marked && f p) qs
    go [] n = zeros_unset n 0
    go (p ∷ qs) n =
        ap₂ (λ (b : Bool) (k : ℕ). (nonzero (mark p) && b) || some_set (map mark qs ++ replicate n 0) k)
        (bit_odd (f p) (bits_of (map f qs))) (bit_half (f p) (bits_of (map f qs)))
        ∙ ap₂ (λ (b c : Bool). (b && f p) || c) (is p) (go qs n)

-- by the paths whose steps select
pub picked_verdict : (ps : List Path) (names : List (List ℕ)) (n : List ℕ) (xs : List Attribute) {s : ℕ}
    → s ≡ bits_of (map (λ p. selects p.steps names) ps) → picked_by (fit_for ps n) (passing_of ps s xs) ≡ verdict_of ps names xs
unfolding picked_by verdict_of fit_for
picked_verdict ps names n xs e =
    let f : Path → Bool = λ p. picks p names xs in
    ap (λ (k : ℕ). picked_by (fit_for ps n) k) (ap (λ (k : ℕ). passing_of ps k xs) e ∙ passing_are ps names xs)
    ∙ ap₂ decided (set_marked f ps) (bits_some f ps)

-- ---- where attributes need no look

module _ (ps : List Path) (names : List (List ℕ)) (xs : List Attribute) where
  -- no path's steps select the element
  pub unselected_picked : names_verdict ps names ≡ Unselected → verdict_of ps names xs ≡ Unselected
  unfolding verdict_of
  unselected_picked e =
      let h =
      decided_none (some (λ p. p.marked && selects p.steps names) ps) (some (λ p. selects p.steps names) ps) e in
      let none_picked =
      some_fewer (λ p. picks p names xs) (λ p. selects p.steps names) (λ p. and_right (passes_test p.test xs) _) ps h in
      let none_marked =
      some_fewer (λ p. p.marked && picks p names xs) (λ p. selects p.steps names)
      (λ p q. and_right (passes_test p.test xs) _ (and_right p.marked _ q)) ps h in
      ap₂ decided none_marked none_picked

  -- no path has a test
  pub untested_verdict : Untested ps → verdict_of ps names xs ≡ names_verdict ps names
  unfolding verdict_of
  untested_verdict u = ap₂ decided (marks ps u) (lasts ps u)
    where
      lasts : (qs : List Path) → Untested qs → some (λ p. picks p names xs) qs ≡ some (λ p. selects p.steps names) qs
      lasts [] u = refl
      lasts (p ∷ qs) (more e u) =
          ap₂ (λ (a b : Bool). a || b) (ap (λ (t : Option AttributeTest). passes_test t xs && selects p.steps names) e) (lasts qs u)

      marks : (qs : List Path) → Untested qs
          → some (λ p. p.marked && picks p names xs) qs ≡ some (λ p. p.marked && selects p.steps names) qs
      marks [] u = refl
      marks (p ∷ qs) (more e u) =
          ap₂ (λ (a b : Bool). a || b)
          (ap (λ (t : Option AttributeTest). p.marked && (passes_test t xs && selects p.steps names)) e) (marks qs u)
