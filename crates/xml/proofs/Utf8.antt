-- UTF-8 written and UTF-8 by the table agree. In order: scalar values by their two ranges; how a code point is written, by its four cases,
-- and what its bytes are; how many bytes a first byte asks for; each sequence of the table is a scalar value, written (`formed_scalar`),
-- row by row; each scalar value, written, is a sequence of the table (`scalar_formed`), and has as many bytes as its first byte asks for.
use mathlib.Core.Path.{◌≡◌, refl, sym, ap, ◌∙◌}
use mathlib.Core.Bool.{Bool, true, false, ◌&&◌, false≢true}
use mathlib.Core.List.{List, [], ◌∷◌, ◌++◌}
use mathlib.Core.Option.{none, some, none-ne-some}
use mathlib.Core.Logic.{◌⊎◌, inl, inr}
use Prim.Native.Nat.{ℕ, zero, suc, ◌+◌, ◌*◌, ◌/◌, ◌%◌, ◌-◌, ◌≤◌, ◌<◌}
use native.Mathlib.Omega.{arith}
use lib.ListN.{length, get_elem?}
use lib.Dec.{ltb, eqb}
use borrow.Author.Tests.{ltb-true, ltb-false, lt-ltb, le-ltb, eqb-true}
use Rattle.xml.specs.Range.{Range, ◌–◌, inside, within}
use Rattle.xml.specs.Utf8.{utf8, is_scalar, Row, ◌then◌, rows, size_of, later, follows, by_row, well_formed}
use Rattle.xml.proofs.Bools.{and_left, and_right, and_both, or_either, or_left, or_right, inside_bounds, bounds_inside}

-- ---- scalar values

pub scalar_low : (c : ℕ) → c < 0xD800 → is_scalar c ≡ true
unfolding is_scalar
scalar_low c h = or_left (inside (0 – 0xD7FF) c) _ (bounds_inside (0 – 0xD7FF) c (omega arith) (omega arith))

pub scalar_high : (c : ℕ) → 0xE000 ≤ c → c < 0x110000 → is_scalar c ≡ true
unfolding is_scalar
scalar_high c l h =
    or_right (inside (0 – 0xD7FF) c) _
    (or_left (inside (0xE000 – 0x10FFFF) c) _ (bounds_inside (0xE000 – 0x10FFFF) c (omega arith) (omega arith)))

pub scalar_cases : (c : ℕ) → is_scalar c ≡ true → (c < 0xD800) ⊎ ((0xE000 ≤ c) × (c < 0x110000))
unfolding is_scalar
scalar_cases c e = go (or_either (inside (0 – 0xD7FF) c) _ e)
  where
    high : (inside (0xE000 – 0x10FFFF) c ≡ true) ⊎ (false ≡ true) → (0xE000 ≤ c) × (c < 0x110000)
    high (inl p) = omega (arith, inside_bounds (0xE000 – 0x10FFFF) c p)
    high (inr p) = absurd (false≢true p)

    go : (inside (0 – 0xD7FF) c ≡ true) ⊎ (within (0xE000 – 0x10FFFF ∷ []) c ≡ true) → (c < 0xD800) ⊎ ((0xE000 ≤ c) × (c < 0x110000))
    go (inl p) = inl (omega (arith, inside_bounds (0 – 0xD7FF) c p))
    go (inr p) = inr (high (or_either (inside (0xE000 – 0x10FFFF) c) _ p))

pub scalar_below : (c : ℕ) → is_scalar c ≡ true → c < 0x110000
scalar_below c e = go (scalar_cases c e)
  where
    go : (c < 0xD800) ⊎ ((0xE000 ≤ c) × (c < 0x110000)) → c < 0x110000
    go (inl h) = omega arith
    go (inr h) = omega arith

pub scalar_ascii : (c : ℕ) → c < 0x80 → is_scalar c ≡ true
scalar_ascii c h = scalar_low c (omega arith)

-- ---- how a code point is written

-- by how many bytes it takes
pub data Cases (c : ℕ) : Type 0 where
  one : c < 0x80 → utf8 c ≡ c ∷ [] → Cases c
  two : 0x80 ≤ c → c < 0x800 → utf8 c ≡ (0xC0 + c / 0x40) ∷ (0x80 + c % 0x40) ∷ [] → Cases c
  three : 0x800 ≤ c → c < 0x10000 → utf8 c ≡ (0xE0 + c / 0x1000) ∷ (0x80 + c / 0x40 % 0x40) ∷ (0x80 + c % 0x40) ∷ [] → Cases c
  four : 0x10000 ≤ c
      → utf8 c ≡ (0xF0 + c / 0x40000) ∷ (0x80 + c / 0x1000 % 0x40) ∷ (0x80 + c / 0x40 % 0x40) ∷ (0x80 + c % 0x40) ∷ []
      → Cases c

pub cases : (c : ℕ) → Cases c
unfolding utf8
cases c = go (ltb c 0x80) (ltb c 0x800) (ltb c 0x10000) refl refl refl
  where
    go : (x y z : Bool) → ltb c 0x80 ≡ x → ltb c 0x800 ≡ y → ltb c 0x10000 ≡ z → Cases c
    go true y z p q r = one (ltb-true c 0x80 p) (rw p)
    go false true z p q r = two (ltb-false c 0x80 p) (ltb-true c 0x800 q) (rw (p, q))
    go false false true p q r = three (ltb-false c 0x800 q) (ltb-true c 0x10000 r) (rw (p, q, r))
    go false false false p q r = four (ltb-false c 0x10000 r) (rw (p, q, r))

pub utf8_low : (c : ℕ) → c < 0x80 → utf8 c ≡ c ∷ []
unfolding utf8
utf8_low c h = rw (lt-ltb c 0x80 h)

pub utf8_some : (c : ℕ) → (a : ℕ) × (w : List ℕ) × (utf8 c ≡ a ∷ w)
utf8_some c = go (cases c)
  where
    go : Cases c → (a : ℕ) × (w : List ℕ) × (utf8 c ≡ a ∷ w)
    go (one h q) = (_, _, q)
    go (two l h q) = (_, _, q)
    go (three l h q) = (_, _, q)
    go (four l q) = (_, _, q)

pub utf8_long : (c : ℕ) → 0 < length (utf8 c)
utf8_long c = rw (utf8_some c).2 (omega arith)

pub utf8_high : (c a : ℕ) (w : List ℕ) → 0x80 ≤ c → utf8 c ≡ a ∷ w → 0x80 ≤ a
utf8_high c a w l e = go (cases c)
  where
    first : {b : ℕ} {v : List ℕ} → utf8 c ≡ b ∷ v → a ≡ b
    first q = cc

    go : Cases c → 0x80 ≤ a
    go (one h q) = omega arith
    go (two m h q) = omega (arith, first q)
    go (three m h q) = omega (arith, first q)
    go (four m q) = omega (arith, first q)

-- what passes each byte from 0x80 on passes each such character
pub pass_high : {A : Type 0} (f : List ℕ → A) → ((b : ℕ) (s : List ℕ) → 0x80 ≤ b → f (b ∷ s) ≡ f s)
    → (c : ℕ) (s : List ℕ) → 0x80 ≤ c → f (utf8 c ++ s) ≡ f s
pass_high f pass c s l = go (cases c)
  where
    go : Cases c → f (utf8 c ++ s) ≡ f s
    go (one h q) = absurd (omega arith)
    go (two m h q) = rw q (pass _ _ (omega arith) ∙ pass _ _ (omega arith))
    go (three m h q) = rw q (pass _ _ (omega arith) ∙ pass _ _ (omega arith) ∙ pass _ _ (omega arith))
    go (four m q) = rw q (pass _ _ (omega arith) ∙ pass _ _ (omega arith) ∙ pass _ _ (omega arith) ∙ pass _ _ (omega arith))

-- ---- how many bytes a first byte asks for

pub size_one : (a : ℕ) → a < 0x80 → size_of a ≡ 1
unfolding size_of
size_one a h = rw (lt-ltb a 0x80 h)

pub size_two : (a : ℕ) → 0x80 ≤ a → a < 0xE0 → size_of a ≡ 2
unfolding size_of
size_two a l h = rw (le-ltb a 0x80 l, lt-ltb a 0xE0 h)

pub size_three : (a : ℕ) → 0xE0 ≤ a → a < 0xF0 → size_of a ≡ 3
unfolding size_of
size_three a l h = rw (le-ltb a 0x80 (omega arith), le-ltb a 0xE0 l, lt-ltb a 0xF0 h)

pub size_four : (a : ℕ) → 0xF0 ≤ a → size_of a ≡ 4
unfolding size_of
size_four a l = rw (le-ltb a 0x80 (omega arith), le-ltb a 0xE0 (omega arith), le-ltb a 0xF0 l)

-- ---- the bytes of the table

later_cons : (w : List ℕ) (n : ℕ) → later w ≡ true → length w ≡ suc n
    → (b : ℕ) × (v : List ℕ) × (w ≡ b ∷ v) × (0x80 ≤ b) × (b ≤ 0xBF) × (later v ≡ true) × (length v ≡ n)
later_cons [] n e l = absurd (let z : 0 ≡ suc n = l in omega arith)
later_cons (b ∷ v) n e l =
    let (h, k) = inside_bounds (0x80 – 0xBF) b (and_left (inside (0x80 – 0xBF) b) _ e) in
    (b, v, refl, h, k, and_right (inside (0x80 – 0xBF) b) _ e, omega arith)

follows_cons : (r : Range) (w : List ℕ) (n : ℕ) → follows (some r) w ≡ true → length w ≡ suc n
    → (b : ℕ) × (v : List ℕ) × (w ≡ b ∷ v) × (r.low ≤ b) × (b ≤ r.high) × (later v ≡ true) × (length v ≡ n)
follows_cons r [] n e l = absurd (let z : 0 ≡ suc n = l in omega arith)
follows_cons r (b ∷ v) n e l =
    let (h, k) = inside_bounds r b (and_left (inside r b) _ e) in
    (b, v, refl, h, k, and_right (inside r b) _ e, omega arith)

no_bytes : (w : List ℕ) → length w ≡ 0 → w ≡ []
no_bytes [] e = refl
no_bytes (b ∷ w) e = absurd (let z : suc (length w) ≡ 0 = e in omega arith)

-- ---- from the bytes to the code point

pub encode_two : (a b g : ℕ) → g + 0x3080 ≡ a * 0x40 + b → 0xC2 ≤ a → a ≤ 0xDF → 0x80 ≤ b → b ≤ 0xBF → utf8 g ≡ a ∷ b ∷ []
unfolding utf8
encode_two a b g e h₁ h₂ h₃ h₄ =
    let e₀ : 0xC0 + g / 0x40 ≡ a = omega arith in
    let e₁ : 0x80 + g % 0x40 ≡ b = omega arith in
    rw (le-ltb g 0x80 (omega arith), lt-ltb g 0x800 (omega arith), e₀, e₁)

pub encode_three : (a b c g : ℕ) → g + 0xE2080 ≡ a * 0x1000 + b * 0x40 + c → a ≤ 0xEF → 0x80 ≤ b → b ≤ 0xBF → 0x80 ≤ c → c ≤ 0xBF
    → 0x800 ≤ g → utf8 g ≡ a ∷ b ∷ c ∷ []
unfolding utf8
encode_three a b c g e h₁ h₂ h₃ h₄ h₅ n =
    let e₀ : 0xE0 + g / 0x1000 ≡ a = omega arith in
    let e₁ : 0x80 + g / 0x40 % 0x40 ≡ b = omega arith in
    let e₂ : 0x80 + g % 0x40 ≡ c = omega arith in
    rw (le-ltb g 0x80 (omega arith), le-ltb g 0x800 n, lt-ltb g 0x10000 (omega arith), e₀, e₁, e₂)

pub encode_four : (a b c d g : ℕ) → g + 0x3C82080 ≡ a * 0x40000 + b * 0x1000 + c * 0x40 + d → 0x80 ≤ b → b ≤ 0xBF → 0x80 ≤ c → c ≤ 0xBF
    → 0x80 ≤ d → d ≤ 0xBF → 0x10000 ≤ g → utf8 g ≡ a ∷ b ∷ c ∷ d ∷ []
unfolding utf8
encode_four a b c d g e h₁ h₂ h₃ h₄ h₅ h₆ n =
    let e₀ : 0xF0 + g / 0x40000 ≡ a = omega arith in
    let e₁ : 0x80 + g / 0x1000 % 0x40 ≡ b = omega arith in
    let e₂ : 0x80 + g / 0x40 % 0x40 ≡ c = omega arith in
    let e₃ : 0x80 + g % 0x40 ≡ d = omega arith in
    rw (le-ltb g 0x80 (omega arith), le-ltb g 0x800 (omega arith), le-ltb g 0x10000 n, e₀, e₁, e₂, e₃)

-- ---- the table's sequences are scalar values, written

-- w is a scalar value, written
abbrev Written : List ℕ → Type 0
Written w = (c : ℕ) × (is_scalar c ≡ true) × (w ≡ utf8 c)

-- a fact for each row of a list
infixr 40 ◌▹◌
data Each (P : Row → Type 0) : List Row → Type 0 where
  end : Each P []
  ◌▹◌ : {r : Row} {rs : List Row} → P r → Each P rs → Each P (r ∷ rs)

some_row : (rs : List Row) (a : ℕ) (w : List ℕ) {A : Type 0} → by_row rs a w ≡ true
    → Each (λ r. inside r.first a ≡ true → follows r.second w ≡ true → A) rs → A
some_row [] a w e end = absurd (false≢true e)
some_row (r ∷ rs) a w {A} e (p ▹ ps) = go (or_either (inside r.first a && follows r.second w) _ e) (λ q. some_row rs a w q ps)
  where
    go : (inside r.first a && follows r.second w ≡ true) ⊎ (by_row rs a w ≡ true) → (by_row rs a w ≡ true → A) → A
    go (inl q) k = p (and_left (inside r.first a) _ q) (and_right (inside r.first a) _ q)
    go (inr q) k = k q

-- each row makes scalar values
module _ (a : ℕ) (w : List ℕ) (size : suc (length w) ≡ size_of a) where
  one_formed : inside (0x00 – 0x7F) a ≡ true → follows none w ≡ true → Written (a ∷ w)
  one_formed p q =
      let (l, h) = inside_bounds (0x00 – 0x7F) a p in
      (a, scalar_ascii a (omega arith), ap (λ (v : List ℕ). a ∷ v) (nothing w q) ∙ sym (utf8_low a (omega arith)))
    where
      nothing : (w : List ℕ) → follows none w ≡ true → w ≡ []
      nothing [] q = refl
      nothing (b ∷ w) q = absurd (false≢true q)

  two_formed : inside (0xC2 – 0xDF) a ≡ true → follows (some (0x80 – 0xBF)) w ≡ true → Written (a ∷ w)
  two_formed p q =
      let (l, h) = inside_bounds (0xC2 – 0xDF) a p in
      let n = size_two a (omega arith) (omega arith) in
      let (b, v, e, l₁, h₁, q₁, n₁) = follows_cons (0x80 – 0xBF) w 0 q (omega arith) in
      let g = a * 0x40 + b - 0x3080 in
      (g, scalar_low g (omega arith), cc (no_bytes v n₁, encode_two a b g (omega arith) l h l₁ h₁))

  -- rows of three and of four bytes, by their first bytes f and their second bytes r: from the least to the greatest value all are scalar
  three_formed : (f r : Range) → (0xE0 ≤ f.low) × (f.high ≤ 0xEF) × (0x80 ≤ r.low) × (r.high ≤ 0xBF)
      → 0xE2880 ≤ f.low * 0x1000 + r.low * 0x40 + 0x80
      → ((g : ℕ) → f.low * 0x1000 + r.low * 0x40 + 0x80 ≤ g + 0xE2080 → g + 0xE2080 ≤ f.high * 0x1000 + r.high * 0x40 + 0xBF
      → is_scalar g ≡ true)
      → inside f a ≡ true → follows (some r) w ≡ true → Written (a ∷ w)
  three_formed f r bounds least scalars p q =
      let (l, h) = inside_bounds f a p in
      let n = size_three a (omega arith) (omega arith) in
      let (b, v, e, l₁, h₁, q₁, n₁) = follows_cons r w 1 q (omega arith) in
      let (c, u, e', l₂, h₂, q₂, n₂) = later_cons v 0 q₁ n₁ in
      let g = a * 0x1000 + b * 0x40 + c - 0xE2080 in
      let s : g + 0xE2080 ≡ a * 0x1000 + b * 0x40 + c = omega arith in (
        g,
        scalars g (omega arith) (omega arith),
        cc (no_bytes u n₂, encode_three a b c g s (omega arith) (omega arith) (omega arith) l₂ h₂ (omega arith)),
      )

  four_formed : (f r : Range) → (0xF0 ≤ f.low) × (0x80 ≤ r.low) × (r.high ≤ 0xBF)
      → 0x3C92080 ≤ f.low * 0x40000 + r.low * 0x1000 + 0x2080
      → f.high * 0x40000 + r.high * 0x1000 + 0x307F < 0x3D92080
      → inside f a ≡ true → follows (some r) w ≡ true → Written (a ∷ w)
  four_formed f r bounds least most p q =
      let (l, h) = inside_bounds f a p in
      let n = size_four a (omega arith) in
      let (b, v, e, l₁, h₁, q₁, n₁) = follows_cons r w 2 q (omega arith) in
      let (c, u, e', l₂, h₂, q₂, n₂) = later_cons v 1 q₁ n₁ in
      let (d, z, e'', l₃, h₃, q₃, n₃) = later_cons u 0 q₂ n₂ in
      let g = a * 0x40000 + b * 0x1000 + c * 0x40 + d - 0x3C82080 in
      let s : g + 0x3C82080 ≡ a * 0x40000 + b * 0x1000 + c * 0x40 + d = omega arith in
      let m : 0x10000 ≤ g = omega arith in (
        g,
        scalar_high g (omega arith) (omega arith),
        cc (no_bytes z n₃, encode_four a b c d g s (omega arith) (omega arith) l₂ h₂ l₃ h₃ m),
      )

pub formed_scalar : (w : List ℕ) → well_formed w ≡ true → (c : ℕ) × (is_scalar c ≡ true) × (w ≡ utf8 c)
unfolding well_formed rows
formed_scalar [] e = absurd (false≢true e)
formed_scalar (a ∷ w) e =
    let n : suc (length w) ≡ size_of a = eqb-true (suc (length w)) (size_of a) (and_left (eqb (suc (length w)) (size_of a)) _ e) in
    some_row rows a w (and_right (eqb (suc (length w)) (size_of a)) _ e)
    (one_formed a w n
    ▹ two_formed a w n
    ▹ three_formed a w n (0xE0 – 0xE0) (0xA0 – 0xBF) (omega arith) (omega arith) (λ g l h. scalar_low g (omega arith))
    ▹ three_formed a w n (0xE1 – 0xEC) (0x80 – 0xBF) (omega arith) (omega arith) (λ g l h. scalar_low g (omega arith))
    ▹ three_formed a w n (0xED – 0xED) (0x80 – 0x9F) (omega arith) (omega arith) (λ g l h. scalar_low g (omega arith))
    ▹ three_formed a w n (0xEE – 0xEF) (0x80 – 0xBF) (omega arith) (omega arith) (λ g l h. scalar_high g (omega arith) (omega arith))
    ▹ four_formed a w n (0xF0 – 0xF0) (0x90 – 0xBF) (omega arith) (omega arith) (omega arith)
    ▹ four_formed a w n (0xF1 – 0xF3) (0x80 – 0xBF) (omega arith) (omega arith) (omega arith)
    ▹ four_formed a w n (0xF4 – 0xF4) (0x80 – 0x8F) (omega arith) (omega arith) (omega arith)
    ▹ end)

-- ---- scalar values, written, are the table's sequences

-- row k of the table has them
in_row : (rs : List Row) (k a : ℕ) (w : List ℕ) (r : Row) → get_elem? rs k ≡ some r → inside r.first a ≡ true
    → follows r.second w ≡ true → by_row rs a w ≡ true
in_row [] k a w r e p q = absurd (none-ne-some r e)
in_row (r' ∷ rs) zero a w r e p q =
    let z : r' ≡ r = cc in
    rw z (or_left (inside r.first a && follows r.second w) _ (and_both (inside r.first a) _ p q))
in_row (r' ∷ rs) (suc k) a w r e p q = or_right (inside r'.first a && follows r'.second w) _ (in_row rs k a w r e p q)

abbrev Tail : ℕ → Type 0
Tail b = (0x80 ≤ b) × (b ≤ 0xBF)

tail_inside : (b : ℕ) → Tail b → inside (0x80 – 0xBF) b ≡ true
tail_inside b (l, h) = bounds_inside (0x80 – 0xBF) b l h

abbrev Inner : Range → Range → ℕ → ℕ → Type 0
Inner f r a b = (f.low ≤ a) × (a ≤ f.high) × (r.low ≤ b) × (b ≤ r.high)

module _ (k : ℕ) (f r : Range) (row : get_elem? rows k ≡ some (f then some r)) (a b : ℕ) (inner : Inner f r a b) where
  in_first : inside f a ≡ true
  in_first = bounds_inside f a inner.0 inner.1

  in_second : inside r b ≡ true
  in_second = bounds_inside r b inner.2 inner.3

  formed_two : size_of a ≡ 2 → well_formed (a ∷ b ∷ []) ≡ true
  unfolding well_formed
  formed_two n = rw n (in_row rows k a (b ∷ []) _ row in_first (rw in_second))

  formed_three : (c : ℕ) → size_of a ≡ 3 → Tail c → well_formed (a ∷ b ∷ c ∷ []) ≡ true
  unfolding well_formed
  formed_three c n t = rw n (in_row rows k a (b ∷ c ∷ []) _ row in_first (rw (in_second, tail_inside c t)))

  formed_four : (c d : ℕ) → size_of a ≡ 4 → Tail c → Tail d → well_formed (a ∷ b ∷ c ∷ d ∷ []) ≡ true
  unfolding well_formed
  formed_four c d n t u = rw n (in_row rows k a (b ∷ c ∷ d ∷ []) _ row in_first (rw (in_second, tail_inside c t, tail_inside d u)))

one_scalar : (c : ℕ) → c < 0x80 → well_formed (c ∷ []) ≡ true
unfolding well_formed rows
one_scalar c h = rw (size_one c h) (in_row rows 0 c [] _ refl (bounds_inside (0 – 0x7F) c (omega arith) (omega arith)) refl)

two_scalar : (c : ℕ) → 0x80 ≤ c → c < 0x800 → well_formed ((0xC0 + c / 0x40) ∷ (0x80 + c % 0x40) ∷ []) ≡ true
unfolding rows
two_scalar c l h = formed_two 1 (0xC2 – 0xDF) (0x80 – 0xBF) refl _ _ (omega arith) (size_two _ (omega arith) (omega arith))

three_scalar : (c a b d : ℕ) → a ≡ 0xE0 + c / 0x1000 → b ≡ 0x80 + c / 0x40 % 0x40 → d ≡ 0x80 + c % 0x40 → 0x800 ≤ c → c < 0x10000
    → is_scalar c ≡ true → well_formed (a ∷ b ∷ d ∷ []) ≡ true
unfolding rows
three_scalar c a b d ea eb ed l h s = go (ltb c 0x1000) (ltb c 0xD000) refl refl (scalar_cases c s)
  where
    row : (k : ℕ) (f r : Range) → get_elem? rows k ≡ some (f then some r) → Inner f r a b → well_formed (a ∷ b ∷ d ∷ []) ≡ true
    row k f r e i = formed_three k f r e a b i d (size_three a (omega arith) (omega arith)) (omega arith)

    go : (x y : Bool) → ltb c 0x1000 ≡ x → ltb c 0xD000 ≡ y → (c < 0xD800) ⊎ ((0xE000 ≤ c) × (c < 0x110000))
        → well_formed (a ∷ b ∷ d ∷ []) ≡ true
    go true y p q z = row 2 (0xE0 – 0xE0) (0xA0 – 0xBF) refl (omega (arith, ltb-true c 0x1000 p))
    go false true p q z = row 3 (0xE1 – 0xEC) (0x80 – 0xBF) refl (omega (arith, ltb-false c 0x1000 p, ltb-true c 0xD000 q))
    go false false p q (inl z) = row 4 (0xED – 0xED) (0x80 – 0x9F) refl (omega (arith, ltb-false c 0xD000 q))
    go false false p q (inr z) = row 5 (0xEE – 0xEF) (0x80 – 0xBF) refl (omega arith)

four_scalar : (c a b d e : ℕ) → a ≡ 0xF0 + c / 0x40000 → b ≡ 0x80 + c / 0x1000 % 0x40 → Tail d → Tail e → 0x10000 ≤ c → c < 0x110000
    → well_formed (a ∷ b ∷ d ∷ e ∷ []) ≡ true
unfolding rows
four_scalar c a b d e ea eb td te l h = go (ltb c 0x40000) (ltb c 0x100000) refl refl
  where
    row : (k : ℕ) (f r : Range) → get_elem? rows k ≡ some (f then some r) → Inner f r a b → well_formed (a ∷ b ∷ d ∷ e ∷ []) ≡ true
    row k f r e i = formed_four k f r e a b i _ _ (size_four a (omega arith)) td te

    go : (x y : Bool) → ltb c 0x40000 ≡ x → ltb c 0x100000 ≡ y → well_formed (a ∷ b ∷ d ∷ e ∷ []) ≡ true
    go true y p q = row 6 (0xF0 – 0xF0) (0x90 – 0xBF) refl (omega (arith, ltb-true c 0x40000 p))
    go false true p q = row 7 (0xF1 – 0xF3) (0x80 – 0xBF) refl (omega (arith, ltb-false c 0x40000 p, ltb-true c 0x100000 q))
    go false false p q = row 8 (0xF4 – 0xF4) (0x80 – 0x8F) refl (omega (arith, ltb-false c 0x100000 q))

pub scalar_formed : (c : ℕ) → is_scalar c ≡ true → well_formed (utf8 c) ≡ true
scalar_formed c s = go (cases c)
  where
    go : Cases c → well_formed (utf8 c) ≡ true
    go (one h q) = rw q (one_scalar c h)
    go (two l h q) = rw q (two_scalar c l h)
    go (three l h q) = rw q (three_scalar c _ _ _ refl refl refl l h s)
    go (four l q) = rw q (four_scalar c _ _ _ _ refl refl (omega arith) (omega arith) l (scalar_below c s))

-- ---- the first byte of a scalar value asks for its bytes

pub size_utf8 : (c a : ℕ) (w : List ℕ) → is_scalar c ≡ true → utf8 c ≡ a ∷ w → size_of a ≡ length (utf8 c)
unfolding well_formed
size_utf8 c a w s e =
    let f : well_formed (a ∷ w) ≡ true = rw e at (scalar_formed c s) in
    rw e (sym (eqb-true (suc (length w)) (size_of a) (and_left (eqb (suc (length w)) (size_of a)) _ f)))
