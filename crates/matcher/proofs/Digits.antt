-- Numbers by their lowest bit: what `and`, `or`, a remainder of a power of two, the flood, the hits, one level deeper and the steps tried
-- do to it and to the rest. Stated over what is carried in from the bit below, since each step of a path takes one off.
use mathlib.Core.Path.{◌≡◌, refl, ap, ap₂, ◌∙◌}
use mathlib.Core.Bool.{Bool, true, false, not, ◌&&◌, ◌||◌}
use Prim.Native.Nat.{ℕ, zero, suc, ◌+◌, ◌-◌, ◌*◌, ◌/◌, ◌%◌, ◌^◌, ◌≤◌, ◌<◌, min, max}
use native.Mathlib.Omega.{arith}
use lib.Bits.{bit_and, bit_or, and_step, or_step, and_le_l, and_le_r, or_lt}
use lib.Pow.{mod-pow-add}
use lib.Dec.{eqb}
use Rattle.compiled.specs.Bits.{bit}
use Rattle.matcher.specs.Picked.{odd}
use Rattle.matcher.specs.State.{flood, hits_of, carried, tried_of}

pub low : (x : ℕ) → x % 2 ≡ bit (odd x)
low x = go (x % 2) (omega arith)
  where
    go : (r : ℕ) → r < 2 → r ≡ bit (eqb r 1)
    go zero l = refl
    go (suc zero) l = refl
    go (suc (suc r)) l = absurd (omega arith)

-- a number by its lowest bit and the rest
split : (x : ℕ) → x ≡ bit (odd x) + 2 * (x / 2)
split x = let z = low x in omega arith

pub bit_half : (b : Bool) (y : ℕ) → (bit b + 2 * y) / 2 ≡ y
bit_half true y = omega arith
bit_half false y = omega arith

bit_low : (b : Bool) (y : ℕ) → (bit b + 2 * y) % 2 ≡ bit b
bit_low true y = omega arith
bit_low false y = omega arith

pub bit_odd : (b : Bool) (y : ℕ) → odd (bit b + 2 * y) ≡ b
bit_odd true y = rw (bit_low true y)
bit_odd false y = rw (bit_low false y)

min-bit : (a b : Bool) → min (bit a) (bit b) ≡ bit (a && b)
min-bit true true = refl
min-bit true false = refl
min-bit false true = refl
min-bit false false = refl

max-bit : (a b : Bool) → max (bit a) (bit b) ≡ bit (a || b)
max-bit true true = refl
max-bit true false = refl
max-bit false true = refl
max-bit false false = refl

turned : (a b : ℕ) → a * 2 + b ≡ b + 2 * a
turned a b = omega arith

pub and_bit : (x : ℕ) (b : Bool) (y : ℕ) → bit_and x (bit b + 2 * y) ≡ bit (odd x && b) + 2 * bit_and (x / 2) y
and_bit x b y =
    and_step x (bit b + 2 * y)
    ∙ ap₂ (λ (u v : ℕ). bit_and (x / 2) u * 2 + min (x % 2) v) (bit_half b y) (bit_low b y)
    ∙ ap (λ (u : ℕ). bit_and (x / 2) y * 2 + min u (bit b)) (low x)
    ∙ ap (λ (u : ℕ). bit_and (x / 2) y * 2 + u) (min-bit (odd x) b)
    ∙ turned (bit_and (x / 2) y) (bit (odd x && b))

-- both by their lowest bit
pub and_bits : (a : Bool) (x : ℕ) (b : Bool) (y : ℕ) → bit_and (bit a + 2 * x) (bit b + 2 * y) ≡ bit (a && b) + 2 * bit_and x y
and_bits a x b y =
    and_bit (bit a + 2 * x) b y ∙ ap₂ (λ (u : Bool) (v : ℕ). bit (u && b) + 2 * bit_and v y) (bit_odd a x) (bit_half a x)

pub or_bit : (a : Bool) (x : ℕ) (b : Bool) (y : ℕ) → bit_or (bit a + 2 * x) (bit b + 2 * y) ≡ bit (a || b) + 2 * bit_or x y
or_bit a x b y =
    or_step (bit a + 2 * x) (bit b + 2 * y)
    ∙ ap₂ (λ (u v : ℕ). bit_or u v * 2 + max ((bit a + 2 * x) % 2) ((bit b + 2 * y) % 2)) (bit_half a x) (bit_half b y)
    ∙ ap₂ (λ (u v : ℕ). bit_or x y * 2 + max u v) (bit_low a x) (bit_low b y)
    ∙ ap (λ (u : ℕ). bit_or x y * 2 + u) (max-bit a b)
    ∙ turned (bit_or x y) (bit (a || b))

mod_bit : (b : Bool) (y w : ℕ) → (bit b + 2 * y) % 2 ^ (w + 1) ≡ bit b + 2 * (y % 2 ^ w)
mod_bit b y w =
    mod-pow-add (bit b + 2 * y) w 1
    ∙ ap₂ (λ (u v : ℕ). (u % 2 ^ w) * 2 + v) (bit_half b y) (bit_low b y)
    ∙ turned (y % 2 ^ w) (bit b)

-- ---- the flood

-- c is carried in
abbrev pub flood_in : Bool → ℕ → ℕ → ℕ
flood_in c s on = bit_or s (on - bit_and on (bit c + (s + bit_or s on)))

-- a full adder: the lowest bit of the sum; what is carried on is a || (p && c), which is the flood's lowest bit, too
abbrev sum_bit : Bool → Bool → Bool → Bool
sum_bit true p c = c
sum_bit false true c = not c
sum_bit false false c = c

sum_bit_lem : (c a p : Bool) (s o : ℕ)
    → bit c + ((bit a + 2 * s) + (bit (a || p) + 2 * o)) ≡ bit (sum_bit a p c) + 2 * (bit (a || (p && c)) + (s + o))
sum_bit_lem true true p s o = omega arith
sum_bit_lem false true p s o = omega arith
sum_bit_lem true false true s o = omega arith
sum_bit_lem false false true s o = omega arith
sum_bit_lem true false false s o = omega arith
sum_bit_lem false false false s o = omega arith

rest_bit : (p t : Bool) (g z : ℕ) → z ≤ g → (bit p + 2 * g) - (bit (p && t) + 2 * z) ≡ bit (p && not t) + 2 * (g - z)
rest_bit true true g z l = omega arith
rest_bit true false g z l = omega arith
rest_bit false t g z l = omega arith

flood_low : (a p c : Bool) → (a || (p && not (sum_bit a p c))) ≡ (a || (p && c))
flood_low true p c = refl
flood_low false true true = refl
flood_low false true false = refl
flood_low false false c = refl

module _ (c a : Bool) (s : ℕ) (p : Bool) (g : ℕ) where
  abbrev carry : Bool
  carry = a || (p && c)

  pub flood_bit : flood_in c (bit a + 2 * s) (bit p + 2 * g) ≡ bit carry + 2 * flood_in carry s g
  flood_bit =
      let t = sum_bit a p c in
      let y = bit carry + (s + bit_or s g) in
      ap (λ (z : ℕ). bit_or (bit a + 2 * s) ((bit p + 2 * g) - bit_and (bit p + 2 * g) (bit c + ((bit a + 2 * s) + z)))) (or_bit a s p g)
      ∙ ap (λ (z : ℕ). bit_or (bit a + 2 * s) ((bit p + 2 * g) - bit_and (bit p + 2 * g) z)) (sum_bit_lem c a p s (bit_or s g))
      ∙ ap (λ (z : ℕ). bit_or (bit a + 2 * s) ((bit p + 2 * g) - z)) (and_bits p g t y)
      ∙ ap (bit_or (bit a + 2 * s)) (rest_bit p t g (bit_and g y) (and_le_l g y))
      ∙ or_bit a s (p && not t) (g - bit_and g y)
      ∙ ap (λ (b : Bool). bit b + 2 * flood_in carry s g) (flood_low a p c)

-- ---- the steps that take a place

-- c is carried in: the step before takes it
abbrev pub hits_in : Bool → ℕ → ℕ → ℕ → ℕ → ℕ
hits_in c x f st go = flood_in c (bit_and (bit_and x go) f) (bit_and st f)

-- a step takes it: x says that it may from above, f that it passes
abbrev pub is_hit : Bool → Bool → Bool → Bool → Bool → Bool
is_hit c x f st go = ((x && go) && f) || ((st && f) && c)

pub hits_bit : (c : Bool) (x : ℕ) (p : Bool) (f : ℕ) (a : Bool) (st : ℕ) (g : Bool) (go : ℕ)
    → hits_in c x (bit p + 2 * f) (bit a + 2 * st) (bit g + 2 * go)
    ≡ bit (is_hit c (odd x) p a g) + 2 * hits_in (is_hit c (odd x) p a g) (x / 2) f st go
hits_bit c x p f a st g go =
    ap₂ (flood_in c)
    (ap (λ (z : ℕ). bit_and z (bit p + 2 * f)) (and_bit x g go) ∙ and_bits (odd x && g) (bit_and (x / 2) go) p f)
    (and_bits a st p f)
    ∙ flood_bit c ((odd x && g) && p) (bit_and (bit_and (x / 2) go) f) (a && p) (bit_and st f)

pub hits_in_lem : (x f st go : ℕ) → hits_of x f st go ≡ hits_in false x f st go
unfolding hits_of flood
hits_in_lem x f st go =
    let from = bit_and (bit_and x go) f in
    let on = bit_and st f in
    let e : from + bit_or from on ≡ 0 + (from + bit_or from on) = omega arith in
    ap (λ (z : ℕ). bit_or from (on - bit_and on z)) e

-- ---- one level deeper

-- w bits of the hits are carried, and c is carried in: the step before takes the place
abbrev pub carried_in : ℕ → Bool → ℕ → ℕ → ℕ → ℕ
carried_in w c h x d = bit_or (bit c + 2 * (h % 2 ^ w)) (bit_and x d)

module _ (c : Bool) (h x : ℕ) (q : Bool) (d : ℕ) where
  pub carried_bit : (w : ℕ)
      → carried_in (w + 1) c h x (bit q + 2 * d) ≡ bit (c || (odd x && q)) + 2 * carried_in w (odd h) (h / 2) (x / 2) d
  carried_bit w =
      ap₂ (λ (u v : ℕ). bit_or (bit c + 2 * u) v)
      (ap (λ (u : ℕ). u % 2 ^ (w + 1)) (split h) ∙ mod_bit (odd h) (h / 2) w)
      (and_bit x q d)
      ∙ or_bit c (bit (odd h) + 2 * (h / 2 % 2 ^ w)) (odd x && q) (bit_and (x / 2) d)

  -- no bit is carried: the lowest is as above
  pub carried_none : odd (carried_in 0 c h x (bit q + 2 * d)) ≡ c || (odd x && q)
  carried_none =
      ap (λ (v : ℕ). odd (bit_or (bit c + 2 * (h % 1)) v)) (and_bit x q d)
      ∙ ap odd (or_bit c (h % 1) (odd x && q) (bit_and (x / 2) d))
      ∙ bit_odd (c || (odd x && q)) (bit_or (h % 1) (bit_and (x / 2) d))

pub carried_in_lem : (x f st go d : ℕ) → carried x f st go d ≡ carried_in 15 false (hits_of x f st go) x d
unfolding carried
carried_in_lem x f st go d =
    let h = hits_of x f st go in
    ap (λ (z : ℕ). bit_or z (bit_and x d)) (let y : h % 32768 * 2 ≡ 0 + 2 * (h % 32768) = omega arith in y)

-- ---- the steps that are tried

-- w bits of the hits count, and c is carried in: the step before takes the place
abbrev pub tried_in : ℕ → Bool → ℕ → ℕ → ℕ → ℕ → ℕ
tried_in w c h x st go = bit_or (bit_and x go) (bit_and (bit c + 2 * (h % 2 ^ w)) st)

-- a step is tried: x says that it may take the place from above
abbrev pub is_tried : Bool → Bool → Bool → Bool → Bool
is_tried c x st go = (x && go) || (c && st)

module _ (c : Bool) (h x : ℕ) (a : Bool) (st : ℕ) (g : Bool) (go : ℕ) where
  tried_low : (y : ℕ) → bit_or (bit_and x (bit g + 2 * go)) (bit_and (bit c + 2 * y) (bit a + 2 * st))
      ≡ bit (is_tried c (odd x) a g) + 2 * bit_or (bit_and (x / 2) go) (bit_and y st)
  tried_low y =
      ap₂ bit_or (and_bit x g go) (and_bits c y a st)
      ∙ or_bit (odd x && g) (bit_and (x / 2) go) (c && a) (bit_and y st)

  pub tried_bit : (w : ℕ)
      → tried_in (w + 1) c h x (bit a + 2 * st) (bit g + 2 * go)
      ≡ bit (is_tried c (odd x) a g) + 2 * tried_in w (odd h) (h / 2) (x / 2) st go
  tried_bit w =
      ap (λ (u : ℕ). bit_or (bit_and x (bit g + 2 * go)) (bit_and (bit c + 2 * u) (bit a + 2 * st)))
      (ap (λ (u : ℕ). u % 2 ^ (w + 1)) (split h) ∙ mod_bit (odd h) (h / 2) w)
      ∙ tried_low (bit (odd h) + 2 * (h / 2 % 2 ^ w))

  -- no bit is carried: the lowest is as above
  pub tried_last : odd (tried_in 0 c h x (bit a + 2 * st) (bit g + 2 * go)) ≡ is_tried c (odd x) a g
  tried_last = ap odd (tried_low (h % 1)) ∙ bit_odd (is_tried c (odd x) a g) _

pub tried_in_lem : (x f st go : ℕ) → tried_of x f st go ≡ tried_in 15 false (hits_of x f st go) x st go
unfolding tried_of
tried_in_lem x f st go =
    let h = hits_of x f st go in
    ap (λ (z : ℕ). bit_or (bit_and x go) (bit_and z st)) (let y : h % 32768 * 2 ≡ 0 + 2 * (h % 32768) = omega arith in y)

-- no bit past those of the kinds
pub tried_below : (k x f st go : ℕ) → st < 2 ^ k → go < 2 ^ k → tried_of x f st go < 2 ^ k
unfolding tried_of
tried_below k x f st go l m =
    or_lt k (bit_and x go) (bit_and ((hits_of x f st go % 32768) * 2) st)
    (let z = and_le_r x go in omega arith)
    (let z = and_le_r ((hits_of x f st go % 32768) * 2) st in omega arith)
