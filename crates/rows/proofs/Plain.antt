-- A name has no byte for which a field is quoted: its characters below 0x80 are none of those, and all others are written in bytes from
-- 0x80 on. So the names that are open are plain, where each is one that was read.
use mathlib.Core.Path.{◌≡◌, refl, sym, ap, ◌∙◌}
use mathlib.Core.Bool.{Bool, true, false, cond, false≢true}
use mathlib.Core.List.{List, [], ◌∷◌, ◌++◌, append_assoc}
use mathlib.Core.Option.{none, some, some-injective, none-ne-some}
use Prim.Native.Nat.{ℕ, ◌+◌, ◌≤◌, ◌<◌}
use native.Mathlib.Omega.{arith}
use borrow.Author.Tests.{eqb-true, ne_eqb, ltb-true, ltb-false}
use lib.Dec.{eqb, ltb}
use lib.ListN.{length, get_or, take, drop, length-drop, length-append}
use lib.Seq.{take-append_seam}
use Rattle.xml.specs.Utf8.{utf8}
use Rattle.xml.specs.Character.{starts, run}
use Rattle.xml.specs.Productions.{is_name_start, is_name_more, is_name}
use Rattle.xml.proofs.Utf8.{utf8_low, pass_high}
use Rattle.xml.proofs.Run.{run_holds}
use Rattle.chars.specs.Name.{name_of}
use Rattle.tags.specs.Kept.{name_from}
use Rattle.rows.specs.Field.{is_special, special}
use Rattle.rows.specs.Laid.{PlainNames}

-- ---- a character of a name

no_name : (a c : ℕ) → is_name a ≡ false → is_name c ≡ true → eqb c a ≡ false
no_name a c n e = go (eqb c a) refl
  where
    go : (x : Bool) → eqb c a ≡ x → x ≡ false
    go true q = absurd (false≢true (sym n ∙ ap is_name (sym (eqb-true c a q)) ∙ e))
    go false q = refl

name_byte : (c : ℕ) → is_name c ≡ true → is_special c ≡ false
unfolding is_name is_name_start is_name_more
name_byte c e = rw (no_name 0x2C c refl e, no_name 0x22 c refl e, no_name 0xD c refl e, no_name 0xA c refl e)

high_byte : (b : ℕ) (s : List ℕ) → 0x80 ≤ b → special (b ∷ s) ≡ special s
high_byte b s l =
    rw (
      ne_eqb b 0x2C (λ e. omega arith),
      ne_eqb b 0x22 (λ e. omega arith),
      ne_eqb b 0xD (λ e. omega arith),
      ne_eqb b 0xA (λ e. omega arith),
    )

pass_name : (c : ℕ) (s : List ℕ) → is_name c ≡ true → special (utf8 c ++ s) ≡ special s
pass_name c s e = go (ltb c 0x80) refl
  where
    go : (x : Bool) → ltb c 0x80 ≡ x → special (utf8 c ++ s) ≡ special s
    go true q = rw (utf8_low c (ltb-true c 0x80 q), name_byte c e)
    go false q = pass_high special high_byte c s (ltb-false c 0x80 q)

-- ---- a name

pub run_plain : (s : List ℕ) → (w : List ℕ) × (s ≡ w ++ run is_name 0 s) × (special w ≡ false)
run_plain =
    run_holds is_name (λ s t. (w : List ℕ) × (s ≡ w ++ t) × (special w ≡ false)) (λ s h. ([], refl, refl))
    (λ s m t (c, _, n, e) (w, q, p).
    (utf8 c ++ w, e ∙ ap (λ (l : List ℕ). utf8 c ++ l) q ∙ sym (append_assoc (utf8 c) w t), pass_name c w n ∙ p))

name_run : (s t : List ℕ) → name_of s ≡ some t → run is_name 0 s ≡ t
unfolding name_of
name_run s t e = go (starts is_name_start s) e
  where
    go : (b : Bool) → cond b (some (run is_name 0 s)) none ≡ some t → run is_name 0 s ≡ t
    go true z = some-injective (run is_name 0 s) t z
    go false z = absurd (none-ne-some t z)

-- the n bytes at the place a of d, where a name is read that has as many
pub name_plain : (d : List ℕ) (a n : ℕ) → name_of (drop a d) ≡ some (drop (a + n) d) → a + n ≤ length d → special (name_from d a n) ≡ false
name_plain d a n e h =
    let (w, q, p) = run_plain (drop a d) in
    let z : drop a d ≡ w ++ drop (a + n) d = q ∙ ap (λ (t : List ℕ). w ++ t) (name_run (drop a d) (drop (a + n) d) e) in
    let l : length w ≡ n =
    omega (arith, ap length z, length-append w (drop (a + n) d), length-drop a d, length-drop (a + n) d) in
    let y : take n (drop a d) ≡ w = rw (← l) (ap (take (length w)) z ∙ take-append_seam w (drop (a + n) d)) in
    ap special y ∙ p

-- ---- the names that are open

pub plain_names : {d starts lens : List ℕ} {level : ℕ} → level ≤ 64 → length starts ≡ 64 → length lens ≡ 64
    → ((i : ℕ) → i < level → get_or starts i 0 + get_or lens i 0 ≤ length d) → ((i : ℕ) → i < level → get_or lens i 0 ≤ 255)
    → ((i : ℕ) → i < level → name_of (drop (get_or starts i 0) d) ≡ some (drop (get_or starts i 0 + get_or lens i 0) d))
    → PlainNames d starts lens level
plain_names {d} {starts} {lens} h k l inside small named =
    record {
      deep = h;
      starts_long = k;
      lens_long = l;
      inside = inside;
      small = small;
      plain = λ i j. name_plain d (get_or starts i 0) (get_or lens i 0) (named i j) (inside i j);
    }
