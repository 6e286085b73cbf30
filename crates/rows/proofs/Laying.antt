-- Laws of text laid into a field: nothing, one part behind another, a byte, a byte of a line, the quotes.
use mathlib.Core.Path.{◌≡◌, refl, sym, ap, ◌∙◌}
use mathlib.Core.Bool.{Bool, true, false, cond, ◌&&◌, ◌||◌, true≢false}
use mathlib.Core.List.{List, [], ◌∷◌, ◌++◌, append_assoc, append-nil}
use Prim.Native.Nat.{ℕ, suc, ◌+◌, ◌*◌, ◌/◌, ◌%◌, ◌≤◌, ◌<◌}
use native.Mathlib.Omega.{arith}
use borrow.Author.Tests.{eq-eqb, ne_eqb, lt-ltb, le-ltb}
use lib.Dec.{eqb}
use lib.ListN.{length, get_or, drop, drop_of_length-le}
use Rattle.xml.specs.Utf8.{utf8}
use Rattle.utf8.proofs.Place.{drop_step}
use Rattle.writer.specs.Wrote.{Wrote}
use Rattle.writer.proofs.Laying.{wrote_none, wrote_more, wrote_long}
use Rattle.rows.specs.Field.{is_special, special, doubled, inner, quote}
use Rattle.rows.specs.Text.{line_by, lines_from, lines}
use Rattle.rows.specs.Laid.{Lays}
use Rattle.rows.specs.declared.field.Laid.{Laid}

-- ---- part by part

or_false : (a : Bool) → a || false ≡ a
or_false true = refl
or_false false = refl

or_assoc : (a b c : Bool) → (a || b) || c ≡ a || (b || c)
or_assoc true b c = refl
or_assoc false b c = refl

pub special_append : (s t : List ℕ) → special (s ++ t) ≡ special s || special t
special_append [] t = refl
special_append (b ∷ s) t = ap (λ (x : Bool). is_special b || x) (special_append s t) ∙ sym (or_assoc (is_special b) (special s) (special t))

doubled_append : (s t : List ℕ) → doubled (s ++ t) ≡ doubled s ++ doubled t
doubled_append [] t = refl
doubled_append (b ∷ s) t = go (eqb b 0x22) (doubled_append s t)
  where
    go : (x : Bool) → doubled (s ++ t) ≡ doubled s ++ doubled t
        → cond x (0x22 ∷ 0x22 ∷ doubled (s ++ t)) (b ∷ doubled (s ++ t))
        ≡ cond x (0x22 ∷ 0x22 ∷ doubled s) (b ∷ doubled s) ++ doubled t
    go true e = rw e
    go false e = rw e

pub inner_append : (q : Bool) (s t : List ℕ) → inner q (s ++ t) ≡ inner q s ++ inner q t
inner_append true s t = doubled_append s t
inner_append false s t = refl

inner_nil : (q : Bool) → inner q [] ≡ []
inner_nil true = refl
inner_nil false = refl

pub lays_none : {q : Bool} {o : List ℕ} {at : ℕ} → Lays q o at [] (record { to = at; special = false }) o
lays_none {q} = record { wrote = rw (inner_nil q) wrote_none; holds = refl }

pub lays_more : {q : Bool} {o o₁ o₂ s t : List ℕ} {at : ℕ} {a b : Laid} → Lays q o at s a o₁ → Lays q o₁ a.to t b o₂
    → Lays q o at (s ++ t) (record { to = b.to; special = a.special || b.special }) o₂
lays_more {q} {s = s} {t} v w =
    record {
      wrote = rw (inner_append q s t) (wrote_more v.wrote w.wrote);
      holds = rw (special_append s t, v.holds, w.holds);
    }

pub lays_long : {q : Bool} {o o' s : List ℕ} {at : ℕ} {r : Laid} → Lays q o at s r o' → length o' ≡ length o
lays_long v = wrote_long v.wrote

-- no part is more than twice as long in its field
doubled_short : (s : List ℕ) → length (doubled s) ≤ 2 * length s
doubled_short [] = omega arith
doubled_short (b ∷ s) = go (eqb b 0x22) (doubled_short s)
  where
    go : (x : Bool) → length (doubled s) ≤ 2 * length s
        → length (cond x (0x22 ∷ 0x22 ∷ doubled s) (b ∷ doubled s)) ≤ 2 * suc (length s)
    go true h = omega arith
    go false h = omega arith

inner_short : (q : Bool) (s : List ℕ) → length (inner q s) ≤ 2 * length s
inner_short true s = doubled_short s
inner_short false s = omega arith

pub lays_short : {q : Bool} {o o' s : List ℕ} {at : ℕ} {r : Laid} → Lays q o at s r o' → r.to ≤ at + 2 * length s
lays_short {q} {s = s} v = omega (arith, v.wrote.long, inner_short q s)

-- ---- a byte

inner_twice : (q : Bool) (b : ℕ) → (q && eqb b 0x22) ≡ true → inner q (b ∷ []) ≡ 0x22 ∷ 0x22 ∷ []
inner_twice true b e = rw e
inner_twice false b e = absurd (true≢false (sym e))

inner_once : (q : Bool) (b : ℕ) → (q && eqb b 0x22) ≡ false → inner q (b ∷ []) ≡ b ∷ []
inner_once true b e = rw e
inner_once false b e = refl

lone : (b : ℕ) {x : Bool} → x ≡ is_special b → x ≡ special (b ∷ [])
lone b i = i ∙ sym (or_false (is_special b))

pub lay_twice : {q : Bool} {o o₁ o₂ : List ℕ} {to a r b : ℕ} {x : Bool} → x ≡ is_special b → (q && eqb b 0x22) ≡ true
    → Wrote o to (0x22 ∷ []) a o₁ → Wrote o₁ a (0x22 ∷ []) r o₂
    → Lays q o to (b ∷ []) (record { to = r; special = x }) o₂ × (r ≤ to + 2)
lay_twice {q} {b = b} i e w v =
    (record { wrote = rw (inner_twice q b e) (wrote_more w v); holds = lone b i }, omega (arith, w.long, v.long))

pub lay_once : {q : Bool} {o o₁ : List ℕ} {to a b : ℕ} {x : Bool} → x ≡ is_special b → (q && eqb b 0x22) ≡ false
    → Wrote o to (b ∷ []) a o₁ → Lays q o to (b ∷ []) (record { to = a; special = x }) o₁ × (a ≤ to + 2)
lay_once {q} {b = b} i e w = (record { wrote = rw (inner_once q b e) w; holds = lone b i }, omega (arith, w.long))

pub ruleset byting = (lay_twice, lay_once)

pub quote_laid : {q : Bool} {o o₁ : List ℕ} {to a : ℕ} → q ≡ true → Wrote o to (0x22 ∷ []) a o₁ → Wrote o to (quote q) a o₁
quote_laid p w = rw p w

pub quote_none : {q : Bool} {o : List ℕ} {to : ℕ} → q ≡ false → Wrote o to (quote q) to o
quote_none p = rw p wrote_none

pub ruleset quoting = (quote_laid, quote_none)

-- ---- a byte of a line

line_cr : (after lf : Bool) (b : ℕ) → line_by after true lf b [] ≡ 0xA ∷ []
unfolding line_by
line_cr after lf b = refl

line_skip : (after lf : Bool) (b : ℕ) → after && lf ≡ true → line_by after false lf b [] ≡ []
unfolding line_by
line_skip true true b e = refl
line_skip true false b e = absurd (true≢false (sym e))
line_skip false lf b e = absurd (true≢false (sym e))

line_keep : (after lf : Bool) (b : ℕ) → after && lf ≡ false → line_by after false lf b [] ≡ b ∷ []
unfolding line_by
line_keep true true b e = absurd (true≢false e)
line_keep true false b e = refl
line_keep false lf b e = refl

module _ {q : Bool} (after : Bool) {o o₁ : List ℕ} {to : ℕ} (b : ℕ) {r : Laid} where
  pub lay_cr : b ≡ 0xD → Lays q o to (0xA ∷ []) r o₁ × (r.to ≤ to + 2)
      → Lays q o to (line_by after (eqb b 0xD) (eqb b 0xA) b []) r o₁ × (r.to ≤ to + 2)
  lay_cr e v = rw (eq-eqb b 0xD e, line_cr after (eqb b 0xA) b) v

  pub lay_kept : (b ≡ 0xD → ⊥) → (after && eqb b 0xA) ≡ false → Lays q o to (b ∷ []) r o₁ × (r.to ≤ to + 2)
      → Lays q o to (line_by after (eqb b 0xD) (eqb b 0xA) b []) r o₁ × (r.to ≤ to + 2)
  lay_kept h e v = rw (ne_eqb b 0xD h, line_keep after (eqb b 0xA) b e) v

pub lay_skipped : {q : Bool} (after : Bool) {o : List ℕ} {to : ℕ} (b : ℕ) → (b ≡ 0xD → ⊥) → (after && eqb b 0xA) ≡ true
    → Lays q o to (line_by after (eqb b 0xD) (eqb b 0xA) b []) (record { to = to; special = false }) o × (to ≤ to + 2)
lay_skipped after b h e = rw (ne_eqb b 0xD h, line_skip after (eqb b 0xA) b e) (lays_none, omega arith)

-- ---- text, byte by byte: the bytes before the place i are laid

pub record Lined (raw : List ℕ) (q : Bool) (o : List ℕ) (to at : ℕ) (sp after : Bool) (i : ℕ) (o' : List ℕ) : Type 0 where
  pub done : List ℕ
  pub all : lines raw ≡ done ++ lines_from after (drop i raw)
  pub laid : Lays q o to done (record { to = at; special = sp }) o'
  pub inside : i ≤ length raw
  pub near : at ≤ to + 2 * i
  pub same : length o' ≡ length o

pub lined_start : {raw : List ℕ} {q : Bool} {o : List ℕ} {to : ℕ} → Lined raw q o to to false false 0 o
unfolding lines
lined_start =
    record {
      done = [];
      all = refl;
      laid = lays_none;
      inside = omega arith;
      near = omega arith;
      same = refl;
    }

-- the byte at i by itself, then what follows it
line_on : (x y z : Bool) (b : ℕ) (t : List ℕ) → line_by x y z b t ≡ line_by x y z b [] ++ t
unfolding line_by
line_on x true z b t = refl
line_on true false true b t = refl
line_on true false false b t = refl
line_on false false z b t = refl

lines_step : (after : Bool) (b : ℕ) (s : List ℕ)
    → lines_from after (b ∷ s) ≡ line_by after (eqb b 0xD) (eqb b 0xA) b [] ++ lines_from (eqb b 0xD) s
unfolding lines_from
lines_step after b s = line_on after (eqb b 0xD) (eqb b 0xA) b (lines_from (eqb b 0xD) s)

pub lined_step : {raw : List ℕ} {q : Bool} {o o₁ o₂ : List ℕ} {to at : ℕ} {sp after : Bool} {i : ℕ} {r : Laid}
    → Lined raw q o to at sp after i o₁ → i < length raw
    → Lays q o₁ at (line_by after (eqb (get_or raw i 0) 0xD) (eqb (get_or raw i 0) 0xA) (get_or raw i 0) []) r o₂ × (r.to ≤ at + 2)
    → Lined raw q o to r.to (sp || r.special) (eqb (get_or raw i 0) 0xD) (i + 1) o₂
lined_step {raw} {after = after} {i = i} v h (w, n) =
    let b = get_or raw i 0 in
    record {
      done = v.done ++ line_by after (eqb b 0xD) (eqb b 0xA) b [];
      all =
          v.all
          ∙ ap (λ (x : List ℕ). v.done ++ x) (ap (lines_from after) (drop_step raw i h) ∙ lines_step after b (drop (i + 1) raw))
          ∙ sym (append_assoc v.done _ _);
      laid = lays_more v.laid w;
      inside = omega arith;
      near = omega (arith, v.near);
      same = lays_long w ∙ v.same;
    }

pub lined_over : {raw : List ℕ} {q : Bool} {o o₁ : List ℕ} {to at : ℕ} {sp after : Bool} {i : ℕ} → Lined raw q o to at sp after i o₁
    → length raw ≤ i → Lays q o to (lines raw) (record { to = at; special = sp }) o₁ × (at ≤ to + 2 * length raw)
unfolding lines_from
lined_over {raw} {after = after} {i = i} v h =
    let e : lines raw ≡ v.done =
    v.all ∙ ap (λ (x : List ℕ). v.done ++ lines_from after x) (drop_of_length-le raw h) ∙ append-nil v.done in
    (rw e v.laid, omega (arith, v.near, v.inside))

pub ruleset lining = (lay_cr, lay_kept, lay_skipped, lined_start, lined_step, lined_over)

-- ---- characters: bytes, one behind another

pub lays_two : {q : Bool} {o o₁ o₂ : List ℕ} {to a b : ℕ} {r t : Laid} → Lays q o to (a ∷ []) r o₁ × (r.to ≤ to + 2)
    → Lays q o₁ r.to (b ∷ []) t o₂ × (t.to ≤ r.to + 2)
    → Lays q o to (a ∷ b ∷ []) (record { to = t.to; special = r.special || t.special }) o₂ × (t.to ≤ to + 4)
lays_two (v, h) (w, k) = (lays_more v w, omega arith)

pub ruleset pairing = (lays_two)

module _ {q : Bool} {o o₁ : List ℕ} {to c : ℕ} where
  pub char_one : {r : Laid} → c < 0x80 → Lays q o to (c ∷ []) r o₁ × (r.to ≤ to + 2) → Lays q o to (utf8 c) r o₁ × (r.to ≤ to + 8)
  unfolding utf8
  char_one h (v, n) = (rw (lt-ltb c 0x80 h) v, omega arith)

  pub char_two : {y : ℕ} {r : Laid} → 0x80 ≤ c → c < 0x800 → y ≡ 0x80 + c % 0x40
      → Lays q o to ((0xC0 + c / 0x40) ∷ y ∷ []) r o₁ × (r.to ≤ to + 4) → Lays q o to (utf8 c) r o₁ × (r.to ≤ to + 8)
  unfolding utf8
  char_two {y} h k e (v, n) = (rw (le-ltb c 0x80 h, lt-ltb c 0x800 k, ← e) v, omega arith)

  pub char_three : {o₂ : List ℕ} {y z : ℕ} {r t : Laid} → 0x800 ≤ c → c < 0x10000 → y ≡ 0x80 + c / 0x40 % 0x40 → z ≡ 0x80 + c % 0x40
      → Lays q o to ((0xE0 + c / 0x1000) ∷ []) r o₁ × (r.to ≤ to + 2) → Lays q o₁ r.to (y ∷ z ∷ []) t o₂ × (t.to ≤ r.to + 4)
      → Lays q o to (utf8 c) (record { to = t.to; special = r.special || t.special }) o₂ × (t.to ≤ to + 8)
  unfolding utf8
  char_three {y = y} {z} h k e f (v, n) (w, m) =
      (rw (le-ltb c 0x80 (omega arith), le-ltb c 0x800 h, lt-ltb c 0x10000 k, ← e, ← f) (lays_more v w), omega arith)

  pub char_four : {o₂ : List ℕ} {x y z : ℕ} {r t : Laid} → 0x10000 ≤ c → x ≡ 0x80 + c / 0x1000 % 0x40 → y ≡ 0x80 + c / 0x40 % 0x40
      → z ≡ 0x80 + c % 0x40 → Lays q o to ((0xF0 + c / 0x40000) ∷ x ∷ []) r o₁ × (r.to ≤ to + 4)
      → Lays q o₁ r.to (y ∷ z ∷ []) t o₂ × (t.to ≤ r.to + 4)
      → Lays q o to (utf8 c) (record { to = t.to; special = r.special || t.special }) o₂ × (t.to ≤ to + 8)
  unfolding utf8
  char_four {x = x} {y} {z} h d e f (v, n) (w, m) =
      (rw (le-ltb c 0x80 (omega arith), le-ltb c 0x800 (omega arith), le-ltb c 0x10000 h, ← d, ← e, ← f) (lays_more v w), omega arith)

pub ruleset encoding = (char_one, char_two, char_three, char_four)

-- ---- the quotes, the line end and the header

pub lays_end : {o o₁ o₂ : List ℕ} {to a r : ℕ} → Wrote o to (0xD ∷ []) a o₁ → Wrote o₁ a (0xA ∷ []) r o₂ → Wrote o to (0xD ∷ 0xA ∷ []) r o₂
lays_end v w = wrote_more v w

pub ruleset ending = (lays_end)
