-- The laws of spelling a packed form as text. In order: a byte and a part of the input; a step, and so many steps; a test; a line; all
-- lines. The invariants say: what is laid so far, and behind it what is spelled from here on, are what is spelled from the start.
use mathlib.Core.Path.{◌≡◌, refl, sym, ap, ◌∙◌}
use mathlib.Core.List.{List, [], ◌∷◌, ◌++◌, append_assoc, append-nil}
use Prim.Native.Nat.{ℕ, zero, suc, ◌+◌, ◌-◌, ◌*◌, ◌≤◌, ◌<◌}
use native.Mathlib.Omega.{arith}
use borrow.Author.Tests.{ne_eqb}
use lib.ListN.{length, take, drop, get_or, length-take, length-drop, drop_of_length-le, get_or-eq_default}
use lib.Seq.{take-nil, take_all, drop-drop, get_or-drop}
use Rattle.xml.specs.Notation.{bytes}
use Rattle.paths.specs.Path.{print_kind}
use Rattle.paths.specs.declared.Kind.{Kind}
use Rattle.paths.specs.declared.Kind.TheVariants.{Child, Descendant, SelfStep, DescendantOrSelf}
use Rattle.writer.specs.Wrote.{Wrote}
use Rattle.writer.proofs.Laying.{wrote_none, wrote_more, wrote_long}
use Rattle.packed.specs.Spelled.{kind_of, spell_name, spell_step, spell_steps, spell_tested, spell_attribute, spell_end}
use Rattle.packed.specs.Spelled.{spell_line, spell_lines, spelled}
use Rattle.packed.specs.Laid.{ByteAt, Lays, Spells}
use Rattle.packed.specs.declared.spell.Part.{Part}

-- ---- a byte, and a part

pub byte_past : (d : List ℕ) (at : ℕ) → length d ≤ at → ByteAt d at 0
byte_past d at l = record { is = sym (get_or-eq_default d 0 l); small = omega arith }

pub byte_here : (d : List ℕ) (at : ℕ) → get_or d at 0 < 256 → ByteAt d at (get_or d at 0)
byte_here d at l = record { is = refl; small = omega arith }

pub ruleset bytes_at = (byte_past, byte_here)

-- the byte at k behind the place at, of what stands there
byte_behind : (d : List ℕ) (at k n : ℕ) {p : ℕ} → at + k ≡ p → ByteAt d p n → get_or (drop at d) k 0 ≡ n
byte_behind d at k n e b = get_or-drop at d k 0 ∙ ap (λ (i : ℕ). get_or d i 0) e ∙ sym b.is

-- what stands k behind the place at
drop_behind : (d : List ℕ) (at k : ℕ) {p : ℕ} → at + k ≡ p → drop k (drop at d) ≡ drop p d
drop_behind d at k e = drop-drop k at d ∙ ap (λ (i : ℕ). drop i d) e

pub take_short : (n : ℕ) (s : List ℕ) → length (take n s) ≤ n
take_short n s = rw length-take (omega arith)

lays_part : {o o' : List ℕ} {to r : ℕ} (n : ℕ) (s : List ℕ) → Wrote o to (take n s) r o' → Lays n o to (take n s) r o'
lays_part n s w = let h = take_short n s in record { laid = w; low = omega (arith, w.long) }

pub part_past : {o : List ℕ} {to : ℕ} (d : List ℕ) (at n : ℕ) → length d ≤ at → Lays n o to (take n (drop at d)) to o
part_past d at n l = lays_part n (drop at d) (rw (drop_of_length-le d l, take-nil) wrote_none)

module _ {o o' : List ℕ} {to r : ℕ} (d : List ℕ) (at n : ℕ) where
  pub part_short : length d - at ≤ n → Wrote o to (take (length d - at) (drop at d)) r o' → Lays n o to (take n (drop at d)) r o'
  part_short l w =
      let a : take (length d - at) (drop at d) ≡ drop at d = take_all (length d - at) (drop at d) (omega (arith, length-drop at d)) in
      let b : take n (drop at d) ≡ drop at d = take_all n (drop at d) (omega (arith, length-drop at d)) in
      lays_part n (drop at d) (rw (a ∙ sym b) at w)

  pub part_whole : {e : ℕ} → e ≡ at + n → Wrote o to (take (e - at) (drop at d)) r o' → Lays n o to (take n (drop at d)) r o'
  part_whole {e} q w = let z : e - at ≡ n = omega arith in lays_part n (drop at d) (rw z at w)

pub ruleset parts = (part_past, part_short, part_whole)

-- ---- a step

module _ {k : ℕ} where
  pub kind_child : k ≡ 0 → Child ≡ kind_of k
  unfolding kind_of
  kind_child e = rw e

  module _ (a : k ≡ 0 → ⊥) where
    pub kind_descendant : k ≡ 1 → Descendant ≡ kind_of k
    unfolding kind_of
    kind_descendant e = rw e

    module _ (b : k ≡ 1 → ⊥) where
      pub kind_self : k ≡ 2 → SelfStep ≡ kind_of k
      unfolding kind_of
      kind_self e = rw e

      pub kind_other : (k ≡ 2 → ⊥) → DescendantOrSelf ≡ kind_of k
      unfolding kind_of
      kind_other c = rw (ne_eqb k 0 a, ne_eqb k 1 b, ne_eqb k 2 c)

pub ruleset kinds = (kind_child, kind_descendant, kind_self, kind_other)

kind_short : (k : Kind) → length (print_kind k) ≤ 21
kind_short Child = omega arith
kind_short Descendant = omega arith
kind_short SelfStep = omega arith
kind_short DescendantOrSelf = omega arith

module _ {o o' : List ℕ} {to r : ℕ} where
  pub kind_laid : {k l : Kind} → k ≡ l → Wrote o to (print_kind l) r o' → Lays 21 o to (print_kind k) r o'
  kind_laid {k} {l} e w = let h = kind_short l in rw e (record { laid = w; low = omega (arith, w.long) })

  pub name_star : {n : ℕ} (s : List ℕ) → n ≡ 0 → Wrote o to (42 ∷ []) r o' → Lays 255 o to (spell_name n s) r o'
  name_star s e w = rw e (record { laid = w; low = omega (arith, w.long) })

  pub name_some : {n : ℕ} (s : List ℕ) → (n ≡ 0 → ⊥) → n ≤ 255 → Lays n o to (take n s) r o' → Lays 255 o to (spell_name n s) r o'
  name_some {n} s e l w = rw (ne_eqb n 0 e) (record { laid = w.laid; low = omega (arith, w.low) })

  pub end_marked : {m : ℕ} → m ≡ 1 → Wrote o to (bytes " #\n") r o' → Lays 3 o to (spell_end m) r o'
  end_marked e w = rw e (record { laid = w; low = omega (arith, w.long) })

  pub end_plain : {m : ℕ} → (m ≡ 1 → ⊥) → Wrote o to (bytes "\n") r o' → Lays 3 o to (spell_end m) r o'
  end_plain {m} e w = rw (ne_eqb m 1 e) (record { laid = w; low = omega (arith, w.long) })

pub ruleset small = (kind_laid, name_star, name_some, end_marked, end_plain)

pub step_spelled : {d o o₁ o₂ : List ℕ} {at to b n a e : ℕ} {k : Kind} → ByteAt d at b → ByteAt d (at + 1) n → k ≡ kind_of b
    → Lays 21 o to (print_kind k) a o₁ → Lays 255 o₁ a (spell_name n (drop (at + 2) d)) e o₂
    → Spells 276 at o to (spell_step (drop at d)) (record { end = at + 2 + n; to = e }) o₂
unfolding spell_step
step_spelled {d} {at = at} {b = b} {n} x y q w v =
    let f : get_or (drop at d) 0 0 ≡ b = byte_behind d at 0 b (omega arith) x in
    let g : get_or (drop at d) 1 0 ≡ n = byte_behind d at 1 n refl y in
    let i = y.small in
    record {
      ends = rw g (omega arith);
      laid = rw (f, g, ← q, drop-drop 2 at d) (wrote_more w.laid v.laid);
      near = omega arith;
      low = omega (arith, w.low, v.low);
    }

pub ruleset stepping = (step_spelled)

-- ---- so many steps

-- of `count` steps from the place `from` on, so many are laid
pub record Stepping (d : List ℕ) (from count : ℕ) (o : List ℕ) (to many at place : ℕ) (o' : List ℕ) : Type 0 where
  pub text : List ℕ
  pub size : ℕ
  pub laid : Wrote o to text place o'
  pub same : length o' ≡ length o
  pub ends : at ≡ from + size
  pub texts : text ++ (spell_steps (count - many) (drop at d)).text ≡ (spell_steps count (drop from d)).text
  pub sizes : size + (spell_steps (count - many) (drop at d)).size ≡ (spell_steps count (drop from d)).size
  pub few : many ≤ count
  pub most : count ≤ 255
  pub near : at ≤ from + 276 * many
  pub low : place ≤ to + 276 * many

pub steps_start : {d o : List ℕ} {from count to : ℕ} → count ≤ 255 → Stepping d from count o to 0 from to o
steps_start {count = count} l =
    let z : count - 0 ≡ count = omega arith in
    record {
      text = [];
      size = 0;
      laid = wrote_none;
      same = refl;
      ends = omega arith;
      texts = rw z;
      sizes = rw z (omega arith);
      few = omega arith;
      most = l;
      near = omega arith;
      low = omega arith;
    }

module _ {d o o₁ : List ℕ} {from count to many at place : ℕ} (v : Stepping d from count o to many at place o₁) where
  pub steps_on : {o₂ : List ℕ} {r : Part} → many < count → Spells 276 at o₁ place (spell_step (drop at d)) r o₂
      → Stepping d from count o to (many + 1) r.end r.to o₂
  unfolding spell_steps
  steps_on {o₂} {r} l w = go (count - many) refl
    where
      go : (n : ℕ) → count - many ≡ n → Stepping d from count o to (many + 1) r.end r.to o₂
      go zero e = absurd (omega arith)
      go (suc k) e =
          let z : count - (many + 1) ≡ k = omega arith in
          let x = spell_step (drop at d) in
          let m : drop x.size (drop at d) ≡ drop r.end d = drop_behind d at x.size (sym w.ends) in
          let p = v.ends in
          let q = w.ends in
          let f = v.few in
          let t : v.text ++ (x.text ++ (spell_steps k (drop x.size (drop at d))).text) ≡ (spell_steps count (drop from d)).text =
          rw e at v.texts in
          let s : v.size + (x.size + (spell_steps k (drop x.size (drop at d))).size) ≡ (spell_steps count (drop from d)).size =
          rw e at v.sizes in
          let t' : v.text ++ (x.text ++ (spell_steps k (drop r.end d)).text) ≡ (spell_steps count (drop from d)).text = rw m at t in
          let s' : v.size + (x.size + (spell_steps k (drop r.end d)).size) ≡ (spell_steps count (drop from d)).size = rw m at s in
          let a = v.near in
          let b = w.near in
          let g = v.low in
          let h = w.low in
          record {
            text = v.text ++ x.text;
            size = v.size + x.size;
            laid = wrote_more v.laid w.laid;
            same = wrote_long w.laid ∙ v.same;
            ends = omega arith;
            texts = rw z (append_assoc v.text x.text _ ∙ t');
            sizes = rw z (omega arith);
            few = omega arith;
            most = v.most;
            near = omega arith;
            low = omega arith;
          }

  pub steps_done : count ≤ many → Spells 70380 from o to (spell_steps count (drop from d)) (record { end = at; to = place }) o₁
  unfolding spell_steps
  steps_done l =
      let e : count - many ≡ 0 = omega arith in
      let f = v.few in
      let p = v.ends in
      let m = v.most in
      let a = v.near in
      let g = v.low in
      let t : v.text ++ [] ≡ (spell_steps count (drop from d)).text = rw e at v.texts in
      let s : v.size + 0 ≡ (spell_steps count (drop from d)).size = rw e at v.sizes in
      record {
        ends = omega arith;
        laid = rw (sym (append-nil v.text) ∙ t) at v.laid;
        near = omega arith;
        low = omega arith;
      }

pub ruleset steps_spelled = (steps_start, steps_on, steps_done)

-- ---- a test

pub test_none : {d o : List ℕ} {at to n : ℕ} → ByteAt d at n → n ≡ 0
    → Spells 516 at o to (spell_attribute (drop at d)) (record { end = at + 1; to = to }) o
unfolding spell_attribute
test_none {d} {at = at} {n = n} x e =
    let f : get_or (drop at d) 0 0 ≡ 0 = byte_behind d at 0 n (omega arith) x ∙ e in
    record {
      ends = rw f;
      laid = rw f wrote_none;
      near = omega arith;
      low = omega arith;
    }

pub tested_laid : (d : List ℕ) (at n m : ℕ) {o o₁ o₂ o₃ o₄ o₅ : List ℕ} {to a b c e f v : ℕ} → n ≤ 255 → m ≤ 255
    → Wrote o to (bytes "[@") a o₁ → Lays n o₁ a (take n (drop (at + 1) d)) b o₂ → Wrote o₂ b (bytes "=\"") c o₃ → v ≡ at + 2 + n
    → Lays m o₃ c (take m (drop v d)) e o₄
    → Wrote o₄ e (bytes "\"]") f o₅ → Lays 516 o to (spell_tested n m (drop at d)).text f o₅
tested_laid d at n m {v = y} i j p q r z u v =
    let k : at + (2 + n) ≡ y = omega arith in
    record {
      laid =
          rw (drop_behind d at 1 refl, drop_behind d at (2 + n) k)
          (wrote_more p (wrote_more q.laid (wrote_more r (wrote_more u.laid v))));
      low = omega (arith, p.long, q.low, r.long, u.low, v.long);
    }

pub test_some : {d o o₁ : List ℕ} {at to n m r : ℕ} → ByteAt d at n → (n ≡ 0 → ⊥) → ByteAt d (at + 1 + n) m
    → Lays 516 o to (spell_tested n m (drop at d)).text r o₁
    → Spells 516 at o to (spell_attribute (drop at d)) (record { end = at + 2 + n + m; to = r }) o₁
unfolding spell_attribute
test_some {d} {at = at} {n = n} {m} x h y w =
    let g : get_or (drop at d) 0 0 ≡ n = byte_behind d at 0 n (omega arith) x in
    let k : get_or (drop at d) (1 + n) 0 ≡ m = byte_behind d at (1 + n) m (omega arith) y in
    let i = x.small in
    let j = y.small in
    record {
      ends = rw (g, ne_eqb n 0 h, k) (omega arith);
      laid = rw (g, ne_eqb n 0 h, k) w.laid;
      near = omega arith;
      low = w.low;
    }

pub ruleset testing = (test_none, tested_laid, test_some)

-- ---- a line

pub line_spelled : {d o o₁ o₂ o₃ : List ℕ} {at to mark count e : ℕ} {s t : Part} → ByteAt d (at + 2) mark → ByteAt d (at + 3) count
    → Spells 70380 (at + 4) o to (spell_steps count (drop (at + 4) d)) s o₁
    → Spells 516 s.end o₁ s.to (spell_attribute (drop s.end d)) t o₂ → Lays 3 o₂ t.to (spell_end mark) e o₃
    → Spells 71000 at o to (spell_line (drop at d)) (record { end = t.end; to = e }) o₃
unfolding spell_line
line_spelled {d} {at = at} {mark = mark} {count} {s = s} x y p q r =
    let f : get_or (drop at d) 2 0 ≡ mark = byte_behind d at 2 mark refl x in
    let g : get_or (drop at d) 3 0 ≡ count = byte_behind d at 3 count refl y in
    let h : drop 4 (drop at d) ≡ drop (at + 4) d = drop_behind d at 4 refl in
    let z = spell_steps count (drop (at + 4) d) in
    let a = p.ends in
    let b = q.ends in
    let c : at + (4 + z.size) ≡ s.end = omega arith in
    let k : drop (4 + z.size) (drop at d) ≡ drop s.end d = drop_behind d at (4 + z.size) c in
    let i = p.near in
    let j = q.near in
    let l = p.low in
    let m = q.low in
    let n = r.low in
    record {
      ends = rw (g, h, k) (omega arith);
      laid = rw (f, g, h, k) (wrote_more p.laid (wrote_more q.laid r.laid));
      near = omega arith;
      low = omega arith;
    }

pub ruleset lining = (line_spelled)

-- ---- all lines

-- of 32 lines at most, so many are laid
pub record Spelling (d o : List ℕ) (many at to : ℕ) (o' : List ℕ) : Type 0 where
  pub text : List ℕ
  pub laid : Wrote o 0 text to o'
  pub same : length o' ≡ length o
  pub texts : text ++ spell_lines (32 - many) (drop at d) ≡ spelled d
  pub few : many ≤ 32
  pub near : at ≤ 1 + 71000 * many
  pub low : to ≤ 71000 * many

pub spell_start : {d o : List ℕ} → Spelling d o 0 1 0 o
unfolding spelled
spell_start =
    record { text = []; laid = wrote_none; same = refl; texts = refl; few = omega arith; near = omega arith; low = omega arith }

pub lines_none : (k : ℕ) → spell_lines k [] ≡ []
unfolding spell_lines
lines_none zero = refl
lines_none (suc k) = refl

pub lines_more : (k : ℕ) (s : List ℕ) → 0 < length s → spell_lines (suc k) s ≡ (spell_line s).text
    ++ spell_lines k (drop (spell_line s).size s)
unfolding spell_lines
lines_more k [] l = absurd (let z : 0 < 0 = l in omega arith)
lines_more k (b ∷ s) l = refl

module _ {d o o₁ : List ℕ} {many at to : ℕ} (v : Spelling d o many at to o₁) where
  pub spell_on : {o₂ : List ℕ} {r : Part} → many < 32 → at < length d → Spells 71000 at o₁ to (spell_line (drop at d)) r o₂
      → Spelling d o (many + 1) r.end r.to o₂
  spell_on {o₂} {r} l i w = go (32 - many) refl
    where
      go : (n : ℕ) → 32 - many ≡ n → Spelling d o (many + 1) r.end r.to o₂
      go zero e = absurd (omega arith)
      go (suc k) e =
          let z : 32 - (many + 1) ≡ k = omega arith in
          let x = spell_line (drop at d) in
          let m : drop x.size (drop at d) ≡ drop r.end d = drop_behind d at x.size (sym w.ends) in
          let s : spell_lines (32 - many) (drop at d) ≡ x.text ++ spell_lines k (drop r.end d) =
          ap (λ (j : ℕ). spell_lines j (drop at d)) e
          ∙ lines_more k (drop at d) (omega (arith, length-drop at d))
          ∙ ap (λ (y : List ℕ). x.text ++ spell_lines k y) m in
          let f = v.few in
          let a = v.near in
          let b = w.near in
          let g = v.low in
          let h = w.low in
          record {
            text = v.text ++ x.text;
            laid = wrote_more v.laid w.laid;
            same = wrote_long w.laid ∙ v.same;
            texts = rw z (append_assoc v.text x.text _ ∙ ap (λ (y : List ℕ). v.text ++ y) (sym s) ∙ v.texts);
            few = omega arith;
            near = omega arith;
            low = omega arith;
          }

  whole : spell_lines (32 - many) (drop at d) ≡ [] → Wrote o 0 (spelled d) to o₁
  whole e = rw (sym (append-nil v.text) ∙ ap (λ (y : List ℕ). v.text ++ y) (sym e) ∙ v.texts) at v.laid

  pub spell_all : 32 ≤ many → Wrote o 0 (spelled d) to o₁
  unfolding spell_lines
  spell_all l = let e : 32 - many ≡ 0 = omega arith in whole (rw e)

  pub spell_end_lem : length d ≤ at → Wrote o 0 (spelled d) to o₁
  spell_end_lem l = whole (ap (spell_lines (32 - many)) (drop_of_length-le d l) ∙ lines_none (32 - many))

pub ruleset spelling = (spell_start, spell_on, spell_all, spell_end_lem)
