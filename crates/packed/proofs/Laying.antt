-- The laws of laying a sound list in the packed form. In order: a test; what stands before a line's steps; the steps, one by one; a line;
-- all lines. The invariants say: what is laid so far is the packed form of what was read, and the rest is read from here on.
use mathlib.Core.Path.{◌≡◌, refl, sym, ap, ◌∙◌}
use mathlib.Core.Bool.{Bool, true, ◌&&◌}
use mathlib.Core.List.{List, [], ◌∷◌, ◌++◌, append_assoc, append-nil}
use mathlib.Core.Option.{Option as Maybe, none, some, none-ne-some, some-injective}
use Prim.Native.Nat.{ℕ, ◌+◌, ◌-◌, ◌*◌, ◌/◌, ◌%◌, ◌≤◌, ◌<◌}
use native.Mathlib.Omega.{arith}
use borrow.Author.Tests.{leb-true, ne_eqb}
use lib.Dec.{leb}
use lib.ListN.{length, take, drop, length-append, length-drop, drop_of_length-le}
use lib.Seq.{length-take-le}
use Rattle.std.specs.Prelude.{Option, None, Some, Ok}
use Rattle.xml.proofs.Bools.{and_left, and_right}
use Rattle.paths.specs.Path.{Test, any, named, Step, AttributeTest, Path, test_size, print_all, print_kind, print_test, print_step}
use Rattle.paths.specs.Path.{print_mark, print_line}
use Rattle.paths.specs.Reader.{Run, steps, Ending, ending_of, print_end, end_at, path_of}
use Rattle.paths.specs.Judge.{small_names, small_test, within, lines, list_answer, list_paths}
use Rattle.paths.specs.Place.{step_placed, step_end_at, end_placed, line_end_at}
use Rattle.paths.specs.declared.Step.{Step as PlacedStep}
use Rattle.paths.specs.declared.LineEnd.{LineEnd}
use Rattle.paths.proofs.Steps.{steps_none}
use Rattle.paths.proofs.Lines.{within_test, line_long, sound_nil, lines_none}
use Rattle.paths.proofs.Here.{StepHere, step_none, step_here, TestHere, EndHere, end_none, end_here}
use Rattle.paths.proofs.Here.{line_ends, LineHere, line_here, sound_lines}
use Rattle.writer.specs.Wrote.{Wrote}
use Rattle.writer.proofs.Laying.{wrote_none, wrote_more, wrote_long}
use Rattle.packed.specs.Packed.{pack_kind, pack_test, pack_step, pack_attribute, pack_mark, pack_record, pack_line, pack_list, pack_of}
use Rattle.packed.specs.Laid.{LaidSteps, pack_head, test_length, pack_placed, SoundLine, LaidLine}
use Rattle.packed.specs.declared.lay.Steps.{Steps}
use Rattle.packed.specs.declared.lay.Line.{Line}
use Rattle.packed.proofs.Bound.{kind_some, line_bound, sound_short}
use Rattle.packed.proofs.Spelling.{take_short}

-- ---- a test

module _ (len size : ℕ) where
  pub test_long_none : len ≡ 0 → (1 ≡ test_length len size) × (1 ≤ 512)
  test_long_none e = (rw e, omega arith)

  pub test_long_some : (len ≡ 0 → ⊥) → len ≤ 255 → size ≤ 255 → (2 + len + size ≡ test_length len size) × (2 + len + size ≤ 512)
  test_long_some h i j = (rw (ne_eqb len 0 h), omega arith)

pub ruleset test_long = (test_long_none, test_long_some)

module _ (d : List ℕ) (name len value size : ℕ) {o o₁ : List ℕ} {to a : ℕ} (w : Wrote o to (len ∷ []) a o₁) where
  pub placed_none : len ≡ 0 → Wrote o to (pack_placed d name len value size) a o₁
  placed_none e = rw e (rw e at w)

  pub placed_some : {o₂ o₃ o₄ : List ℕ} {e f b c r : ℕ} → (len ≡ 0 → ⊥) → e ≡ name + len
      → Wrote o₁ a (take (e - name) (drop name d)) b o₂ → Wrote o₂ b (size ∷ []) c o₃ → f ≡ value + size
      → Wrote o₃ c (take (f - value) (drop value d)) r o₄ → Wrote o to (pack_placed d name len value size) r o₄
  placed_some {e = e} {f} h p x y q z =
      let i : e - name ≡ len = omega arith in
      let j : f - value ≡ size = omega arith in
      rw (ne_eqb len 0 h) (wrote_more w (wrote_more (rw i at x) (wrote_more y (rw j at z))))

pub ruleset placing = (placed_none, placed_some)

-- ---- before the steps

pub head_laid : {o o₁ o₂ o₃ o₄ : List ℕ} {to a b c r k count : ℕ} (n : ℕ) (m : Bool) → Wrote o to (n / 256 ∷ []) a o₁
    → Wrote o₁ a (n % 256 ∷ []) b o₂ → k ≡ pack_mark m → Wrote o₂ b (k ∷ []) c o₃ → Wrote o₃ c (count ∷ []) r o₄
    → Wrote o to (pack_head n m count) r o₄
head_laid n m p q e s t = wrote_more p (wrote_more q (wrote_more (rw e at s) t))

pub ruleset heading = (head_laid)

-- ---- the steps

-- from the place `from` on the steps up to the place at are laid, and there are `count` of them
pub record Stepped (d : List ℕ) (from : ℕ) (o : List ℕ) (to count at place : ℕ) (o' : List ℕ) : Type 0 where
  pub done : List Step
  pub all : (steps (drop from d)).all ≡ done ++ (steps (drop at d)).all
  pub rest : (steps (drop from d)).rest ≡ (steps (drop at d)).rest
  pub counted : count ≡ length done
  pub laid : Wrote o to (print_all pack_step done) place o'
  pub same : length o' ≡ length o
  pub small : small_names (steps (drop at d)).all ≡ true
  pub begun : from + count ≤ at
  pub inside : at ≤ length d
  pub near : place + 2 * from ≤ to + 2 * at

pub stepped_start : {d o : List ℕ} {from to : ℕ} → small_names (steps (drop from d)).all ≡ true → from ≤ length d
    → Stepped d from o to 0 from to o
stepped_start h l =
    record {
      done = [];
      all = refl;
      rest = refl;
      counted = refl;
      laid = wrote_none;
      same = refl;
      small = h;
      begun = omega arith;
      inside = l;
      near = omega arith;
    }

all_more : {A : Type 0} (print : A → List ℕ) (xs : List A) (x : A) → print_all print (xs ++ x ∷ []) ≡ print_all print xs ++ print x
all_more print [] x = append-nil (print x)
all_more print (y ∷ xs) x = ap (λ (v : List ℕ). print y ++ v) (all_more print xs x) ∙ sym (append_assoc (print y) _ _)

-- a step by the places of its name
step_packed : {d : List ℕ} {at : ℕ} {y : PlacedStep} (h : StepHere d at y)
    → pack_step h.step ≡ pack_kind y.kind ∷ y.len ∷ take y.len (drop y.name d)
unfolding pack_step
step_packed {d} {y = y} h = go h.step.test refl h.size
  where
    go : (t : Test) → h.step.test ≡ t → y.len ≡ test_size t
        → pack_kind h.step.kind ∷ pack_test t ≡ pack_kind y.kind ∷ y.len ∷ take y.len (drop y.name d)
    go any e s = rw (s, h.kind)
    go (named n) e s = rw (h.bytes n e, h.kind, s)

test_size_lem : (t : Test) → test_size t ≤ length (print_test t)
test_size_lem any = omega arith
test_size_lem (named n) = omega arith

module _ (d : List ℕ) (at : ℕ) {r : Option PlacedStep} (q : r ≡ step_end_at d at) {y : PlacedStep} (f : r ≡ Some y) where
  here : StepHere d at y
  here = step_here d at q f

  -- its name stands inside, behind at least one byte
  step_parts : (y.name + y.len ≤ y.end) × (at + 1 + y.len ≤ y.end)
  unfolding step_end_at print_step
  step_parts =
      let x = here.step in
      let z : Some y ≡ step_placed at (some x) = sym f ∙ q ∙ ap (step_placed at) here.found in
      let a : y.name ≡ at + length (print_kind x.kind) = cc in
      let b : y.len ≡ test_size x.test = cc in
      let c : y.end ≡ at + length (print_kind x.kind ++ print_test x.test) = cc in
      let t = test_size_lem x.test in
      let u = kind_some x.kind in
      let l = length-append (print_kind x.kind) (print_test x.test) in
      (omega arith, omega arith)

  pub step_inside : y.name + y.len ≤ length d
  step_inside = let a = step_parts.0 in let b = here.inside in omega arith

  pub step_wide : at + 1 + y.len ≤ y.end
  step_wide = step_parts.1

module _ {d o o₁ : List ℕ} {from to count at place : ℕ} (v : Stepped d from o to count at place o₁) {r : Option PlacedStep}
    (q : r ≡ step_end_at d at) where
  module _ {y : PlacedStep} (f : r ≡ Some y) where
    small_here : leb y.len 255 && small_names (steps (drop y.end d)).all ≡ true
    small_here =
        let h = step_here d at q f in
        rw h.size (sym (ap (λ (r : Run Step). small_names r.all) h.runs) ∙ v.small)

    pub step_small : y.len ≤ 255
    step_small = leb-true y.len 255 (and_left _ _ small_here)

    pub stepped_less : length d - y.end < length d - at
    stepped_less = let h = step_here d at q f in let a = h.on in let b = h.inside in omega arith

    pub stepped_on : {o₂ o₃ o₄ : List ℕ} {a b e g n : ℕ} → n ≡ pack_kind y.kind → Wrote o₁ place (n ∷ []) a o₂
        → Wrote o₂ a (y.len ∷ []) b o₃ → e ≡ y.name + y.len → Wrote o₃ b (take (e - y.name) (drop y.name d)) g o₄
        → Stepped d from o to (count + 1) y.end g o₄
    stepped_on {o₄ = o₄} {e = e} {g} p x u z w =
        let h = step_here d at q f in
        let s = h.step in
        let i : e - y.name ≡ y.len = omega arith in
        let l : Wrote o₁ place (pack_kind y.kind ∷ y.len ∷ take y.len (drop y.name d)) g o₄ =
        wrote_more (rw p at x) (wrote_more u (rw i at w)) in
        let j : Wrote o₁ place (pack_step s) g o₄ = rw (step_packed h) l in
        let a = v.near in
        let b = v.begun in
        let c = h.on in
        let m = step_wide d at q f in
        let k = take_short y.len (drop y.name d) in
        let t = l.long in
        record {
          done = v.done ++ s ∷ [];
          all = v.all ∙ ap (λ (r : Run Step). v.done ++ r.all) h.runs ∙ sym (append_assoc v.done (s ∷ []) _);
          rest = v.rest ∙ ap (λ (r : Run Step). r.rest) h.runs;
          counted = rw (length-append v.done (s ∷ [])) (ap (λ (n : ℕ). n + 1) v.counted);
          laid = rw (all_more pack_step v.done s) (wrote_more v.laid j);
          same = wrote_long j ∙ v.same;
          small = and_right (leb y.len 255) _ small_here;
          begun = omega arith;
          inside = h.inside;
          near = omega arith;
        }

  pub stepped_done : r ≡ None → LaidSteps d from o to (record { count = count; end = at; to = place }) o₁
  stepped_done f =
      let h = steps_none (drop at d) (step_none d at q f) in
      let z : (steps (drop from d)).all ≡ v.done =
      v.all ∙ ap (λ (r : Run Step). v.done ++ r.all) h ∙ append-nil v.done in
      let b = v.begun in
      record {
        counted = v.counted ∙ sym (ap length z);
        left = v.rest ∙ ap (λ (r : Run Step). r.rest) h;
        laid = rw z v.laid;
        on = omega arith;
        inside = v.inside;
        near = v.near;
      }

pub ruleset stepping = (stepped_start, step_inside, step_small, stepped_less, stepped_on, stepped_done)

-- ---- a line

attribute_placed_lem : (d : List ℕ) (x : Maybe AttributeTest) (name len value size : ℕ) → (x ≡ none → len ≡ 0)
    → ((y : AttributeTest) → x ≡ some y → TestHere d y name len value size) → len ≤ 255 → size ≤ 255
    → (name + len ≤ length d) × (value + size ≤ length d)
    → (pack_placed d name len value size ≡ pack_attribute x) × (test_length len size ≡ length (pack_attribute x))
attribute_placed_lem d none name len value size a b l m i = rw (a refl) (refl, refl)
attribute_placed_lem d (some y) name len value size a b l m i =
    let h = b y refl in
    let s = h.some in
    let e : len ≡ length y.name = sym (long name len i.0) ∙ ap length h.named in
    let f : size ≡ length y.value = sym (long value size i.1) ∙ ap length h.valued in
    let n : len ≡ 0 → ⊥ = λ z. omega arith in
    let p : pack_placed d name len value size ≡ pack_attribute (some y) = rw (ne_eqb len 0 n, h.named, h.valued, e, f) in
    (p, rw (ne_eqb len 0 n) (omega (arith, length-append y.name (length y.value ∷ y.value))))
  where
    long : (at n : ℕ) → at + n ≤ length d → length (take n (drop at d)) ≡ n
    long at n k = length-take-le n (drop at d) (omega (arith, length-drop at d))

-- what is known at a line's end
pub record LineParts (d : List ℕ) (at end : ℕ) (y : LineEnd) : Type 0 where
  pub line : LineHere d at
  pub mark : y.marked ≡ line.path.marked
  pub ends : y.next ≡ at + length (print_line line.path)
  pub placed : pack_placed d y.name y.len y.value y.size ≡ pack_attribute line.path.test
  pub long : test_length y.len y.size ≡ length (pack_attribute line.path.test)
  pub name_small : y.len ≤ 255
  pub value_small : y.size ≤ 255
  pub name_inside : y.name + y.len ≤ length d
  pub value_inside : y.value + y.size ≤ length d

end_inside : {d : List ℕ} {at : ℕ} {y : LineEnd} (h : EndHere d at y)
    → (y.name + y.len ≤ length d) × (y.value + y.size ≤ length d)
end_inside {d} {at} {y} h = go h.ending.test h.ending.marked h.placed
  where
    go : (x : Maybe AttributeTest) (m : Bool) → Some y ≡ end_placed at (some (record { test = x; marked = m }))
        → (y.name + y.len ≤ length d) × (y.value + y.size ≤ length d)
    go none m z =
        let a : y.name ≡ 0 = cc in
        let b : y.len ≡ 0 = cc in
        let c : y.value ≡ 0 = cc in
        let e : y.size ≡ 0 = cc in
        (omega arith, omega arith)
    go (some x) m z =
        let a : y.name ≡ at + 2 = cc in
        let b : y.len ≡ length x.name = cc in
        let c : y.value ≡ at + 2 + length x.name + 2 = cc in
        let e : y.size ≡ length x.value = cc in
        let f : y.next ≡ at + length (print_end (record { test = some x; marked = m })) = cc in
        let i = h.inside in
        let l : length (print_end (record { test = some x; marked = m }))
        ≡ 2 + length x.name + 2 + length x.value + 2 + length (print_mark m) + 1 = simp length-append (omega arith) in
        (omega arith, omega arith)

module _ {d : List ℕ} {at : ℕ} (s : SoundLine d at) where
  line : LineHere d at
  line = line_here d at s.left s.some

  fits : leb (length line.path.steps) 16 && (small_names line.path.steps && small_test line.path.test) ≡ true
  unfolding within
  fits = within_test line.good.within

  pub line_small : small_names (steps (drop at d)).all ≡ true
  line_small =
      rw line.has_steps
      (and_left (small_names line.path.steps) (small_test line.path.test)
      (and_right (leb (length line.path.steps) 16) (small_names line.path.steps && small_test line.path.test) fits))

  module _ {o o₁ : List ℕ} {to : ℕ} {r : Steps} (v : LaidSteps d at o to r o₁) where
    pub line_few : r.count ≤ 16
    line_few =
        let h = leb-true (length line.path.steps) 16 (and_left (leb (length line.path.steps) 16) _ fits) in
        let e = v.counted ∙ ap length line.has_steps in
        omega arith

    end_found : end_at (drop r.end d) ≡ some (ending_of line.path)
    end_found = ap end_at (sym v.left) ∙ line.has_end

    module _ {k : Option LineEnd} (q : k ≡ line_end_at d r.end) where
      pub line_no_fault : k ≡ None → {A : Type 0} → A
      line_no_fault f = absurd (none-ne-some _ (sym (end_none d r.end q f) ∙ end_found))

      pub line_parts : {y : LineEnd} → k ≡ Some y → LineParts d at r.end y
      line_parts {y} f =
          let h = end_here d r.end q f in
          let e : h.ending ≡ ending_of line.path = some-injective _ _ (sym h.found ∙ end_found) in
          let x : h.ending.test ≡ line.path.test = ap (λ (y : Ending). y.test) e in
          let w : leb y.len 255 && leb y.size 255 ≡ true =
          h.small
          ∙ ap small_test x
          ∙ and_right (small_names line.path.steps) (small_test line.path.test)
          (and_right (leb (length line.path.steps) 16) (small_names line.path.steps && small_test line.path.test) fits) in
          let a = leb-true y.len 255 (and_left (leb y.len 255) (leb y.size 255) w) in
          let b = leb-true y.size 255 (and_right (leb y.len 255) (leb y.size 255) w) in
          let i = end_inside h in
          let p = attribute_placed_lem d h.ending.test y.name y.len y.value y.size h.untested h.tested a b i in
          let n : print_line (path_of (steps (drop at d)).all h.ending) ≡ print_line line.path =
          rw (line.has_steps, e) in
          record {
            line = line;
            mark = h.mark ∙ ap (λ (y : Ending). y.marked) e;
            ends = h.ends ∙ sym (line_ends d at r.end h.ending v.on v.inside v.left) ∙ ap (λ (t : List ℕ). at + length t) n;
            placed = p.0 ∙ ap pack_attribute x;
            long = p.1 ∙ ap (λ (y : Maybe AttributeTest). length (pack_attribute y)) x;
            name_small = a;
            value_small = b;
            name_inside = i.0;
            value_inside = i.1;
          }

-- the measured length, and what is laid
pub line_laid : {d o o₁ o₂ o₃ s s' : List ℕ} {at to t a e : ℕ} {y : LineEnd} {r l : Steps} → LineParts d at r.end y
    → LaidSteps d at s 0 r s' → (t ≡ test_length y.len y.size) × (t ≤ 512)
    → Wrote o to (pack_head (2 + r.to + t) y.marked r.count) a o₁ → LaidSteps d at o₁ a l o₂
    → Wrote o₂ l.to (pack_placed d y.name y.len y.value y.size) e o₃ → LaidLine d at o to (record { end = y.next; to = e }) o₃
unfolding pack_line pack_record
line_laid {d} {at = at} {t = t} {y = y} {r = r} p v z h w u =
    let q = p.line.path in
    let x : (steps (drop at d)).all ≡ q.steps = p.line.has_steps in
    let k = z.0 ∙ p.long in
    let i = v.laid.long ∙ ap (λ (xs : List Step). 0 + length (print_all pack_step xs)) x in
    let n : 2 + r.to + t ≡ length (pack_record q) =
    omega (arith, length-append (print_all pack_step q.steps) (pack_attribute q.test)) in
    let c : r.count ≡ length q.steps = v.counted ∙ ap length x in
    let f : y.next ≡ at + length (print_line q) = p.ends in
    record {
      path = q;
      good = p.line.good;
      runs = rw f p.line.runs;
      ends = f;
      inside = rw f p.line.inside;
      laid = wrote_more (rw (n, p.mark, c) at h) (wrote_more (rw x at w.laid) (rw p.placed at u));
    }

-- ---- all lines

-- the lines before the place at are laid, and nothing but sound lines is left
pub record Listed (d o : List ℕ) (at to : ℕ) (o' : List ℕ) : Type 0 where
  pub text : List ℕ
  pub laid : Wrote o 1 text to o'
  pub same : length o' ≡ length o
  pub all : text ++ print_all pack_line (lines (drop at d)).all ≡ print_all pack_line (list_paths d)
  pub left : (lines (drop at d)).rest ≡ []
  pub inside : at ≤ length d
  pub short : length d ≤ 8192
  pub low : to ≤ 1 + 21 * at

pub list_start : {d o : List ℕ} → list_answer d ≡ Ok tt → Listed d o 0 1 o
list_start {d} e =
    let r = sound_lines d e in
    record {
      text = [];
      laid = wrote_none;
      same = refl;
      all = ap (λ (r : Run Path). print_all pack_line r.all) r;
      left = ap (λ (r : Run Path). r.rest) r;
      inside = omega arith;
      short = sound_short d e;
      low = omega arith;
    }

module _ {d o o₁ : List ℕ} {at to : ℕ} (v : Listed d o at to o₁) where
  pub list_line : at < length d → SoundLine d at
  list_line l = record { left = v.left; some = l }

  module _ {o₂ : List ℕ} {r : Line} (w : LaidLine d at o₁ to r o₂) where
    pub list_less : length d - r.end < length d - at
    list_less = let a = line_long w.path in let b = w.ends in let c = w.inside in omega arith

    pub list_on : Listed d o r.end r.to o₂
    list_on =
        let p = w.path in
        let b = line_bound p w.good in
        let c = line_long p in
        let e = w.ends in
        let f = v.low in
        record {
          text = v.text ++ pack_line p;
          laid = wrote_more v.laid w.laid;
          same = wrote_long w.laid ∙ v.same;
          all =
              append_assoc v.text (pack_line p) _
              ∙ sym (ap (λ (r : Run Path). v.text ++ print_all pack_line r.all) w.runs)
              ∙ v.all;
          left = sym (ap (λ (r : Run Path). r.rest) w.runs) ∙ v.left;
          inside = w.inside;
          short = v.short;
          low = omega (arith, w.laid.long);
        }

  pub list_done : length d ≤ at → Wrote o 1 (print_all pack_line (list_paths d)) to o₁
  list_done l =
      let z : (lines (drop at d)).all ≡ [] = ap (λ (s : List ℕ). (lines s).all) (drop_of_length-le d l) ∙ lines_nil in
      rw (sym (append-nil v.text) ∙ ap (λ (ps : List Path). v.text ++ print_all pack_line ps) (sym z) ∙ v.all) at v.laid
    where
      lines_nil : (lines []).all ≡ []
      lines_nil = ap (λ (r : Run Path). r.all) (lines_none [] sound_nil)

-- the version, and behind it all lines
pub list_laid : (d : List ℕ) {o o₁ o₂ : List ℕ} {a r : ℕ} → Wrote o 0 (1 ∷ []) a o₁ → Wrote o₁ 1 (print_all pack_line (list_paths d)) r o₂
    → Wrote o 0 (pack_of d) r o₂
unfolding pack_of pack_list
list_laid d {a = a} v w = let e : 1 ≡ a = omega (arith, v.long) in wrote_more v (rw e at w)

pub ruleset listing = (list_start, list_line, list_less, list_on, list_done)
