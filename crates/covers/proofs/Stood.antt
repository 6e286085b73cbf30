-- One line that stands for another. In order: the ways through `stands_for`; the lines tried one by one. Then the meaning: what
-- the bytes say is what `stands_for` says of the paths, `line_stands`, and so of all lines, `some_stands`.
use mathlib.Core.Path.{◌≡◌, refl, sym, ap, ap₂, ◌∙◌}
use mathlib.Core.Bool.{Bool, true, false, cond, not, false≢true, true≢false, ◌&&◌, ◌||◌, and-false, and-true, and_comm}
use mathlib.Core.List.{List, [], ◌++◌, append_assoc, append-nil, map}
use mathlib.Core.Option.{Option, none, some, some-injective}
use Prim.Native.Nat.{ℕ, zero, suc, ◌-◌, ◌≤◌, ◌<◌}
use native.Mathlib.Omega.{arith}
use borrow.Author.Tests.{eq-eqb, ne_eqb}
use lib.Dec.{eqb}
use lib.ListN.{length, take, drop, length-drop}
use lib.Seq.{length-take-le}
use Rattle.std.specs.List.{All as AllOf}
use Rattle.xml.specs.Notation.{bytes}
use Rattle.xml.specs.Productions.{same}
use Rattle.xml.proofs.Bools.{and_left, and_right}
use Rattle.xml.proofs.Same.{same_equal, same_refl}
use Rattle.paths.specs.Path.{AttributeTest, Path, print_step, print_all, print_attribute, IsPath, IfAny, ProperAttribute}
use Rattle.paths.specs.Reader.{attribute_at, line_at}
use Rattle.paths.proofs.Attributes.{attribute_undoes}
use Rattle.paths.proofs.Lines.{line_print, line_undoes}
use Rattle.compiled.specs.Bits.{bits_of}
use Rattle.matcher.specs.Test.{lays}
use Rattle.matcher.specs.Says.{some as any_of}
use Rattle.matcher.proofs.Digits.{bit_odd, bit_half}
use Rattle.covers.specs.Cover.{plain, SamePath}
use Rattle.covers.specs.Test.{sends_to, same_attribute, same_path, test_for, covers, stands_for}
use Rattle.covers.specs.Line.{Inside, body, part, LineOf, Each, none as nil, more, Lined}
use Rattle.covers.specs.Sending.{sends_by}
use Rattle.covers.specs.Standing.{stood, stands_by, some_by}
use Rattle.covers.specs.declared.line.Line.{Line}
use Rattle.covers.proofs.Deciding.{attribute_same, attribute_refl, same_iff}
use Rattle.covers.proofs.Sent.{lays_same}

-- ---- the ways through

marks_kept : (m n : Bool) → m && not n ≡ false → (not m || n) ≡ true
marks_kept true true e = refl
marks_kept true false e = absurd (true≢false e)
marks_kept false n e = refl

module _ (m n plainly sent untested tests paths : Bool) where
  stood_unmarked : m && not n ≡ true → false ≡ stood m n plainly sent untested tests paths
  stood_unmarked e = go m n e
    where
      go : (m n : Bool) → m && not n ≡ true → false ≡ cond plainly (sent && (untested || tests)) paths && (not m || n)
      go true true e = absurd (false≢true e)
      go true false e = sym (and-false (cond plainly (sent && (untested || tests)) paths))
      go false n e = absurd (false≢true e)

  stood_marked : m && not n ≡ false → cond plainly (sent && (untested || tests)) paths ≡ stood m n plainly sent untested tests paths
  stood_marked e =
      sym (ap (λ (b : Bool). cond plainly (sent && (untested || tests)) paths && b) (marks_kept m n e)
      ∙ and-true (cond plainly (sent && (untested || tests)) paths))

module _ (d : List ℕ) (a : Line) (e : List ℕ) (b : Line) (sent : Bool) where
  abbrev tests : Bool
  tests = same (part e b.steps b.end) (part d a.steps a.end)

  abbrev paths : Bool
  paths = same (part e b.from b.end) (part d a.from a.end)

  abbrev untested : Bool
  untested = eqb b.steps b.end

  pub stands_unmarked : a.marked && not b.marked ≡ true → false ≡ stands_by d a e b sent
  unfolding stands_by
  stands_unmarked h = stood_unmarked a.marked b.marked (a.plain && b.plain) sent untested tests paths h

  module _ (h : a.marked && not b.marked ≡ false) where
    kept : cond (a.plain && b.plain) (sent && (untested || tests)) paths ≡ stands_by d a e b sent
    unfolding stands_by
    kept = stood_marked a.marked b.marked (a.plain && b.plain) sent untested tests paths h

    pub stands_same : not (a.plain && b.plain) ≡ true → {r : Bool} → r ≡ paths → r ≡ stands_by d a e b sent
    stands_same p q = q ∙ go (a.plain && b.plain) p ∙ kept
      where
        go : (c : Bool) → not c ≡ true → paths ≡ cond c (sent && (untested || tests)) paths
        go true p = absurd (false≢true p)
        go false p = refl

    module _ (p : not (a.plain && b.plain) ≡ false) where
      both : (c : Bool) → not c ≡ false → (sent && (untested || tests)) ≡ cond c (sent && (untested || tests)) paths
      both true p = refl
      both false p = absurd (true≢false p)

      plain_kept : (sent && (untested || tests)) ≡ stands_by d a e b sent
      plain_kept = both (a.plain && b.plain) p ∙ kept

      pub stands_unsent : not sent ≡ true → false ≡ stands_by d a e b sent
      stands_unsent s = go sent s ∙ plain_kept
        where
          go : (c : Bool) → not c ≡ true → false ≡ (c && (untested || tests))
          go true s = absurd (false≢true s)
          go false s = refl

      module _ (s : not sent ≡ false) where
        there : (c : Bool) → not c ≡ false → (untested || tests) ≡ (c && (untested || tests))
        there true s = refl
        there false s = absurd (true≢false s)

        pub stands_untested : b.steps ≡ b.end → true ≡ stands_by d a e b sent
        stands_untested t =
            sym (ap (λ (c : Bool). c || tests) (eq-eqb b.steps b.end t)) ∙ there sent s ∙ plain_kept

        pub stands_tested : (b.steps ≡ b.end → ⊥) → {r : Bool} → r ≡ tests → r ≡ stands_by d a e b sent
        stands_tested t q =
            q ∙ sym (ap (λ (c : Bool). c || tests) (ne_eqb b.steps b.end t)) ∙ there sent s ∙ plain_kept

pub line_ordered : {d : List ℕ} {r : Line} → Inside d r → r.from ≤ r.end
line_ordered v = omega (arith, v.begun, v.tested)

pub ruleset ways = (stands_unmarked, stands_same, stands_unsent, stands_untested, stands_tested, line_ordered)

-- ---- line by line

each_inside : {d : List ℕ} {xs : List Line} {ps : List Path} → Each (LineOf d) xs ps → AllOf (Inside d) xs
each_inside nil i x l = absurd (let z : i < 0 = l in omega arith)
each_inside (more r e) zero x l = r.within
each_inside (more r e) (suc i) x l = each_inside e i x (omega arith)

pub lines_inside : {e : List ℕ} {all : List Line} {count : ℕ} → Lined e all count → AllOf (Inside e) (take count all)
lines_inside w = each_inside w.each

-- none of the first p lines stands for a
pub record Seeking (d : List ℕ) (a : Line) (e : List ℕ) (bs : List Line) (sent left p : ℕ) : Type 0 where
  pub rest : some_by d a e bs sent ≡ some_by d a e (drop p bs) left

-- ---- the meaning

same_bool : (a b : Bool) → (a ≡ true → b ≡ true) → (b ≡ true → a ≡ true) → a ≡ b
same_bool true b f g = sym (f refl)
same_bool false true f g = g refl
same_bool false false f g = refl

-- the same bytes, the same test
test_bytes : (x y : Option AttributeTest) → IfAny ProperAttribute x → IfAny ProperAttribute y → print_attribute x ≡ print_attribute y
    → x ≡ y
test_bytes none none o u e = refl
test_bytes none (some y) o u e = absurd (let z = ap length e in omega arith)
test_bytes (some x) none o u e = absurd (let z = ap length e in omega arith)
test_bytes (some x) (some y) o u e =
    sym (attribute_undoes.complete x [] o tt)
    ∙ ap (λ (s : List ℕ). attribute_at (s ++ [])) e
    ∙ attribute_undoes.complete y [] u tt

-- the same bytes but for the mark, the same path
abbrev unmarked : Path → Path
unmarked p = record { steps = p.steps; test = p.test; marked = false }

body_read : (p : Path) → IsPath p → line_at (body p ++ bytes "\n") ≡ some (unmarked p)
body_read p o =
    ap line_at
    (append_assoc (print_all print_step p.steps) (print_attribute p.test) (bytes "\n")
    ∙ ap (λ (s : List ℕ). print_all print_step p.steps ++ s) (sym (append-nil (print_attribute p.test ++ bytes "\n")))
    ∙ sym (line_print (unmarked p) []))
    ∙ line_undoes.complete (unmarked p) [] (record { some = o.some; each = o.each; test = o.test }) tt

body_bytes : (q p : Path) → IsPath q → IsPath p → body q ≡ body p → SamePath q p
body_bytes q p o u e =
    let z : unmarked q ≡ unmarked p =
    some-injective _ _ (sym (body_read q o) ∙ ap (λ (s : List ℕ). line_at (s ++ bytes "\n")) e ∙ body_read p u) in
    record { steps = ap (λ (x : Path). x.steps) z; test = ap (λ (x : Path). x.test) z }

module _ {d e : List ℕ} {a b : Line} {p q : Path} (v : LineOf d a p) (w : LineOf e b q) where
  paths_are : same (part e b.from b.end) (part d a.from a.end) ≡ same_path q p
  paths_are =
      ap₂ same w.body_is v.body_is
      ∙ same_bool (same (body q) (body p)) (same_path q p)
      (λ h. (same_iff q p).0 (body_bytes q p w.is v.is (same_equal (body q) (body p) h)))
      (λ h. let z = (same_iff q p).1 h in
      rw (z.steps, z.test) (same_refl (body p)))

  test_long : b.end - b.steps ≡ length (print_attribute q.test)
  test_long =
      sym (length-take-le (b.end - b.steps) (drop b.steps e)
      (omega (arith, length-drop b.steps e, w.within.tested, w.within.inside)))
      ∙ ap length w.test_is

  tests_are : (eqb b.steps b.end || same (part e b.steps b.end) (part d a.steps a.end)) ≡ test_for q.test p.test
  tests_are =
      ap₂ (λ (x y : List ℕ). eqb b.steps b.end || same x y) w.test_is v.test_is
      ∙ go q.test w.is.test test_long
    where
      go : (x : Option AttributeTest) → IfAny ProperAttribute x → b.end - b.steps ≡ length (print_attribute x)
          → (eqb b.steps b.end || same (print_attribute x) (print_attribute p.test)) ≡ test_for x p.test
      go none o l =
          ap (λ (c : Bool). c || same [] (print_attribute p.test))
          (eq-eqb b.steps b.end (let z : b.end - b.steps ≡ 0 = l in omega (arith, w.within.tested)))
      go (some x) o l =
          ap (λ (c : Bool). c || same (print_attribute (some x)) (print_attribute p.test))
          (ne_eqb b.steps b.end (λ h. omega arith))
          ∙ same_bool (same (print_attribute (some x)) (print_attribute p.test)) (same_attribute (some x) p.test)
          (λ h. rw (← test_bytes (some x) p.test o v.is.test (same_equal (print_attribute (some x)) (print_attribute p.test) h))
          (attribute_refl (some x)))
          (λ h. rw (← attribute_same (some x) p.test h) (same_refl (print_attribute (some x))))

  -- a line stands for another where its path does
  line_stands : stands_by d a e b (lays sends_by p.steps q.steps) ≡ stands_for p q
  unfolding stands_by stands_for covers
  line_stands =
      ap₂ (λ (x y : Bool). x && y)
      (ap₂ (λ (x y : Bool). cond (a.plain && b.plain) (lays sends_by p.steps q.steps && x) y) tests_are paths_are
      ∙ ap (λ (c : Bool). cond c (lays sends_by p.steps q.steps && test_for q.test p.test) (same_path q p)) plains
      ∙ go (plain q.steps && plain p.steps) refl)
      (ap₂ (λ (x y : Bool). not x || y) v.marked_is w.marked_is)
    where
      plains : a.plain && b.plain ≡ plain q.steps && plain p.steps
      plains = ap₂ (λ (x y : Bool). x && y) v.plain_is w.plain_is ∙ and_comm (plain p.steps) (plain q.steps)

      go : (c : Bool) → plain q.steps && plain p.steps ≡ c
          → cond c (lays sends_by p.steps q.steps && test_for q.test p.test) (same_path q p)
          ≡ cond c (lays sends_to p.steps q.steps && test_for q.test p.test) (same_path q p)
      go true h =
          ap (λ (c : Bool). c && test_for q.test p.test)
          (lays_same p.steps q.steps (and_right (plain q.steps) _ h) (and_left (plain q.steps) _ h))
      go false h = refl

-- and so do the lines of a list, if bit p says of line p that a sending exists
pub some_stands : {d e : List ℕ} {a : Line} {p : Path} → LineOf d a p → {bs : List Line} {ws : List Path} → Each (LineOf e) bs ws
    → some_by d a e bs (bits_of (map (λ q. lays sends_by p.steps q.steps) ws)) ≡ any_of (λ q. stands_for p q) ws
some_stands v nil = refl
some_stands {d} {e} {a} {p} v (more {x = b} {y = q} {xs = bs} {ys = ws} w rest) =
    let g : Path → Bool = λ q. lays sends_by p.steps q.steps in
    ap₂ (λ (c : Bool) (k : ℕ). stands_by d a e b c || some_by d a e bs k) (bit_odd (g q) (bits_of (map g ws)))
    (bit_half (g q) (bits_of (map g ws)))
    ∙ ap₂ (λ (x y : Bool). x || y) (line_stands v w) (some_stands v rest)
