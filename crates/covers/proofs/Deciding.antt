-- The tests of specs/Test.antt decide what specs/Cover.antt says: a step's goal, `sends_decides`; a sending, `sent_iff`; the same path,
-- `same_iff`; covering, `covers_iff`; a path that stands for another, `stands_iff`; and lists, `covered_iff`.
use mathlib.Core.Path.{◌≡◌, refl, sym, ap, ap₂, ◌∙◌, subst}
use mathlib.Core.Bool.{Bool, true, false, cond, not, false≢true, ◌&&◌, ◌||◌}
use mathlib.Core.List.{List, [], ◌∷◌}
use mathlib.Core.Logic.{◌↔◌, ◌⊎◌, inl, inr}
use mathlib.Core.Option.{Option, none, some}
use Prim.Native.Nat.{ℕ, zero, suc}
use lib.Dec.{eqb}
use borrow.Author.Tests.{eqb-true, eq-eqb}
use Rattle.xml.specs.Productions.{same}
use Rattle.xml.proofs.Bools.{and_left, and_right, and_both, or_left, or_right, or_either}
use Rattle.xml.proofs.Same.{same_equal, same_refl}
use Rattle.paths.specs.Path.{Test, any, named, Step, AttributeTest, Path, All, none as nil, more}
use Rattle.paths.specs.declared.Kind.{Kind}
use Rattle.paths.specs.declared.Kind.TheVariants.{Child, Descendant, SelfStep, DescendantOrSelf}
use Rattle.matcher.specs.Test.{lays}
use Rattle.matcher.specs.Says.{Some, this, later, some as any_of}
use Rattle.matcher.proofs.Places.{lays_iff}
use Rattle.covers.specs.Cover.{Wider, SendsTo, Sent, TestFor, plain, SamePath, Covers, sent, same as equal, StandsFor, Covered}
use Rattle.covers.specs.Test.{is_child, wider, sends_to, kind_number, same_test, same_step, same_steps, same_attribute, same_path, test_for}
use Rattle.covers.specs.Test.{covers, stands_for, every, covered}

-- ---- a step

wider-true : (s t : Test) → wider s t ≡ true → Wider s t
wider-true any t e = tt
wider-true (named m) any e = absurd (false≢true e)
wider-true (named m) (named n) e = same_equal m n e

true_wider : (s t : Test) → Wider s t → wider s t ≡ true
true_wider any t h = refl
true_wider (named m) any h = elim h [ ]
true_wider (named m) (named n) h = rw h (same_refl n)

pub child_is : (k : Kind) → is_child k ≡ true → k ≡ Child
child_is Child e = refl
child_is Descendant e = absurd (false≢true e)
child_is SelfStep e = absurd (false≢true e)
child_is DescendantOrSelf e = absurd (false≢true e)

child_true : (k l : Kind) → (not (is_child k) || is_child l) ≡ true → k ≡ Child → l ≡ Child
child_true k l e q = child_is l (subst (λ (u : Kind). (not (is_child u) || is_child l) ≡ true) q e)

true_child : (k l : Kind) → (k ≡ Child → l ≡ Child) → (not (is_child k) || is_child l) ≡ true
true_child Child l h = ap is_child (h refl)
true_child Descendant l h = refl
true_child SelfStep l h = refl
true_child DescendantOrSelf l h = refl

pub sends_decides : (s t : Step) → SendsTo s t ↔ (sends_to s t ≡ true)
sends_decides s t = (
  λ h. and_both (not (is_child s.kind) || is_child t.kind) (wider s.test t.test)
      (true_child s.kind t.kind h.child) (true_wider s.test t.test h.test),
  λ e. record {
    child = child_true s.kind t.kind (and_left (not (is_child s.kind) || is_child t.kind) (wider s.test t.test) e);
    test = wider-true s.test t.test (and_right (not (is_child s.kind) || is_child t.kind) (wider s.test t.test) e);
  },
)

pub sent_iff : (b a : List Step) → Sent b a ↔ (lays sends_to a b ≡ true)
sent_iff b a = lays_iff SendsTo a sends_to sends_decides b

-- ---- the same

abbrev numbered : ℕ → Kind
numbered zero = Child
numbered (suc zero) = Descendant
numbered (suc (suc zero)) = SelfStep
numbered (suc (suc (suc n))) = DescendantOrSelf

kind_numbered : (k : Kind) → numbered (kind_number k) ≡ k
kind_numbered Child = refl
kind_numbered Descendant = refl
kind_numbered SelfStep = refl
kind_numbered DescendantOrSelf = refl

kind_same : (k l : Kind) → eqb (kind_number k) (kind_number l) ≡ true → k ≡ l
kind_same k l e = sym (kind_numbered k) ∙ ap numbered (eqb-true (kind_number k) (kind_number l) e) ∙ kind_numbered l

test_same : (s t : Test) → same_test s t ≡ true → s ≡ t
test_same any any e = refl
test_same any (named n) e = absurd (false≢true e)
test_same (named m) any e = absurd (false≢true e)
test_same (named m) (named n) e = ap named (same_equal m n e)

test_refl : (s : Test) → same_test s s ≡ true
test_refl any = refl
test_refl (named m) = same_refl m

step_same : (s t : Step) → same_step s t ≡ true → s ≡ t
step_same s t e =
    ap₂ (λ (k : Kind) (x : Test). record { kind = k; test = x })
    (kind_same s.kind t.kind (and_left (eqb (kind_number s.kind) (kind_number t.kind)) (same_test s.test t.test) e))
    (test_same s.test t.test (and_right (eqb (kind_number s.kind) (kind_number t.kind)) (same_test s.test t.test) e))

step_refl : (s : Step) → same_step s s ≡ true
step_refl s =
    and_both (eqb (kind_number s.kind) (kind_number s.kind)) (same_test s.test s.test)
    (eq-eqb (kind_number s.kind) (kind_number s.kind) refl) (test_refl s.test)

pub steps_same : (b a : List Step) → same_steps b a ≡ true → b ≡ a
steps_same [] [] e = refl
steps_same [] (t ∷ ts) e = absurd (false≢true e)
steps_same (s ∷ ss) [] e = absurd (false≢true e)
steps_same (s ∷ ss) (t ∷ ts) e =
    ap₂ (λ (x : Step) (xs : List Step). x ∷ xs) (step_same s t (and_left (same_step s t) (same_steps ss ts) e))
    (steps_same ss ts (and_right (same_step s t) (same_steps ss ts) e))

pub steps_refl : (a : List Step) → same_steps a a ≡ true
steps_refl [] = refl
steps_refl (s ∷ ss) = and_both (same_step s s) (same_steps ss ss) (step_refl s) (steps_refl ss)

pub attribute_same : (x y : Option AttributeTest) → same_attribute x y ≡ true → x ≡ y
attribute_same none none e = refl
attribute_same none (some y) e = absurd (false≢true e)
attribute_same (some x) none e = absurd (false≢true e)
attribute_same (some x) (some y) e =
    ap some
    (ap₂ (λ (n v : List ℕ). record { name = n; value = v })
    (same_equal x.name y.name (and_left (same x.name y.name) (same x.value y.value) e))
    (same_equal x.value y.value (and_right (same x.name y.name) (same x.value y.value) e)))

pub attribute_refl : (x : Option AttributeTest) → same_attribute x x ≡ true
attribute_refl none = refl
attribute_refl (some x) =
    and_both (same x.name x.name) (same x.value x.value) (same_refl x.name) (same_refl x.value)

pub same_iff : (b a : Path) → SamePath b a ↔ (same_path b a ≡ true)
same_iff b a = (
  λ h. and_both (same_steps b.steps a.steps) (same_attribute b.test a.test)
      (subst (λ (ss : List Step). same_steps b.steps ss ≡ true) h.steps (steps_refl b.steps))
      (subst (λ (x : Option AttributeTest). same_attribute b.test x ≡ true) h.test (attribute_refl b.test)),
  λ e. record {
    steps = steps_same b.steps a.steps (and_left (same_steps b.steps a.steps) (same_attribute b.test a.test) e);
    test = attribute_same b.test a.test (and_right (same_steps b.steps a.steps) (same_attribute b.test a.test) e);
  },
)

-- ---- covering

test_iff : (x y : Option AttributeTest) → TestFor x y ↔ (test_for x y ≡ true)
test_iff none y = (λ h. refl, λ e. tt)
test_iff (some x) y = (
  λ h. subst (λ (z : Option AttributeTest). same_attribute (some x) z ≡ true) h (attribute_refl (some x)),
  λ e. attribute_same (some x) y e,
)

pub covers_iff : (b a : Path) → Covers b a ↔ (covers b a ≡ true)
unfolding covers
covers_iff b a = (into, back (plain b.steps && plain a.steps) refl)
  where
    into : Covers b a
        → cond (plain b.steps && plain a.steps) (lays sends_to a.steps b.steps && test_for b.test a.test) (same_path b a)
        ≡ true
    into (sent p h t) =
        rw p
        (and_both (lays sends_to a.steps b.steps) (test_for b.test a.test) ((sent_iff b.steps a.steps).0 h)
        ((test_iff b.test a.test).0 t))
    into (equal p h) = rw p ((same_iff b a).0 h)

    back : (c : Bool) → plain b.steps && plain a.steps ≡ c
        → cond c (lays sends_to a.steps b.steps && test_for b.test a.test) (same_path b a) ≡ true → Covers b a
    back true p e =
        sent p ((sent_iff b.steps a.steps).1 (and_left (lays sends_to a.steps b.steps) (test_for b.test a.test) e))
        ((test_iff b.test a.test).1 (and_right (lays sends_to a.steps b.steps) (test_for b.test a.test) e))
    back false p e = equal p ((same_iff b a).1 e)

-- ---- lists

module _ {A : Type 0} (P : A → Type 0) (f : A → Bool) (decides : (x : A) → P x ↔ (f x ≡ true)) where
  true_some : {xs : List A} → Some P xs → any_of f xs ≡ true
  true_some (this {x = x} {xs = xs} h) = or_left (f x) (any_of f xs) ((decides x).0 h)
  true_some (later {x = x} {xs = xs} h) = or_right (f x) (any_of f xs) (true_some h)

  some_true : (xs : List A) → any_of f xs ≡ true → Some P xs
  some_true [] e = absurd (false≢true e)
  some_true (x ∷ xs) e = go (or_either (f x) (any_of f xs) e) (some_true xs)
    where
      go : (f x ≡ true) ⊎ (any_of f xs ≡ true) → (any_of f xs ≡ true → Some P xs) → Some P (x ∷ xs)
      go (inl q) rest = this ((decides x).1 q)
      go (inr q) rest = later (rest q)

  some_iff : (xs : List A) → Some P xs ↔ (any_of f xs ≡ true)
  some_iff xs = (true_some, some_true xs)

  true_every : {xs : List A} → All P xs → every f xs ≡ true
  true_every nil = refl
  true_every (more {x = x} {xs = xs} h a) = and_both (f x) (every f xs) ((decides x).0 h) (true_every a)

  every_true : (xs : List A) → every f xs ≡ true → All P xs
  every_true [] e = nil
  every_true (x ∷ xs) e =
      more ((decides x).1 (and_left (f x) (every f xs) e)) (every_true xs (and_right (f x) (every f xs) e))

  every_iff : (xs : List A) → All P xs ↔ (every f xs ≡ true)
  every_iff xs = (true_every, every_true xs)

marks_iff : (b c : Bool) → (b ≡ true → c ≡ true) ↔ ((not b || c) ≡ true)
marks_iff true c = (λ h. h refl, λ e q. e)
marks_iff false c = (λ h. refl, λ e q. absurd (false≢true q))

pub stands_iff : (p q : Path) → StandsFor p q ↔ (stands_for p q ≡ true)
unfolding stands_for
stands_iff p q =
    let c = covers_iff q p in
    let m = marks_iff p.marked q.marked in (
      λ h. and_both (covers q p) (not p.marked || q.marked) (c.0 h.covered) (m.0 h.marked_too),
      λ e. record {
        covered = c.1 (and_left (covers q p) (not p.marked || q.marked) e);
        marked_too = m.1 (and_right (covers q p) (not p.marked || q.marked) e);
      },
    )

pub covered_iff : (ns ws : List Path) → Covered ns ws ↔ (covered ns ws ≡ true)
unfolding covered
covered_iff ns ws =
    every_iff (λ p. Some (λ q. StandsFor p q) ws) (λ p. any_of (λ q. stands_for p q) ws)
    (λ p. some_iff (λ q. StandsFor p q) (λ q. stands_for p q) (stands_iff p) ws) ns
