-- What a path that covers another picks, `covers_picks`: whatever the other picks. And every path stands for itself, `stands_self`. In
-- order: plain steps; one name; all names; attribute tests; a path itself.
use mathlib.Core.Path.{◌≡◌, refl, sym, ap, ◌∙◌, subst}
use mathlib.Core.Bool.{Bool, true, false, not, false≢true, ◌&&◌, ◌||◌}
use mathlib.Core.List.{List, [], ◌∷◌}
use mathlib.Core.Logic.{◌⊎◌, inl, inr}
use mathlib.Core.Option.{Option, none, some}
use Prim.Native.Nat.{ℕ}
use Rattle.xml.specs.Productions.{same}
use Rattle.xml.proofs.Bools.{and_left, and_right, and_both, or_left, or_right, or_either}
use Rattle.xml.proofs.Same.{same_equal, same_refl}
use Rattle.attributes.specs.Attribute.{Attribute}
use Rattle.paths.specs.Path.{Test, any, named, Step, AttributeTest, Path}
use Rattle.paths.specs.declared.Kind.{Kind}
use Rattle.paths.specs.declared.Kind.TheVariants.{Child, Descendant, SelfStep, DescendantOrSelf}
use Rattle.compiled.specs.Kinds.{stays, goes, far}
use Rattle.compiled.specs.Bits.{passes}
use Rattle.matcher.specs.Select.{Selects}
use Rattle.matcher.specs.Test.{staying, lays, passes_name}
use Rattle.matcher.specs.Pick.{PassesTest, Picks}
use Rattle.matcher.proofs.Places.{selects_iff}
use Rattle.covers.specs.Cover.{TestFor, is_plain, plain, Covers, sent, same as equal, StandsFor}
use Rattle.covers.specs.Test.{is_child, wider, sends_to}
use Rattle.covers.proofs.Deciding.{child_is, sent_iff}

-- ---- plain steps

plain_stays : (k : Kind) → is_plain k ≡ true → stays k ≡ false
plain_stays Child e = refl
plain_stays Descendant e = refl
plain_stays SelfStep e = absurd (false≢true e)
plain_stays DescendantOrSelf e = absurd (false≢true e)

pub plain_first : (s : Step) (ss : List Step) → plain (s ∷ ss) ≡ true → is_plain s.kind ≡ true
plain_first s ss e = and_left (is_plain s.kind) (plain ss) e

pub plain_rest : (s : Step) (ss : List Step) → plain (s ∷ ss) ≡ true → plain ss ≡ true
plain_rest s ss e = and_right (is_plain s.kind) (plain ss) e

-- plain steps do not stay
pub staying-plain : {A : Type 0} (fits : Step → A → Bool) (x : A) (f : List Step → Bool) (ss : List Step) → plain ss ≡ true
    → staying fits x f ss ≡ f ss
staying-plain fits x f [] e = refl
staying-plain fits x f (s ∷ ss) e = rw (plain_stays s.kind (plain_first s ss e))

-- a step that goes far is sent to by one that goes far
far_sent : (k l : Kind) → (not (is_child k) || is_child l) ≡ true → is_plain k ≡ true → far l ≡ true → far k ≡ true
far_sent Child l e p q = absurd (false≢true (sym (ap far (child_is l e)) ∙ q))
far_sent Descendant l e p q = refl
far_sent SelfStep l e p q = absurd (false≢true p)
far_sent DescendantOrSelf l e p q = refl

passes-wider : (n : List ℕ) (s t : Test) → wider s t ≡ true → passes n t ≡ true → passes n s ≡ true
passes-wider n any t e p = refl
passes-wider n (named m) any e p = absurd (false≢true e)
passes-wider n (named m) (named k) e p = subst (λ (u : List ℕ). same u n ≡ true) (sym (same_equal m k e)) p

-- ---- one name

module _ (n : List ℕ) (ns : List (List ℕ)) (s : Step) (ss : List Step) (t : Step) (ts : List Step)
    (pb : plain (s ∷ ss) ≡ true) (pa : plain (t ∷ ts) ≡ true)
    (again : (a b : List Step) → plain b ≡ true → plain a ≡ true → lays sends_to a b ≡ true → lays passes_name ns a ≡ true
    → lays passes_name ns b ≡ true) where
  -- s takes n, and those after it go on
  taken : passes_name s n ≡ true → lays passes_name ns ss ≡ true
      → (passes_name s n && staying passes_name n (lays passes_name ns) ss) || (far s.kind && lays passes_name ns (s ∷ ss)) ≡ true
  taken p l =
      or_left (passes_name s n && staying passes_name n (lays passes_name ns) ss) (far s.kind && lays passes_name ns (s ∷ ss))
      (and_both (passes_name s n) (staying passes_name n (lays passes_name ns) ss) p
      (staying-plain passes_name n (lays passes_name ns) ss (plain_rest s ss pb) ∙ l))

  -- s goes past n
  further : far s.kind ≡ true → lays passes_name ns (s ∷ ss) ≡ true
      → (passes_name s n && staying passes_name n (lays passes_name ns) ss) || (far s.kind && lays passes_name ns (s ∷ ss)) ≡ true
  further f l =
      or_right (passes_name s n && staying passes_name n (lays passes_name ns) ss) (far s.kind && lays passes_name ns (s ∷ ss))
      (and_both (far s.kind) (lays passes_name ns (s ∷ ss)) f l)

  -- t takes n, or goes past it; s is sent to t, or past it
  one_name : (passes_name t n && staying passes_name n (lays passes_name ns) ts ≡ true)
      ⊎ (far t.kind && lays passes_name ns (t ∷ ts) ≡ true)
      → (sends_to s t && staying sends_to t (lays sends_to ts) ss ≡ true) ⊎ (far s.kind && lays sends_to ts (s ∷ ss) ≡ true)
      → lays sends_to (t ∷ ts) (s ∷ ss) ≡ true
      → (passes_name s n && staying passes_name n (lays passes_name ns) ss) || (far s.kind && lays passes_name ns (s ∷ ss)) ≡ true
  one_name (inl p) (inl q) e =
      let to = and_left (sends_to s t) (staying sends_to t (lays sends_to ts) ss) q in
      let w = and_right (not (is_child s.kind) || is_child t.kind) (wider s.test t.test) to in
      taken (passes-wider n s.test t.test w (and_left (passes_name t n) _ p))
      (again ts ss (plain_rest s ss pb) (plain_rest t ts pa)
      (sym (staying-plain sends_to t (lays sends_to ts) ss (plain_rest s ss pb)) ∙ and_right (sends_to s t) _ q)
      (sym (staying-plain passes_name n (lays passes_name ns) ts (plain_rest t ts pa)) ∙ and_right (passes_name t n) _ p))
  one_name (inl p) (inr q) e =
      further (and_left (far s.kind) _ q)
      (again ts (s ∷ ss) pb (plain_rest t ts pa) (and_right (far s.kind) _ q)
      (sym (staying-plain passes_name n (lays passes_name ns) ts (plain_rest t ts pa)) ∙ and_right (passes_name t n) _ p))
  one_name (inr p) (inl q) e =
      let to = and_left (sends_to s t) (staying sends_to t (lays sends_to ts) ss) q in
      let c = and_left (not (is_child s.kind) || is_child t.kind) (wider s.test t.test) to in
      further (far_sent s.kind t.kind c (plain_first s ss pb) (and_left (far t.kind) _ p))
      (again (t ∷ ts) (s ∷ ss) pb pa e (and_right (far t.kind) _ p))
  one_name (inr p) (inr q) e =
      further (and_left (far s.kind) _ q) (again (t ∷ ts) (s ∷ ss) pb pa e (and_right (far t.kind) _ p))

-- ---- all names

sent_lays : (names : List (List ℕ)) (a b : List Step) → plain b ≡ true → plain a ≡ true → lays sends_to a b ≡ true
    → lays passes_name names a ≡ true → lays passes_name names b ≡ true
sent_lays [] [] [] pb pa e l = refl
sent_lays [] [] (s ∷ ss) pb pa e l = absurd (false≢true e)
sent_lays [] (t ∷ ts) b pb pa e l = absurd (false≢true l)
sent_lays (n ∷ ns) [] b pb pa e l = absurd (false≢true l)
sent_lays (n ∷ ns) (t ∷ ts) [] pb pa e l = absurd (false≢true e)
sent_lays (n ∷ ns) (t ∷ ts) (s ∷ ss) pb pa e l =
    and_both (goes s.kind)
    ((passes_name s n && staying passes_name n (lays passes_name ns) ss) || (far s.kind && lays passes_name ns (s ∷ ss)))
    (and_left (goes s.kind) _ e)
    (one_name n ns s ss t ts pb pa (sent_lays ns)
    (or_either (passes_name t n && staying passes_name n (lays passes_name ns) ts) (far t.kind && lays passes_name ns (t ∷ ts))
    (and_right (goes t.kind) _ l))
    (or_either (sends_to s t && staying sends_to t (lays sends_to ts) ss) (far s.kind && lays sends_to ts (s ∷ ss))
    (and_right (goes s.kind) _ e))
    e)

-- whatever a's steps select, b's do
pub covers_selects : (b a : Path) → Covers b a → (names : List (List ℕ)) → Selects a.steps names → Selects b.steps names
covers_selects b a (sent p h t) names l =
    let pb = and_left (plain b.steps) (plain a.steps) p in
    let pa = and_right (plain b.steps) (plain a.steps) p in
    (selects_iff b.steps names).1
    (sent_lays names a.steps b.steps pb pa ((sent_iff b.steps a.steps).0 h) ((selects_iff a.steps names).0 l))
covers_selects b a (equal p h) names l = subst (λ (c : List Step). Selects c names) (sym h.steps) l

-- ---- attribute tests

tests_passed : (x y : Option AttributeTest) (xs : List Attribute) → TestFor x y → PassesTest y xs → PassesTest x xs
tests_passed none y xs t h = tt
tests_passed (some x) y xs t h = subst (λ (z : Option AttributeTest). PassesTest z xs) (sym t) h

covers_passes : (b a : Path) → Covers b a → (xs : List Attribute) → PassesTest a.test xs → PassesTest b.test xs
covers_passes b a (sent p h t) xs l = tests_passed b.test a.test xs t l
covers_passes b a (equal p h) xs l = subst (λ (z : Option AttributeTest). PassesTest z xs) (sym h.test) l

-- whatever a picks, b picks
pub covers_picks : (b a : Path) → Covers b a → (names : List (List ℕ)) (xs : List Attribute) → Picks a names xs → Picks b names xs
covers_picks b a c names xs h = (covers_selects b a c names h.0, covers_passes b a c xs h.1)

-- ---- a path itself

wider_refl : (t : Test) → wider t t ≡ true
wider_refl any = refl
wider_refl (named m) = same_refl m

sends_self : (s : Step) → sends_to s s ≡ true
sends_self s =
    and_both (not (is_child s.kind) || is_child s.kind) (wider s.test s.test) (go (is_child s.kind)) (wider_refl s.test)
  where
    go : (b : Bool) → (not b || b) ≡ true
    go true = refl
    go false = refl

plain_goes : (k : Kind) → is_plain k ≡ true → goes k ≡ true
plain_goes Child e = refl
plain_goes Descendant e = refl
plain_goes SelfStep e = absurd (false≢true e)
plain_goes DescendantOrSelf e = refl

lays_self : (a : List Step) → plain a ≡ true → lays sends_to a a ≡ true
lays_self [] e = refl
lays_self (s ∷ ss) e =
    let r = plain_rest s ss e in
    and_both (goes s.kind)
    ((sends_to s s && staying sends_to s (lays sends_to ss) ss) || (far s.kind && lays sends_to ss (s ∷ ss)))
    (plain_goes s.kind (plain_first s ss e))
    (or_left (sends_to s s && staying sends_to s (lays sends_to ss) ss) (far s.kind && lays sends_to ss (s ∷ ss))
    (and_both (sends_to s s) (staying sends_to s (lays sends_to ss) ss) (sends_self s)
    (staying-plain sends_to s (lays sends_to ss) ss r ∙ lays_self ss r)))

tests_self : (x : Option AttributeTest) → TestFor x x
tests_self none = tt
tests_self (some x) = refl

-- the same path covers, whatever its steps
pub covers_same : (b a : Path) → b.steps ≡ a.steps → b.test ≡ a.test → Covers b a
covers_same b a p q = go (plain b.steps && plain a.steps) refl
  where
    go : (c : Bool) → plain b.steps && plain a.steps ≡ c → Covers b a
    go true e =
        sent e
        ((sent_iff b.steps a.steps).1
        (subst (λ (ss : List Step). lays sends_to ss b.steps ≡ true) p (lays_self b.steps (and_left _ (plain a.steps) e))))
        (subst (λ (x : Option AttributeTest). TestFor b.test x) q (tests_self b.test))
    go false e = equal e (record { steps = p; test = q })

pub stands_self : (p : Path) → StandsFor p p
stands_self p = record { covered = covers_same p p refl refl; marked_too = λ h. h }
