-- The readers of steps give back what was printed. In order: kinds of step; tests; steps, and runs of them. No child step is taken for
-- another: its name does not begin with a slash, and has no two colons side by side.
use mathlib.Core.Path.{◌≡◌, refl, sym, ap, ◌∙◌}
use mathlib.Core.Bool.{Bool, true, false, cond, false≢true}
use mathlib.Core.List.{List, [], ◌∷◌, ◌++◌, append_assoc}
use mathlib.Core.Option.{Option, none, some, none-ne-some, some-injective}
use Prim.Native.Nat.{ℕ, ◌-◌, ◌<◌}
use native.Mathlib.Omega.{arith}
use lib.Dec.{eqb}
use lib.ListN.{length, drop, length-append}
use lib.Seq.{take_at, drop-append_seam}
use Rattle.xml.specs.Notation.{bytes}
use Rattle.xml.specs.Productions.{Name, is_name, is_name_start, is_name_more}
use Rattle.xml.specs.Language.{Language}
use Rattle.xml.specs.Character.{begins, starts}
use Rattle.xml.proofs.Bools.{and_left}
use Rattle.xml.proofs.Character.{begins_split}
use Rattle.xml.proofs.Language.{reads_language, language_reads}
use Rattle.chars.specs.Name.{name_of}
use Rattle.paths.specs.Path.{Test, any, named, Step, print_kind, print_test, print_step, ProperTest, Proper}
use Rattle.paths.specs.Reader.{kind_at, two_colons, before, name_before, test_at, with_kind, with_test, step_at, steps}
use Rattle.paths.specs.declared.Kind.{Kind}
use Rattle.paths.specs.declared.Kind.TheVariants.{Child, Descendant, SelfStep, DescendantOrSelf}
use Rattle.paths.proofs.Print.{Printed, Undoes, Found, run_found, run_none}
use Rattle.chars.proofs.Meaning.{name_found, name_is}
use Rattle.paths.proofs.Names.{name_front, name_ends}
use Rattle.paths.proofs.Colons.{apart_test, test_apart, name_text, no_axis}

-- what may be printed at any time, and what may follow anything
abbrev pub Free : {A : Type 0} → A → Type 0
Free x = Unit {0}

abbrev pub AnyRest : {A : Type 0} → A → List ℕ → Type 0
AnyRest x t = Unit {0}

-- ---- kinds of step

-- behind one slash: no other, and neither of the two texts that end in colons
abbrev AfterKind : Kind → List ℕ → Type 0
AfterKind Child t =
    (begins (bytes "/") t ≡ false) × (begins (bytes "self::") t ≡ false) × (begins (bytes "descendant-or-self::") t ≡ false)
AfterKind Descendant t = Unit {0}
AfterKind SelfStep t = Unit {0}
AfterKind DescendantOrSelf t = Unit {0}

kind_undoes : Undoes print_kind Free AfterKind kind_at
unfolding kind_at
kind_undoes =
    record {
      sound = λ s k e. go s (begins (bytes "//") s) (begins (bytes "/self::") s) (begins (bytes "/descendant-or-self::") s)
          (begins (bytes "/") s) refl refl refl refl k e;
      complete = λ k t u a. back k t a;
    }
  where
    one_slash : (w s : List ℕ) → begins (bytes "/" ++ w) s ≡ false → begins (bytes "/") s ≡ true → begins w (drop 1 s) ≡ false
    one_slash w [] p q = absurd (false≢true q)
    one_slash w (x ∷ s) p q = rw (and_left (eqb x 0x2F) true q) at p

    go : (s : List ℕ) (x y z c : Bool) → begins (bytes "//") s ≡ x → begins (bytes "/self::") s ≡ y
        → begins (bytes "/descendant-or-self::") s ≡ z → begins (bytes "/") s ≡ c → (k : Kind)
        → cond x (some Descendant) (cond y (some SelfStep) (cond z (some DescendantOrSelf) (cond c (some Child) none))) ≡ some k
        → Printed print_kind Free AfterKind s k
    go s true y z c p q r h k e =
        rw (← some-injective _ _ e)
        (record { rest = drop 2 s; prints = begins_split (bytes "//") s p; ok = tt; after = tt })
    go s false true z c p q r h k e =
        rw (← some-injective _ _ e)
        (record { rest = drop 7 s; prints = begins_split (bytes "/self::") s q; ok = tt; after = tt })
    go s false false true c p q r h k e =
        rw (← some-injective _ _ e)
        (record { rest = drop 21 s; prints = begins_split (bytes "/descendant-or-self::") s r; ok = tt; after = tt })
    go s false false false true p q r h k e =
        rw (← some-injective _ _ e)
        (record {
          rest = drop 1 s;
          prints = begins_split (bytes "/") s h;
          ok = tt;
          after =
              (one_slash (bytes "/") s p h, one_slash (bytes "self::") s q h, one_slash (bytes "descendant-or-self::") s r h);
        })
    go s false false false false p q r h k e = absurd (none-ne-some k e)

    back : (k : Kind) (t : List ℕ) → AfterKind k t → kind_at (print_kind k ++ t) ≡ some k
    back Child t (a, b, c) = rw (a, b, c)
    back Descendant t a = refl
    back SelfStep t a = refl
    back DescendantOrSelf t a = refl

-- every kind begins with a slash
pub kind_slash : (k : Kind) → print_kind k ≡ 0x2F ∷ drop 1 (print_kind k)
kind_slash Child = refl
kind_slash Descendant = refl
kind_slash SelfStep = refl
kind_slash DescendantOrSelf = refl

-- ---- `*` or a Name

abbrev pub AfterTest : Test → List ℕ → Type 0
AfterTest any t = Unit {0}
AfterTest (named n) t = starts is_name t ≡ false

no_star : is_name_start 0x2A ≡ false
unfolding is_name_start
no_star = refl

no_slash : is_name_start 0x2F ≡ false
unfolding is_name_start
no_slash = refl

star_ends : (t : List ℕ) → starts is_name (0x2A ∷ t) ≡ false
unfolding is_name is_name_start is_name_more
star_ends t = name_ends 0x2A t (omega arith) refl

-- what stands before t in n ++ t
pub take_before : (s n t : List ℕ) → s ≡ n ++ t → before s t ≡ n
take_before s n t q = rw q (take_at n t (length (n ++ t) - length t) (let z = length-append n t in omega arith))

pub test_undoes : Undoes print_test ProperTest AfterTest test_at
unfolding test_at
test_undoes = record { sound = λ s x e. go s (begins (bytes "*") s) refl x e; complete = back }
  where
    single : (s n t : List ℕ) → s ≡ n ++ t → Language Name n → starts is_name t ≡ false → (b : Bool) → two_colons n ≡ b → (x : Test)
        → cond b none (some (named n)) ≡ some x → Printed print_test ProperTest AfterTest s x
    single s n t q k a true h x e = absurd (none-ne-some x e)
    single s n t q k a false h x e =
        rw (← some-injective _ _ e)
        (record { rest = t; prints = q; ok = record { name = k; apart = test_apart h }; after = a })

    by_name : (s : List ℕ) (o : Option (List ℕ)) → name_of s ≡ o → (x : Test) → name_before s o ≡ some x
        → Printed print_test ProperTest AfterTest s x
    by_name s none h x e = absurd (none-ne-some x e)
    by_name s (some t) h x e =
        let (r, a) = name_found s t h in
        let (n, q, k) = reads_language Name s t r in
        single s n t q k a (two_colons n) refl x (rw (take_before s n t q) at e)

    go : (s : List ℕ) (b : Bool) → begins (bytes "*") s ≡ b → (x : Test) → cond b (some any) (name_before s (name_of s)) ≡ some x
        → Printed print_test ProperTest AfterTest s x
    go s true h x e =
        rw (← some-injective _ _ e)
        (record { rest = drop 1 s; prints = begins_split (bytes "*") s h; ok = tt; after = tt })
    go s false h x e = by_name s (name_of s) refl x e

    back : (x : Test) (t : List ℕ) → ProperTest x → AfterTest x t → test_at (print_test x ++ t) ≡ some x
    back any t ok a = refl
    back (named n) t ok a =
        rw (
          name_front 0x2A (omega arith) no_star n t ok.name,
          name_is (n ++ t) t (language_reads Name n t ok.name) a,
          take_before (n ++ t) n t refl,
          apart_test ok.apart,
        )

-- ---- a step

abbrev pub AfterStep : Step → List ℕ → Type 0
AfterStep x = AfterTest x.test

slash_test : (x : Test) (t : List ℕ) → ProperTest x → begins (bytes "/") (print_test x ++ t) ≡ false
slash_test any t ok = refl
slash_test (named n) t ok = name_front 0x2F (omega arith) no_slash n t ok.name

-- no test begins with a text that ends in two colons; `*` is no name, and stands behind the empty one
axis_test : (w : List ℕ) → name_text (w ++ bytes "::") ≡ true → (x : Test) (t : List ℕ) → ProperTest x → AfterTest x t
    → begins (w ++ bytes "::") (print_test x ++ t) ≡ false
axis_test w k any t ok a = no_axis w [] (0x2A ∷ t) k (test_apart refl) (star_ends t)
axis_test w k (named n) t ok a = no_axis w n t k ok.apart a

axes_named : (name_text (bytes "self::") ≡ true) × (name_text (bytes "descendant-or-self::") ≡ true)
unfolding is_name is_name_start is_name_more
axes_named = (refl, refl)

pub step_undoes : Undoes print_step Proper AfterStep step_at
unfolding step_at print_step
step_undoes =
    record {
      sound = λ s x e. by_kind s (kind_at s) refl x e;
      complete = λ x t ok a. back x.kind x.test t ok.test a;
    }
  where
    by_test : (s : List ℕ) (k : Kind) (t : List ℕ) → s ≡ print_kind k ++ t → (o : Option Test) → test_at t ≡ o → (x : Step)
        → with_kind k o ≡ some x → Printed print_step Proper AfterStep s x
    by_test s k t q none h x e = absurd (none-ne-some x e)
    by_test s k t q (some y) h x e =
        let p = test_undoes.sound t y h in
        rw (← some-injective _ _ e)
        (record {
          rest = p.rest;
          prints = q ∙ ap (λ (v : List ℕ). print_kind k ++ v) p.prints ∙ sym (append_assoc (print_kind k) (print_test y) p.rest);
          ok = record { test = p.ok };
          after = p.after;
        })

    by_kind : (s : List ℕ) (o : Option Kind) → kind_at s ≡ o → (x : Step) → with_test s o ≡ some x → Printed print_step Proper AfterStep s x
    by_kind s none h x e = absurd (none-ne-some x e)
    by_kind s (some k) h x e =
        let p = kind_undoes.sound s k h in
        let z = ap (drop (length (print_kind k))) p.prints ∙ drop-append_seam (print_kind k) p.rest in
        by_test s k p.rest p.prints (test_at p.rest) refl x (rw z at e)

    after_kind : (k : Kind) (x : Test) (t : List ℕ) → ProperTest x → AfterTest x t → AfterKind k (print_test x ++ t)
    after_kind Child x t ok a = (
      slash_test x t ok,
      axis_test (bytes "self") axes_named.0 x t ok a,
      axis_test (bytes "descendant-or-self") axes_named.1 x t ok a,
    )
    after_kind Descendant x t ok a = tt
    after_kind SelfStep x t ok a = tt
    after_kind DescendantOrSelf x t ok a = tt

    back : (k : Kind) (x : Test) (t : List ℕ) → ProperTest x → AfterTest x t
        → step_at ((print_kind k ++ print_test x) ++ t) ≡ some (record { kind = k; test = x })
    back k x t ok a =
        rw (
          append_assoc (print_kind k) (print_test x) t,
          kind_undoes.complete k (print_test x ++ t) tt (after_kind k x t ok a),
          drop-append_seam (print_kind k) (print_test x ++ t),
          test_undoes.complete x t ok a,
        )

-- ---- how long a step is, and runs of steps

kind_long : (k : Kind) → 0 < length (print_kind k)
kind_long k = rw (kind_slash k) (omega arith)

pub step_long : (x : Step) → 0 < length (print_step x)
unfolding print_step
step_long x = rw length-append (let z = kind_long x.kind in omega arith)

pub steps_found : (s : List ℕ) → Found print_step Proper step_at s (steps s)
unfolding steps
steps_found s = run_found step_undoes step_long 0 s

pub steps_none : (s : List ℕ) → step_at s ≡ none → steps s ≡ record { all = []; rest = s }
unfolding steps
steps_none s e = run_none print_step step_at s e
