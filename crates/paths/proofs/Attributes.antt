-- The test of a line. In order: its reader gives back what was printed; the characters of a value; the walk over a value, up to the first
-- character that can't stand in one; the places of a test.
use mathlib.Core.Path.{◌≡◌, refl, sym, ap, ◌∙◌}
use mathlib.Core.Bool.{Bool, true, false, cond, not, ◌&&◌, ◌||◌, and-true, and-false, false≢true}
use mathlib.Core.List.{List, ◌++◌, append_assoc}
use mathlib.Core.Option.{Option as Maybe, none, some, none-ne-some, some-injective}
use Prim.Native.Nat.{ℕ, ◌+◌, ◌-◌, ◌≤◌, ◌<◌}
use native.Mathlib.Omega.{arith}
use borrow.Author.Tests.{lt-leb, le-leb, not-true, not-false}
use lib.Dec.{eqb}
use lib.ListN.{length, take, drop, length-append, length-drop}
use lib.Seq.{drop-drop, length-take-le}
use Rattle.std.specs.Prelude.{Option, None, Some}
use Rattle.xml.specs.Notation.{bytes, char, ◌∗}
use Rattle.xml.specs.Character.{begins, starts, run}
use Rattle.xml.specs.Productions.{Name, is_char, is_name, is_name_start, is_name_more, except}
use Rattle.xml.specs.Language.{Language}
use Rattle.xml.proofs.Character.{begins_split}
use Rattle.xml.proofs.Language.{reads_language, language_reads}
use Rattle.xml.proofs.Run.{starts_low, run_reads, run_only, run_drop}
use Rattle.utf8.specs.Place.{ends_at}
use Rattle.utf8.specs.Sequence.{sequence_at}
use Rattle.chars.specs.Name.{name_of, name_at, reading_at}
use Rattle.chars.proofs.Meaning.{name_found, name_is}
use Rattle.chars.proofs.Runs.{point_starts, bad_starts, point_wide, Running, run_start, run_ends, run_over, run_less, run_on}
use Rattle.paths.specs.Path.{AttributeTest, print_attribute, is_value, ProperAttribute}
use Rattle.paths.specs.Reader.{before, with_value, with_name, attribute_at}
use Rattle.paths.specs.Place.{value_end, attribute_placed, attribute_end_at}
use Rattle.paths.specs.declared.Test.{Test as PlacedTest}
use Rattle.paths.proofs.Print.{Printed, Undoes}
use Rattle.paths.proofs.Names.{name_ends}
use Rattle.paths.proofs.Steps.{AnyRest, take_before}
use Rattle.paths.proofs.Places.{NameHere, name_here, name_on, name_inside}

-- ---- the reader

abbrev pub print_tested : AttributeTest → List ℕ
print_tested x = print_attribute (some x)

pub test_print : (x : AttributeTest) (t : List ℕ)
    → print_tested x ++ t ≡ bytes "[@" ++ (x.name ++ (bytes "=\"" ++ (x.value ++ (bytes "\"]" ++ t))))
test_print x t = simp append_assoc

-- `=` ends a name, and `"` ends a value
equals_ends : (t : List ℕ) → starts is_name (bytes "=\"" ++ t) ≡ false
unfolding is_name is_name_start is_name_more
equals_ends t = name_ends 0x3D _ (omega arith) refl

quote_out : is_value 0x22 ≡ false
unfolding is_value except is_char
quote_out = refl

quote_ends : (t : List ℕ) → starts is_value (bytes "\"]" ++ t) ≡ false
quote_ends t = starts_low is_value 0x22 _ (omega arith) ∙ quote_out

pub attribute_undoes : Undoes print_tested ProperAttribute AnyRest attribute_at
unfolding attribute_at
attribute_undoes = record { sound = λ s x e. opened s (begins (bytes "[@") s) refl x e; complete = λ x t ok u. back x t ok }
  where
    closed : (s n u : List ℕ) → s ≡ bytes "[@" ++ (n ++ (bytes "=\"" ++ u)) → Language Name n → (b : Bool)
        → begins (bytes "\"]") (run is_value 0 u) ≡ b → (x : AttributeTest)
        → cond b (some (record { name = n; value = before u (run is_value 0 u) })) none ≡ some x
        → Printed print_tested ProperAttribute AnyRest s x
    closed s n u q k false h x e = absurd (none-ne-some x e)
    closed s n u q k true h x e =
        let t = run is_value 0 u in
        let (v, p, l) = reads_language (char is_value ∗) u t (run_reads is_value u) in
        let w : u ≡ v ++ (bytes "\"]" ++ drop 2 t) = p ∙ ap (λ (y : List ℕ). v ++ y) (begins_split (bytes "\"]") t h) in
        rw (← some-injective _ _ e, take_before u v t p)
        (record {
          rest = drop 2 t;
          prints =
              q
              ∙ ap (λ (y : List ℕ). bytes "[@" ++ (n ++ (bytes "=\"" ++ y))) w
              ∙ sym (test_print (record { name = n; value = v }) (drop 2 t));
          ok = record { name = k; value = l };
          after = tt;
        })

    equated : (s n t : List ℕ) → s ≡ bytes "[@" ++ (n ++ t) → Language Name n → (b : Bool) → begins (bytes "=\"") t ≡ b
        → (x : AttributeTest) → cond b (with_value n (drop 2 t) (run is_value 0 (drop 2 t))) none ≡ some x
        → Printed print_tested ProperAttribute AnyRest s x
    equated s n t q k false h x e = absurd (none-ne-some x e)
    equated s n t q k true h x e =
        let w = ap (λ (y : List ℕ). bytes "[@" ++ (n ++ y)) (begins_split (bytes "=\"") t h) in
        closed s n (drop 2 t) (q ∙ w) k (begins (bytes "\"]") (run is_value 0 (drop 2 t))) refl x e

    by_name : (s u : List ℕ) → s ≡ bytes "[@" ++ u → (o : Maybe (List ℕ)) → name_of u ≡ o → (x : AttributeTest) → with_name u o ≡ some x
        → Printed print_tested ProperAttribute AnyRest s x
    by_name s u q none h x e = absurd (none-ne-some x e)
    by_name s u q (some t) h x e =
        let (n, p, k) = reads_language Name u t (name_found u t h).0 in
        equated s n t (q ∙ ap (λ (y : List ℕ). bytes "[@" ++ y) p) k (begins (bytes "=\"") t) refl x (rw (take_before u n t p) at e)

    opened : (s : List ℕ) (b : Bool) → begins (bytes "[@") s ≡ b → (x : AttributeTest)
        → cond b (with_name (drop 2 s) (name_of (drop 2 s))) none ≡ some x → Printed print_tested ProperAttribute AnyRest s x
    opened s false h x e = absurd (none-ne-some x e)
    opened s true h x e = by_name s (drop 2 s) (begins_split (bytes "[@") s h) (name_of (drop 2 s)) refl x e

    back : (x : AttributeTest) (t : List ℕ) → ProperAttribute x → attribute_at (print_tested x ++ t) ≡ some x
    back x t ok =
        let u = x.value ++ (bytes "\"]" ++ t) in
        let m = bytes "=\"" ++ u in
        ap attribute_at (test_print x t)
        ∙ rw (
          name_is (x.name ++ m) m (language_reads Name x.name m ok.name) (equals_ends u),
          take_before (x.name ++ m) x.name m refl,
          run_only is_value (language_reads (char is_value ∗) x.value (bytes "\"]" ++ t) ok.value) (quote_ends t),
          take_before u x.value (bytes "\"]" ++ t) refl,
        )

-- ---- the characters of a value

module _ (c : ℕ) where
  pub value_low : c < 0x20 → false ≡ is_value c
  unfolding is_value
  value_low l = sym (rw (lt-leb 0x20 c l))

  module _ (h : 0x20 ≤ c) where
    pub value_mark : ((eqb c 0x22 || eqb c 0x3C) || eqb c 0x26) ≡ true → false ≡ is_value c
    unfolding is_value except
    value_mark y = sym (rw (le-leb 0x20 c h) (go (is_char c) (eqb c 0x22) (eqb c 0x3C) (eqb c 0x26) y))
      where
        go : (k x y z : Bool) → ((x || y) || z) ≡ true → k && not (x || (y || (z || false))) ≡ false
        go k true y z e = and-false k
        go k false true z e = and-false k
        go k false false true e = and-false k
        go k false false false e = absurd (false≢true e)

    pub value_char : ((eqb c 0x22 || eqb c 0x3C) || eqb c 0x26) ≡ false → {k : Bool} → k ≡ is_char c → k ≡ is_value c
    unfolding is_value except
    value_char n q = q ∙ sym (rw (le-leb 0x20 c h) (go (is_char c) (eqb c 0x22) (eqb c 0x3C) (eqb c 0x26) n))
      where
        go : (k x y z : Bool) → ((x || y) || z) ≡ false → k && not (x || (y || (z || false))) ≡ k
        go k false false false e = and-true k
        go k true y z e = absurd (false≢true (sym e))
        go k false true z e = absurd (false≢true (sym e))
        go k false false true e = absurd (false≢true (sym e))

pub ruleset classing = (value_low, value_mark, value_char)

-- ---- the walk over a value

module _ {d : List ℕ} {at i : ℕ} (v : Running is_value d at i) where
  pub value_over : length d ≤ i → i ≡ value_end d at
  unfolding value_end
  value_over h = run_over v h

  module _ (h : i < length d) {r : Option (ℕ × ℕ)} (q : r ≡ sequence_at d i) where
    pub value_bad : r ≡ None → i ≡ value_end d at
    unfolding value_end
    value_bad b = run_ends v (bad_starts d i q is_value b) (omega arith)

    module _ {c e : ℕ} (f : r ≡ Some (c, e)) {x : Bool} (g : x ≡ is_value c) where
      pub value_stops : not x ≡ true → i ≡ value_end d at
      unfolding value_end
      value_stops n = run_ends v (point_starts d i q is_value f ∙ sym g ∙ not-true x n) (omega arith)

      value_goes : not x ≡ false → starts is_value (drop i d) ≡ true
      value_goes n = point_starts d i q is_value f ∙ sym g ∙ not-false x n

      pub value_less : not x ≡ false → length d - e < length d - i
      value_less n = run_less v (value_goes n) (point_wide d i q f) h

      pub value_on : not x ≡ false → Running is_value d at e
      value_on n = run_on v (value_goes n) (point_wide d i q f) h

pub ruleset valuing = (run_start, value_over, value_bad, value_stops, value_less, value_on)

-- ---- places

-- from at to e stands a value, and what follows it is left
module _ (d : List ℕ) (at : ℕ) {e : ℕ} (q : e ≡ value_end d at) where
  value_size : length (drop at d) - length (run is_value 0 (drop at d)) ≡ e - at
  unfolding value_end ends_at
  value_size = omega arith

  pub value_after : at ≤ e
  unfolding value_end ends_at
  value_after = omega arith

  value_left : run is_value 0 (drop at d) ≡ drop e d
  value_left =
      let n = length (drop at d) - length (run is_value 0 (drop at d)) in
      let s = value_size in
      let l = value_after in
      let z : at + n ≡ e = omega arith in
      sym (run_drop is_value (drop at d)) ∙ drop-drop n at d ∙ ap (λ (k : ℕ). drop k d) z

-- the test with these places and lengths
abbrev test_to : ℕ → ℕ → ℕ → ℕ → ℕ → Option PlacedTest
test_to name len value size end = Some (record { name = name; len = len; value = value; size = size; end = end })

-- a name from at + 2 to e and a value from e + 2 to stop are those of the test x
placed : (at e stop : ℕ) (x : AttributeTest) → at + 2 ≤ e → length x.name ≡ e - (at + 2) → e + 2 ≤ stop
    → length x.value ≡ stop - (e + 2)
    → test_to (at + 2) (e - (at + 2)) (e + 2) (stop - (e + 2)) (stop + 2) ≡ attribute_placed at (some x)
placed at e stop x k n l m =
    let a : e + 2 ≡ at + 2 + length x.name + 2 = omega arith in
    let z : length (print_tested x) ≡ length x.name + length x.value + 6 = simp length-append (omega arith) in
    let b : stop + 2 ≡ at + length (print_tested x) = omega arith in
    rw (← n, ← m, a, b)

module _ (d : List ℕ) (at : ℕ) {x : Bool} (q : x ≡ begins (bytes "[@") (drop at d)) where
  pub test_unopened : not x ≡ true → None ≡ attribute_end_at d at
  unfolding attribute_end_at attribute_at
  test_unopened t = sym (rw (sym q ∙ not-true x t))

  module _ (t : not x ≡ false) {r : Option ℕ} (f : r ≡ name_at d (at + 2)) where
    at_name : attribute_at (drop at d) ≡ with_name (drop (at + 2) d) (name_of (drop (at + 2) d))
    unfolding attribute_at
    at_name = rw (sym q ∙ not-false x t, drop-drop 2 at d)

    pub test_nameless : r ≡ None → None ≡ attribute_end_at d at
    unfolding attribute_end_at name_at
    test_nameless e = rw at_name (go (name_of (drop (at + 2) d)) (sym e ∙ f))
      where
        go : (o : Maybe (List ℕ)) → None ≡ reading_at d (at + 2) o → None ≡ attribute_placed at (with_name (drop (at + 2) d) o)
        go none z = refl
        go (some t) z = absurd (let z : ◌≡◌ {A = ℕ} 0 1 = cc in omega arith)

    module _ {e : ℕ} (g : r ≡ Some e) {y : Bool} (h : y ≡ begins (bytes "=\"") (drop e d)) where
      pub test_unequal : not y ≡ true → None ≡ attribute_end_at d at
      unfolding attribute_end_at
      test_unequal u =
          let v = name_here d (at + 2) f g in
          sym (rw (at_name, v.found, v.rest, sym h ∙ not-true y u))

      module _ (u : not y ≡ false) {stop : ℕ} (k : stop ≡ value_end d (e + 2)) {z : Bool} (l : z ≡ begins (bytes "\"]") (drop stop d)) where
        at_value : attribute_at (drop at d) ≡ with_value (take (e - (at + 2)) (drop (at + 2) d)) (drop (e + 2) d) (drop stop d)
        at_value =
            let v = name_here d (at + 2) f g in
            at_name
            ∙ rw (v.found, v.size, v.rest, sym h ∙ not-false y u, drop-drop 2 e d, value_left d (e + 2) k)

        pub test_unclosed : not z ≡ true → None ≡ attribute_end_at d at
        unfolding attribute_end_at
        test_unclosed w = sym (rw (at_value, sym l ∙ not-true z w))

        pub test_found : not z ≡ false
            → test_to (at + 2) (e - (at + 2)) (e + 2) (stop - (e + 2)) (stop + 2) ≡ attribute_end_at d at
        unfolding attribute_end_at
        test_found w =
            let u = drop (at + 2) d in
            let v = drop (e + 2) d in
            let n = name_on d (at + 2) f g in
            let i = name_inside d (at + 2) f g in
            let b : length (take (e - (at + 2)) u) ≡ e - (at + 2) =
            length-take-le (e - (at + 2)) u (omega (arith, length-drop (at + 2) d)) in
            let c : length (before v (drop stop d)) ≡ stop - (e + 2) =
            length-take-le _ v (omega arith)
            ∙ ap (λ (t : List ℕ). length v - length t) (sym (value_left d (e + 2) k))
            ∙ value_size d (e + 2) k in
            placed at e stop (record { name = take (e - (at + 2)) u; value = before v (drop stop d) }) n b (value_after d (e + 2) k) c
            ∙ sym (rw (at_value, sym l ∙ not-false z w))

pub ruleset tested = (test_unopened, test_nameless, test_unequal, test_unclosed, test_found, name_on, name_inside, value_after)
