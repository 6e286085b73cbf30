-- What the functions find at a line's end is what the definitions say.
-- In order: the mark and LF; the whole end, with its test or without.
use mathlib.Core.Path.{◌≡◌, refl, sym, ap, ◌∙◌}
use mathlib.Core.Bool.{Bool, true, false}
use mathlib.Core.List.{List, ◌++◌}
use mathlib.Core.Option.{Option as Maybe, none, some}
use Prim.Native.Nat.{ℕ, ◌+◌}
use native.Mathlib.Omega.{arith}
use lib.ListN.{length, drop, length-append}
use lib.Seq.{drop-drop}
use Rattle.std.specs.Prelude.{Option, None, Some}
use Rattle.xml.specs.Notation.{bytes}
use Rattle.xml.specs.Character.{begins}
use Rattle.paths.specs.Path.{AttributeTest, print_attribute, print_mark}
use Rattle.paths.specs.Reader.{attribute_at, mark_at, with_mark, behind, end_at}
use Rattle.paths.specs.Place.{value_from, attribute_placed, attribute_end_at, end_placed, line_end_at, mark_placed, mark_end_at}
use Rattle.paths.specs.declared.Test.{Test as PlacedTest}
use Rattle.paths.specs.declared.LineEnd.{LineEnd}

-- ---- the mark

-- a line's end with these places and lengths and this mark, and the next line's place
abbrev end_of : ℕ → ℕ → ℕ → ℕ → Bool → ℕ → Option LineEnd
end_of name len value size m next =
    Some (record { name = name; len = len; value = value; size = size; marked = m; next = next })

module _ (name len value size : ℕ) (d : List ℕ) (at : ℕ) {x : Bool} (q : x ≡ begins (bytes " #\n") (drop at d)) where
  pub mark_there : x ≡ true → end_of name len value size true (at + 3) ≡ mark_end_at name len value size d at
  unfolding mark_end_at mark_at
  mark_there y = sym (rw (sym q ∙ y))

  module _ (n : x ≡ false) {z : Bool} (f : z ≡ begins (bytes "\n") (drop at d)) where
    pub mark_not : z ≡ true → end_of name len value size false (at + 1) ≡ mark_end_at name len value size d at
    unfolding mark_end_at mark_at
    mark_not y = sym (rw (sym q ∙ n, sym f ∙ y))

    pub mark_fault : z ≡ false → None ≡ mark_end_at name len value size d at
    unfolding mark_end_at mark_at
    mark_fault m = sym (rw (sym q ∙ n, sym f ∙ m))

pub ruleset marking = (mark_there, mark_not, mark_fault)

-- ---- the whole end

ends_behind : (at end : ℕ) (t u : List ℕ) → end ≡ at + length t → end + length u ≡ at + length (t ++ u)
ends_behind at end t u e = omega (arith, length-append t u)

module _ (d : List ℕ) (at : ℕ) {r : Option PlacedTest} (q : r ≡ attribute_end_at d at) where
  pub end_tested : {y : PlacedTest} → r ≡ Some y → {k : Option LineEnd} → k ≡ mark_end_at y.name y.len y.value y.size d y.end
      → k ≡ line_end_at d at
  unfolding attribute_end_at line_end_at mark_end_at end_at
  end_tested {y} f {k} h = h ∙ go (attribute_at (drop at d)) (sym f ∙ q)
    where
      marked : (x : AttributeTest) (o : Maybe Bool) → y.end ≡ at + length (print_attribute (some x))
          → mark_placed (at + 2) (length x.name) (value_from at x) (length x.value) y.end o
          ≡ end_placed at (with_mark (some x) o)
      marked x none e = refl
      marked x (some m) e =
          ap (end_of (at + 2) (length x.name) (value_from at x) (length x.value) m)
          (ends_behind at y.end (print_attribute (some x)) (print_mark m ++ bytes "\n") e)

      go : (o : Maybe AttributeTest) → Some y ≡ attribute_placed at o
          → mark_placed y.name y.len y.value y.size y.end (mark_at (drop y.end d)) ≡ end_placed at (behind (drop at d) o)
      go none z = absurd (let z : ◌≡◌ {A = ℕ} 0 1 = cc in omega arith)
      go (some x) z =
          let a : y.name ≡ at + 2 = cc in
          let b : y.len ≡ length x.name = cc in
          let c : y.value ≡ value_from at x = cc in
          let e : y.size ≡ length x.value = cc in
          let s : y.end ≡ at + length (print_attribute (some x)) = cc in
          let w : drop (length (print_attribute (some x))) (drop at d) ≡ drop y.end d =
          drop-drop (length (print_attribute (some x))) at d ∙ ap (λ (n : ℕ). drop n d) (sym s) in
          rw (a, b, c, e, w) (marked x (mark_at (drop y.end d)) s)

  pub end_untested : r ≡ None → {k : Option LineEnd} → k ≡ mark_end_at 0 0 0 0 d at → k ≡ line_end_at d at
  unfolding attribute_end_at line_end_at mark_end_at end_at
  end_untested f {k} h = h ∙ go (attribute_at (drop at d)) (sym f ∙ q)
    where
      marked : (o : Maybe Bool) → mark_placed 0 0 0 0 at o ≡ end_placed at (with_mark none o)
      marked none = refl
      marked (some m) = refl

      go : (o : Maybe AttributeTest) → None ≡ attribute_placed at o
          → mark_placed 0 0 0 0 at (mark_at (drop at d)) ≡ end_placed at (behind (drop at d) o)
      go none z = marked (mark_at (drop at d))
      go (some x) z = absurd (let z : ◌≡◌ {A = ℕ} 0 1 = cc in omega arith)

pub ruleset ending = (end_tested, end_untested)
