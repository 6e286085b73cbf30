-- What the functions find at places is what the definitions say.
-- In order: a text that ends inside; a name; a test, whose name is looked through for two colons; a step.
use mathlib.Core.Path.{◌≡◌, refl, sym, ap, ◌∙◌}
use mathlib.Core.Bool.{Bool, true, false, not}
use mathlib.Core.List.{List, ◌++◌}
use mathlib.Core.Option.{Option as Maybe, none, some}
use Prim.Native.Nat.{ℕ, ◌+◌, ◌-◌, ◌≤◌, ◌<◌}
use native.Mathlib.Omega.{arith}
use borrow.Author.Tests.{not-false}
use lib.ListN.{length, take, drop, length-append, length-drop}
use lib.Seq.{drop-drop, drop-append_seam, length-take-le}
use Rattle.std.specs.Prelude.{Option, None, Some}
use Rattle.xml.specs.Notation.{bytes}
use Rattle.xml.specs.Character.{begins}
use Rattle.xml.specs.Productions.{Name}
use Rattle.xml.proofs.Character.{begins_split}
use Rattle.xml.proofs.Language.{reads_suffix}
use Rattle.utf8.specs.Place.{ends_at}
use Rattle.chars.specs.Name.{name_of, name_at, reading_at}
use Rattle.chars.proofs.Meaning.{name_found, name_says}
use Rattle.paths.specs.Path.{Test, test_size, print_kind, print_test, print_step}
use Rattle.paths.specs.Reader.{kind_at, two_colons, name_before, test_at, with_kind, step_at}
use Rattle.paths.specs.Place.{test_placed, test_end_at, step_placed, step_end_at}
use Rattle.paths.specs.declared.Kind.{Kind}
use Rattle.paths.specs.declared.Kind.TheVariants.{Child, Descendant, SelfStep, DescendantOrSelf}
use Rattle.paths.specs.declared.Step.{Step as PlacedStep}

-- a text that stands at a place ends inside
pub room : (d : List ℕ) (at : ℕ) (w : List ℕ) {x : Bool} → x ≡ begins w (drop at d) → x ≡ true → 0 < length w → at + length w ≤ length d
room d at w q y n =
    let e : begins w (drop at d) ≡ true = sym q ∙ y in
    omega (arith, length-drop at d, ap length (begins_split w (drop at d) e) ∙ length-append w (drop (length w) (drop at d)))

-- the same where the test was whether it does not stand there
pub room_else : (d : List ℕ) (at : ℕ) (w : List ℕ) {x : Bool} → x ≡ begins w (drop at d) → not x ≡ false → 0 < length w
    → at + length w ≤ length d
room_else d at w {x} q n l = room d at w q (not-false x n) l

-- ---- a name

-- from at to e stands a name, and what follows it is left
pub record NameHere (d : List ℕ) (at e : ℕ) : Type 0 where
  pub left : List ℕ
  pub found : name_of (drop at d) ≡ some left
  pub size : length (drop at d) - length left ≡ e - at
  pub rest : left ≡ drop e d
  pub on : at ≤ e

module _ (d : List ℕ) (at : ℕ) {r : Option ℕ} {e : ℕ} (f : r ≡ name_at d at) (g : r ≡ Some e) where
  pub name_here : NameHere d at e
  unfolding name_at ends_at
  name_here = go (name_of (drop at d)) refl (sym g ∙ f)
    where
      go : (o : Maybe (List ℕ)) → name_of (drop at d) ≡ o → Some e ≡ reading_at d at o → NameHere d at e
      go none h z = absurd (let z : ◌≡◌ {A = ℕ} 0 1 = cc in omega arith)
      go (some t) h z =
          let w : e ≡ at + (length (drop at d) - length t) = cc in
          let (n, q) = reads_suffix Name (drop at d) t (name_found (drop at d) t h).0 in
          let l : at + length n ≡ e = omega (arith, ap length q ∙ length-append n t) in
          let r : drop e d ≡ t =
          ap (λ (k : ℕ). drop k d) (sym l) ∙ sym (drop-drop (length n) at d) ∙ ap (drop (length n)) q ∙ drop-append_seam n t in
          record { left = t; found = h; size = omega arith; rest = sym r; on = omega arith }

  pub name_on : at ≤ e
  name_on = name_here.on

  pub name_inside : e ≤ length d
  name_inside = (rw (sym f ∙ g) at (name_says d at)).1

-- ---- a test

-- the step with this kind, these places and this length
abbrev step_to : Kind → ℕ → ℕ → ℕ → Option PlacedStep
step_to k name len end = Some (record { kind = k; name = name; len = len; end = end })

module _ (d : List ℕ) (at : ℕ) {x : Bool} (q : x ≡ begins (bytes "*") (drop at d)) (k : Kind) where
  pub test_star : x ≡ true → step_to k at 0 (at + 1) ≡ test_end_at k d at
  unfolding test_end_at test_at
  test_star y = sym (rw (sym q ∙ y))

  module _ (n : x ≡ false) {r : Option ℕ} (f : r ≡ name_at d at) where
    pub test_fault : r ≡ None → None ≡ test_end_at k d at
    unfolding test_end_at test_at name_at
    test_fault e = rw (sym q ∙ n) (go (name_of (drop at d)) (sym e ∙ f))
      where
        go : (o : Maybe (List ℕ)) → None ≡ reading_at d at o → None ≡ test_placed k at (name_before (drop at d) o)
        go none z = refl
        go (some t) z = absurd (let z : ◌≡◌ {A = ℕ} 0 1 = cc in omega arith)

    module _ {e : ℕ} (g : r ≡ Some e) {y : Bool} (h : y ≡ two_colons (take (e - at) (drop at d))) where
      pub test_refused : y ≡ true → None ≡ test_end_at k d at
      unfolding test_end_at test_at
      test_refused t = let v = name_here d at f g in rw (sym q ∙ n, v.found, v.size, sym h ∙ t)

      pub test_name : y ≡ false → step_to k at (e - at) e ≡ test_end_at k d at
      unfolding test_end_at test_at
      test_name t =
          let v = name_here d at f g in
          let o = v.on in
          let i = name_inside d at f g in
          let l : length (take (e - at) (drop at d)) ≡ e - at =
          length-take-le (e - at) (drop at d) (omega (arith, length-drop at d)) in
          let w : e ≡ at + (e - at) = omega arith in
          rw (sym q ∙ n, v.found, v.size, sym h ∙ t, l) (ap (step_to k at (e - at)) w)

pub ruleset testing = (test_star, test_fault, test_refused, test_name, name_on, name_inside)

-- ---- a step

step_kind : (d : List ℕ) (at : ℕ) (k : Kind) → kind_at (drop at d) ≡ some k
    → test_end_at k d (at + length (print_kind k)) ≡ step_end_at d at
unfolding step_end_at step_at test_end_at print_step
step_kind d at k e = rw (e, drop-drop (length (print_kind k)) at d) (go (test_at (drop (at + length (print_kind k)) d)))
  where
    go : (o : Maybe Test) → test_placed k (at + length (print_kind k)) o ≡ step_placed at (with_kind k o)
    go none = refl
    go (some x) =
        let n = length (print_kind k) in
        let z : at + n + length (print_test x) ≡ at + length (print_kind k ++ print_test x) =
        omega (arith, length-append (print_kind k) (print_test x)) in
        ap (step_to k (at + n) (test_size x)) z

module _ (d : List ℕ) (at : ℕ) {x : Bool} (q : x ≡ begins (bytes "//") (drop at d)) where
  pub step_descends : x ≡ true → {r : Option PlacedStep} → r ≡ test_end_at Descendant d (at + 2) → r ≡ step_end_at d at
  unfolding kind_at
  step_descends t p = p ∙ step_kind d at Descendant (rw (sym q ∙ t))

  module _ (n : x ≡ false) {y : Bool} (f : y ≡ begins (bytes "/self::") (drop at d)) where
    pub step_stays : y ≡ true → {r : Option PlacedStep} → r ≡ test_end_at SelfStep d (at + 7) → r ≡ step_end_at d at
    unfolding kind_at
    step_stays t p = p ∙ step_kind d at SelfStep (rw (sym q ∙ n, sym f ∙ t))

    module _ (m : y ≡ false) {z : Bool} (g : z ≡ begins (bytes "/descendant-or-self::") (drop at d)) where
      pub step_anywhere : z ≡ true → {r : Option PlacedStep} → r ≡ test_end_at DescendantOrSelf d (at + 21) → r ≡ step_end_at d at
      unfolding kind_at
      step_anywhere t p = p ∙ step_kind d at DescendantOrSelf (rw (sym q ∙ n, sym f ∙ m, sym g ∙ t))

      module _ (l : z ≡ false) {c : Bool} (h : c ≡ begins (bytes "/") (drop at d)) where
        pub step_child : c ≡ true → {r : Option PlacedStep} → r ≡ test_end_at Child d (at + 1) → r ≡ step_end_at d at
        unfolding kind_at
        step_child t p = p ∙ step_kind d at Child (rw (sym q ∙ n, sym f ∙ m, sym g ∙ l, sym h ∙ t))

        pub step_fault : c ≡ false → None ≡ step_end_at d at
        unfolding step_end_at step_at kind_at
        step_fault t = sym (rw (sym q ∙ n, sym f ∙ m, sym g ∙ l, sym h ∙ t))

pub ruleset stepping = (step_descends, step_stays, step_anywhere, step_child, step_fault)
