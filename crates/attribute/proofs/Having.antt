-- The attributes of a tag held against a name and a value. In order: a name between two places; one attribute, each way through it; the
-- loop. Its invariant: what is asked is among what is left exactly where it is among all.
use mathlib.Core.Path.{◌≡◌, refl, sym, ap, ◌∙◌}
use mathlib.Core.Bool.{Bool, true, false, not, ◌&&◌, ◌||◌}
use mathlib.Core.List.{List}
use mathlib.Core.Option.{none, some}
use Prim.Native.Nat.{ℕ, ◌-◌, ◌≤◌, ◌<◌}
use native.Mathlib.Omega.{arith}
use borrow.Author.Rules.{rules}
use borrow.Author.Tests.{not-true, not-false}
use lib.ListN.{length, drop, length-drop}
use Rattle.xml.specs.Character.{begins}
use Rattle.xml.specs.Productions.{same}
use Rattle.xml.proofs.Same.{same_other, begins-same}
use Rattle.chars.specs.Name.{name_at, reading_at}
use Rattle.std.specs.Prelude.{Option, Some, None}
use Rattle.readers.specs.Read.{space_of}
use Rattle.readers.specs.Value.{value_of}
use Rattle.readers.specs.Named.{eq_of}
use Rattle.readers.specs.Answer.{Answers}
use Rattle.readers.proofs.Answers.{ends_some, ends_inside, ends_ahead, fault_none}
use Rattle.readers.proofs.Many.{shrinks_length, reading_answers}
use Rattle.readers.proofs.Value.{value_shrinks}
use Rattle.tags.specs.Kept.{name_from}
use Rattle.tags.proofs.Kept.{name_size}
use Rattle.tags.proofs.Named.{piece_none, piece_some, piece_ahead, piece_inside}
use Rattle.attributes.specs.Attribute.{Attribute, attribute}
use Rattle.attributes.specs.Held.{normal_at, Held, held_of, attributes_in, has_attribute}
use Rattle.attributes.proofs.Held.{in_stop, in_step}

-- ---- the name from a to e

module _ (d n : List ℕ) (a e : ℕ) (l : a ≤ e) (h : e ≤ length d) where
  long : length (name_from d a (e - a)) ≡ e - a
  long = name_size d a (e - a) (omega arith)

  pub is_longer : (x : Bool) → (e - a ≡ length n → ⊥) → false ≡ same (name_from d a (e - a)) n && x
  is_longer x ne = rw (same_other (name_from d a (e - a)) n (λ q. ne (sym long ∙ ap length q)))

  module _ (z : e - a ≡ length n) {b : Bool} (t : b ≡ begins n (drop a d)) where
    named : b ≡ same (name_from d a (e - a)) n
    named = t ∙ begins-same n (drop a d) ∙ ap (λ (m : ℕ). same (name_from d a m) n) (sym z)

    pub is_other_lem : (x : Bool) → not b ≡ true → false ≡ same (name_from d a (e - a)) n && x
    is_other_lem x q = rw (sym named ∙ not-true b q)

    pub is_valued : not b ≡ false → {r x : Bool} → r ≡ x → r ≡ same (name_from d a (e - a)) n && x
    is_valued q v = rw (sym named ∙ not-false b q) v

pub ruleset being = (is_longer, is_other_lem, is_valued)

-- ---- one attribute after the other

pub record Having (d n t : List ℕ) (i : ℕ) : Type 0 where
  pub inside : i ≤ length d
  pub agrees : has_attribute (attributes_in 0 (drop i d)) n t ≡ has_attribute (attributes_in 0 d) n t

pub have_start : (d n t : List ℕ) → Having d n t 0
have_start d n t = record { inside = omega arith; agrees = refl }

module _ {d n t : List ℕ} {i : ℕ} (w : Having d n t i) where
  have_none : held_of (drop i d) ≡ none → false ≡ has_attribute (attributes_in 0 d) n t
  unfolding has_attribute
  have_none e = sym (ap (λ (xs : List Attribute). has_attribute xs n t) (in_stop (drop i d) e)) ∙ w.agrees

  pub have_inside : i ≤ length d
  have_inside = w.inside

  module _ {r : Option ℕ} (a : Answers d i r (space_of (drop i d))) where
    pub have_blankless : r ≡ None → false ≡ has_attribute (attributes_in 0 d) n t
    unfolding held_of
    have_blankless q = have_none (rw (fault_none a q))

    module _ {x : ℕ} (q : r ≡ Some x) {m : Option ℕ} (b : m ≡ name_at d x) where
      pub have_nameless : m ≡ None → false ≡ has_attribute (attributes_in 0 d) n t
      unfolding held_of
      have_nameless f = have_none (rw (ends_some a q, piece_none d x b f))

      module _ {e : ℕ} (g : m ≡ Some e) {u : Option ℕ} (c : Answers d e u (eq_of (drop e d))) where
        pub have_unequal : u ≡ None → false ≡ has_attribute (attributes_in 0 d) n t
        unfolding held_of
        have_unequal f = have_none (rw (ends_some a q, piece_some d x b g, fault_none c f))

        module _ {v : ℕ} (h : u ≡ Some v) {o : Option ℕ} (k : o ≡ reading_at d v (value_of (drop v d))) where
          valued : Answers d v o (value_of (drop v d))
          valued = reading_answers value_shrinks d v k

          pub have_valueless : o ≡ None → false ≡ has_attribute (attributes_in 0 d) n t
          unfolding held_of
          have_valueless f = have_none (rw (ends_some a q, piece_some d x b g, ends_some c h, fault_none valued f))

          module _ {end : ℕ} (f : o ≡ Some end) where
            further : i < end
            further =
                let p = ends_ahead a q in
                let s = piece_ahead d x b g in
                let y = ends_ahead c h in
                let z = shrinks_length value_shrinks (drop v d) (drop end d) (ends_some valued f) in
                omega (arith, length-drop v d, length-drop end d, ends_inside c h)

            pub have_less : length d - end < length d - i
            have_less = let z = further in let y = ends_inside valued f in omega arith

            one : Held
            one = record { attribute = attribute (name_from d x (e - x)) (normal_at (drop v d)); rest = drop end d }

            held : held_of (drop i d) ≡ some one
            unfolding held_of one
            held = rw (ends_some a q, piece_some d x b g, ends_some c h, ends_some valued f)

            split : has_attribute (attributes_in 0 d) n t
                ≡ same (name_from d x (e - x)) n && same (normal_at (drop v d)) t || has_attribute (attributes_in 0 (drop end d)) n t
            unfolding one has_attribute
            split = sym w.agrees ∙ ap (λ (xs : List Attribute). has_attribute xs n t) (in_step (drop i d) one held)

            module _ {y : Bool} (s : y ≡ same (name_from d x (e - x)) n && same (normal_at (drop v d)) t) where
              pub have_this : y ≡ true → true ≡ has_attribute (attributes_in 0 d) n t
              have_this z = sym (split ∙ rw (sym s ∙ z))

              pub have_more : y ≡ false → Having d n t end
              have_more z = record { inside = ends_inside valued f; agrees = sym (split ∙ rw (sym s ∙ z)) }

pub ruleset having = (
  have_start,
  have_inside,
  have_blankless,
  have_nameless,
  have_unequal,
  have_valueless,
  have_less,
  have_this,
  have_more,
  ends_inside,
  piece_ahead,
  piece_inside,
  rules,
)
