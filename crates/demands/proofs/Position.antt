-- What `placement` says of an item in its place is what document 01 says (specs/Position.antt), and nothing else is. In order: tests; white
-- space; tags; the end; every item.
use mathlib.Core.Path.{◌≡◌, refl, sym, ap, ◌∙◌}
use mathlib.Core.Bool.{Bool, true, false, cond, not, ◌&&◌, ◌||◌, false≢true}
use mathlib.Core.List.{List, [], ◌∷◌}
use mathlib.Core.Logic.{◌⊎◌, inl, inr}
use Prim.Native.Nat.{ℕ, ◌+◌, ◌≤◌, ◌<◌}
use native.Mathlib.Omega.{arith}
use borrow.Author.Tests.{leb-true, leb-false, le-leb, lt-leb}
use lib.Dec.{leb}
use lib.ListN.{length, drop}
use Rattle.xml.specs.Notation.{Reads, more}
use Rattle.xml.specs.Productions.{S}
use Rattle.xml.proofs.Bools.{or_left, or_right, or_either}
use Rattle.xml.proofs.Run.{starts_not}
use Rattle.xml.proofs.Same.{same_equal, same_refl}
use Rattle.chars.specs.Space.{space_end}
use Rattle.chars.specs.Meaning.{SpaceSays}
use Rattle.chars.proofs.Meaning.{space_only}
use Rattle.readers.specs.Meaning.{TextIs}
use Rattle.tags.specs.Kept.{name_from}
use Rattle.tags.specs.declared.Item.{Item}
use Rattle.tags.specs.declared.Item.TheVariants.{Declaration, Instruction, Comment, Section, Reference, Text, Start, Finish}
use Rattle.tags.specs.declared.Item.TheVariants.{Doctype, Malformed, TooLarge, Nothing}
use Rattle.items.specs.Item.{Kind}
use Rattle.items.specs.Inside.{Inside}
use Rattle.items.specs.Meaning.{KindSays}
use Rattle.document.specs.Place.{Opened, some, formed, blank, closes, start_placement, placement}
use Rattle.document.specs.declared.Placement.{Placement}
use Rattle.document.specs.declared.Placement.TheVariants.{Fine, Fault, Over}
use Rattle.document.specs.declared.Why.{Why}
use Rattle.document.specs.declared.Why.TheVariants as why
use Rattle.demands.specs.Position.{Formed, Faulty, StartSays, EndSays, PlaceSays}
use Rattle.demands.proofs.Parts.{blank_space, stops_space}

-- ---- what a test says

-- the test decides A
record Tests (b : Bool) (A : Type 0) : Type 0 where
  holds : b ≡ true → A
  held : A → b ≡ true

module _ {b : Bool} {A : Type 0} (t : Tests b A) where
  formed_says : Formed A (formed b)
  formed_says = go b refl
    where
      go : (x : Bool) → b ≡ x → Formed A (formed x)
      go true e = t.holds e
      go false e = ((λ a. false≢true (sym e ∙ t.held a)), refl)

  formed_only : (p : Placement) → Formed A p → formed b ≡ p
  formed_only Fine a = ap formed (t.held a)
  formed_only (Fault w) (n, e) = go b refl
    where
      go : (x : Bool) → b ≡ x → formed x ≡ Fault w
      go true q = absurd (n (t.holds q))
      go false q = rw e refl
  formed_only Over h = absurd h

within_tests : (ns : List (List ℕ)) → Tests (some ns) (ns ≡ [] → ⊥)
within_tests [] = record { holds = λ e. absurd (false≢true e); held = λ n. absurd (n refl) }
within_tests (n ∷ ns) = record { holds = λ e q. absurd (false≢true cc); held = λ n. refl }

always : Tests true (Unit {0})
always = record { holds = λ e. tt; held = λ u. refl }

either : {a b : Bool} {A B : Type 0} → Tests a A → Tests b B → Tests (a || b) (A ⊎ B)
either {a} {b} {A} {B} x y = record { holds = λ e. ways (or_either a b e); held = back }
  where
    ways : (a ≡ true) ⊎ (b ≡ true) → A ⊎ B
    ways (inl e) = inl (x.holds e)
    ways (inr e) = inr (y.holds e)

    back : A ⊎ B → a || b ≡ true
    back (inl p) = or_left a b (x.held p)
    back (inr p) = or_right a b (y.held p)

-- ---- white space

module _ (d : List ℕ) (at e : ℕ) (x : TextIs (drop at d) (drop e d)) (l : at < e) (h : e ≤ length d) where
  space_blank : Reads S (drop at d) (drop e d) → blank d at e ≡ true
  unfolding blank
  space_blank (u, r, rs) =
      let y : SpaceSays d at e
      = record {
        reads = more r rs;
        no_more = λ t k. starts_not _ (drop e d) (stops_space (drop e d) x.stops) t k;
        inside = λ z. h;
        past = λ z. omega arith;
      } in
      let q : e ≡ space_end d at = space_only d at e y in
      le-leb e (space_end d at) (omega arith)

  blank_tests : Tests (blank d at e) (Reads S (drop at d) (drop e d))
  blank_tests = record { holds = blank_space d at e x l h; held = space_blank }

-- ---- tags

-- a root was there, and none is open
abbrev Again : List (List ℕ) → Bool → Type 0
Again ns rooted = (ns ≡ []) × (rooted ≡ true)

again_tests : (ns : List (List ℕ)) (rooted : Bool) → Tests (rooted && not (some ns)) (Again ns rooted)
again_tests [] true = record { holds = λ e. (refl, refl); held = λ x. refl }
again_tests [] false = record { holds = λ e. absurd (false≢true e); held = λ x. absurd (false≢true x.1) }
again_tests (n ∷ ns) true = record { holds = λ e. absurd (false≢true e); held = λ x. absurd (false≢true cc) }
again_tests (n ∷ ns) false = record { holds = λ e. absurd (false≢true e); held = λ x. absurd (false≢true x.1) }

again_not : (ns : List (List ℕ)) (rooted : Bool) → (Again ns rooted → ⊥) → ns ≡ [] → rooted ≡ false
again_not ns true n e = absurd (n (e, refl))
again_not ns false n e = refl

itself : (b : Bool) → Tests b (b ≡ true)
itself b = record { holds = λ e. e; held = λ e. e }

not_true : (b : Bool) → (b ≡ true → ⊥) → b ≡ false
not_true true n = absurd (n refl)
not_true false n = refl

module _ (s : Opened) (twice : Bool) where
  both : Tests (twice || (s.rooted && not (some s.names))) ((twice ≡ true) ⊎ Again s.names s.rooted)
  both = either (itself twice) (again_tests s.names s.rooted)

  start_says : StartSays s twice (start_placement twice s)
  start_says = deep (leb 64 (length s.names)) refl
    where
      flat : length s.names < 64 → (x : Bool) → twice || (s.rooted && not (some s.names)) ≡ x
          → StartSays s twice (formed (not x))
      flat l true q = inr (l, both.holds q, refl)
      flat l false q =
          let n : (twice ≡ true) ⊎ Again s.names s.rooted → ⊥ = λ a. false≢true (sym q ∙ both.held a) in
          (l, not_true twice (λ e. n (inl e)), again_not s.names s.rooted (λ a. n (inr a)))

      deep : (x : Bool) → leb 64 (length s.names) ≡ x
          → StartSays s twice (cond x (Fault why.TooLarge) (formed (not (twice || (s.rooted && not (some s.names))))))
      deep true q = inl (leb-true 64 (length s.names) q, refl)
      deep false q = flat (leb-false 64 (length s.names) q) _ refl

  start_only : (p : Placement) → StartSays s twice p → start_placement twice s ≡ p
  start_only Fine (l, t, r) =
      rw (lt-leb 64 (length s.names) l) (ap (λ (x : Bool). formed (not x)) (not_true _ (λ q. other (both.holds q))))
    where
      other : (twice ≡ true) ⊎ Again s.names s.rooted → ⊥
      other (inl e) = false≢true (sym t ∙ e)
      other (inr (e, f)) = false≢true (sym (r e) ∙ f)
  start_only (Fault w) (inl (l, e)) = rw (le-leb 64 (length s.names) l, e) refl
  start_only (Fault w) (inr (l, a, e)) =
      rw (lt-leb 64 (length s.names) l, e) (ap (λ (x : Bool). formed (not x)) (both.held a))
  start_only Over h = absurd h

closes_tests : (n : List ℕ) (ns : List (List ℕ)) → Tests (closes n ns) ((ms : List (List ℕ)) × (ns ≡ n ∷ ms))
closes_tests n [] = record { holds = λ e. absurd (false≢true e); held = λ (ms, e). absurd (false≢true cc) }
closes_tests n (m ∷ ns) =
    record {
      holds = λ e. (ns, ap (λ (x : List ℕ). x ∷ ns) (sym (same_equal n m e)));
      held = λ (ms, e). (let q : m ≡ n = cc in rw q (same_refl n));
    }

-- ---- the end of the items

end_says : (ns : List (List ℕ)) (rooted : Bool)
    → EndSays (record { names = ns; rooted = rooted }) (cond (rooted && not (some ns)) Over (Fault why.Malformed))
end_says [] true = (refl, refl)
end_says [] false = (inr refl, refl)
end_says (n ∷ ns) true = (inl (λ e. false≢true cc), refl)
end_says (n ∷ ns) false = (inr refl, refl)

end_only : (ns : List (List ℕ)) (rooted : Bool) (p : Placement) → EndSays (record { names = ns; rooted = rooted }) p
    → cond (rooted && not (some ns)) Over (Fault why.Malformed) ≡ p
end_only ns rooted Fine h = absurd h
end_only [] true (Fault w) (inl n, e) = absurd (n refl)
end_only [] true (Fault w) (inr q, e) = absurd (false≢true (sym q))
end_only [] false (Fault w) (a, e) = rw e refl
end_only (n ∷ ns) true (Fault w) (a, e) = rw e refl
end_only (n ∷ ns) false (Fault w) (a, e) = rw e refl
end_only ns rooted Over (q, e) = rw (q, e) refl

-- ---- every item

faulty_only : (w : Why) (p : Placement) → Faulty w p → Fault w ≡ p
faulty_only w Fine h = absurd h
faulty_only w (Fault y) e = ap Fault (sym e)
faulty_only w Over h = absurd h

module _ (d : List ℕ) (at : ℕ) (s : Opened) where
  pub place_says : (k : Kind) (i : Item) → KindSays k d at i → Inside d at i → PlaceSays d at s i (placement d at i s)
  place_says k (Declaration e) x h = tt
  place_says k (Instruction e) x h = tt
  place_says k (Comment e) x h = tt
  place_says k (Section e) x h = formed_says (within_tests s.names)
  place_says k (Reference n e) x h = formed_says (within_tests s.names)
  place_says k (Text e) x h = formed_says (either (within_tests s.names) (blank_tests d at e x.1.0 h.0 h.1))
  place_says k (Start n b e m t) x h = start_says s t
  place_says k (Finish n e) x h = formed_says (closes_tests (name_from d (at + 2) n) s.names)
  place_says k Doctype x h = refl
  place_says k Malformed x h = refl
  place_says k TooLarge x h = refl
  place_says k Nothing x h = end_says s.names s.rooted

  pub place_only : (k : Kind) (i : Item) → KindSays k d at i → Inside d at i → (p : Placement) → PlaceSays d at s i p
      → placement d at i s ≡ p
  place_only k (Declaration e) x h = formed_only always
  place_only k (Instruction e) x h = formed_only always
  place_only k (Comment e) x h = formed_only always
  place_only k (Section e) x h = formed_only (within_tests s.names)
  place_only k (Reference n e) x h = formed_only (within_tests s.names)
  place_only k (Text e) x h = formed_only (either (within_tests s.names) (blank_tests d at e x.1.0 h.0 h.1))
  place_only k (Start n b e m t) x h = start_only s t
  place_only k (Finish n e) x h = formed_only (closes_tests (name_from d (at + 2) n) s.names)
  place_only k Doctype x h = faulty_only why.Doctype
  place_only k Malformed x h = faulty_only why.Malformed
  place_only k TooLarge x h = faulty_only why.TooLarge
  place_only k Nothing x h = end_only s.names s.rooted
