-- The places that steps can have. In order: the loop over the places of one step; the names at the places; that one step more goes from
-- the places of some steps to those of one more.
use mathlib.Core.Path.{◌≡◌, refl, sym, ap, ◌∙◌, subst}
use mathlib.Core.Bool.{Bool, true, false, cond, false≢true, true≢false, ◌&&◌, ◌||◌, or-false}
use mathlib.Core.List.{List, [], ◌∷◌, ◌++◌}
use mathlib.Core.Logic.{◌↔◌, ◌⊎◌, inl, inr, ⊎_elim}
use Prim.Native.Nat.{ℕ, zero, suc, ◌+◌, ◌-◌, ◌≤◌, ◌<◌}
use native.Mathlib.Nat.{eq-or-lt_of_le}
use native.Mathlib.Numerals.{add-one}
use native.Mathlib.Omega.{arith}
use borrow.Author.Tests.{ne_eqb}
use lib.ListN.{length, take, drop, get_or, set, length-set, length-append}
use lib.Seq.{get_or-set_same, get_or-set_other}
use Rattle.xml.specs.Character.{begins}
use Rattle.xml.specs.Productions.{same as same_bytes}
use Rattle.xml.proofs.Same.{same_equal, same_refl, same_other, begins-same}
use Rattle.tags.specs.Kept.{name_from}
use Rattle.tags.proofs.Kept.{name_size}
use Rattle.xml.proofs.Bools.{and_left, and_right, and_both, or_either, or_left, or_right}
use Rattle.paths.specs.Path.{Step}
use Rattle.paths.specs.declared.Kind.{Kind}
use Rattle.paths.specs.declared.Kind.TheVariants.{Child, Descendant, SelfStep, DescendantOrSelf}
use Rattle.compiled.specs.Kinds.{stays, goes, far}
use Rattle.document.specs.Levels.{names_of}
use Rattle.trees.specs.Written.{root_first}
use Rattle.matcher.specs.Select.{At, root, under, Stands, Reaches, PassesName}
use Rattle.matcher.specs.Moves.{Moves, same, down}
use Rattle.matcher.specs.Test.{passes_name}
use Rattle.matcher.proofs.Moving.{below_moves}
use Rattle.matcher.proofs.Laying.{at_behind, at_one, reach_more, reach_last, reach_zero}
use Rattle.matcher.proofs.Places.{passes_decides}
use Rattle.descent.specs.Places.{may_stand, passes_by, some_up_to, name_at, can_stand, Stepped, Inside, Can}

-- ---- where a step may stand, and the test of a name

module _ (k : Kind) (right above there : Bool) where
  pub may_child : k ≡ Child → right ≡ may_stand k right above there
  unfolding may_stand
  may_child e = rw e

  pub may_descendant : k ≡ Descendant → above ≡ may_stand k right above there
  unfolding may_stand
  may_descendant e = rw e

  pub may_self : k ≡ SelfStep → there ≡ may_stand k right above there
  unfolding may_stand
  may_self e = rw e (sym (or-false there))

  pub may_both : k ≡ DescendantOrSelf → there || above ≡ may_stand k right above there
  unfolding may_stand
  may_both e = rw e

pub ruleset standing = (may_child, may_descendant, may_self, may_both)

same_turned : (w m : List ℕ) → same_bytes w m ≡ same_bytes m w
same_turned w m = go (same_bytes w m) refl
  where
    go : (b : Bool) → same_bytes w m ≡ b → b ≡ same_bytes m w
    go true e = let z = same_equal w m e in rw z (sym (same_refl m))
    go false e = sym (same_other m w (λ q. true≢false (sym (rw q (same_refl w)) ∙ e)))

module _ (list : List ℕ) (test len : ℕ) (d : List ℕ) (a n : ℕ) where
  pub passes_any_lem : len ≡ 0 → true ≡ passes_by list test len (name_from d a n)
  passes_any_lem e = rw e

  module _ (some : len ≡ 0 → ⊥) (h : test + len ≤ length list) (g : a + n ≤ length d) where
    pub passes_longer : (len ≡ n → ⊥) → false ≡ passes_by list test len (name_from d a n)
    passes_longer ne =
        rw (ne_eqb len 0 some)
        (sym (same_other (name_from list test len) (name_from d a n)
        (λ e. ne (sym (name_size list test len h) ∙ ap length e ∙ name_size d a n g))))

    pub passes_compared : len ≡ n → {b : Bool} → b ≡ begins (take (test + len - test) (drop test list)) (drop a d)
        → b ≡ passes_by list test len (name_from d a n)
    passes_compared q t =
        let z : test + len - test ≡ len = omega arith in
        rw (ne_eqb len 0 some)
        (t ∙ ap (λ (m : ℕ). begins (take m (drop test list)) (drop a d)) z
        ∙ begins-same (name_from list test len) (drop a d)
        ∙ ap (λ (m : ℕ). same_bytes (take m (drop a d)) (name_from list test len)) (name_size list test len h ∙ q)
        ∙ same_turned (name_from d a n) (name_from list test len))

pub ruleset naming_step = (passes_any_lem, passes_longer, passes_compared)

-- ---- the loop over the places

-- the places up to p are found, those behind it are as they were
pub record Trying (k : Kind) (passes : List ℕ → Bool) (name : ℕ → List ℕ) (level : ℕ) (can₀ can : List Bool)
    (right above : Bool) (p : ℕ) : Type 0 where
  pub long : length can ≡ 65
  pub whole : length can₀ ≡ 65
  pub right_is : right ≡ get_or can₀ p false
  pub above_is : above ≡ some_up_to can₀ p
  pub done : (q : ℕ) → q < p → get_or can (q + 1) false ≡ can_stand k passes name can₀ q
  pub left : (q : ℕ) → p < q → get_or can q false ≡ get_or can₀ q false

module _ {k : Kind} {passes : List ℕ → Bool} {name : ℕ → List ℕ} {level : ℕ} where
  pub try_start : {can : List Bool} {x y : Bool} → length can ≡ 65 → x ≡ get_or can 0 false → y ≡ get_or can 0 false
      → Trying k passes name level can can x y 0
  try_start {can} l ex ey =
      record {
        long = l;
        whole = l;
        right_is = ex;
        above_is = ey;
        done = λ q h. absurd (omega arith);
        left = λ q h. refl;
      }

  module _ {can₀ can : List Bool} {right above : Bool} {p : ℕ} (v : Trying k passes name level can₀ can right above p) where
    pub try_there : {there : Bool} → there ≡ get_or can (p + 1) false → there ≡ get_or can₀ (p + 1) false
    try_there e = e ∙ v.left (p + 1) (omega arith)

    pub try_on : {there may fits : Bool} → p < level → level ≤ 64 → there ≡ get_or can (p + 1) false → may ≡ may_stand k right above there
        → fits ≡ passes (name p) → Trying k passes name level can₀ (set can (p + 1) (may && fits)) there (above || there) (p + 1)
    try_on {there} {may} {fits} g h et em ef =
        record {
          long = length-set can (p + 1) (may && fits) ∙ v.long;
          whole = v.whole;
          right_is = try_there et;
          above_is = rw (v.above_is, try_there et, add-one p);
          done = λ q l. ⊎_elim (here q) (before q) (eq-or-lt_of_le (let z : q ≤ p = omega arith in z));
          left = λ q l. get_or-set_other can (p + 1) q (may && fits) false (λ e. omega arith) ∙ v.left q (omega arith);
        }
      where
        found : may && fits ≡ can_stand k passes name can₀ p
        found = rw (em, ef, v.right_is, v.above_is, try_there et)

        here : (q : ℕ) → q ≡ p → get_or (set can (p + 1) (may && fits)) (q + 1) false ≡ can_stand k passes name can₀ q
        here q e = rw e (get_or-set_same can (p + 1) (may && fits) false (omega (arith, v.long)) ∙ found)

        before : (q : ℕ) → q < p → get_or (set can (p + 1) (may && fits)) (q + 1) false ≡ can_stand k passes name can₀ q
        before q l = get_or-set_other can (p + 1) (q + 1) (may && fits) false (λ e. omega arith) ∙ v.done q l

    pub try_end : level ≤ p → Stepped k passes name level can₀ (set can 0 false)
    try_end l =
        record {
          long = length-set can 0 false ∙ v.long ∙ sym v.whole;
          none = get_or-set_same can 0 false false (omega (arith, v.long));
          each = λ q h. get_or-set_other can 0 (q + 1) false false (λ e. omega arith) ∙ v.done q (omega arith);
        }

module _ {d starts lens : List ℕ} {level : ℕ} (v : Inside d starts lens level) {p : ℕ} (l : p < level) where
  pub level_deep : p < 64
  level_deep = omega (arith, v.deep)

  pub level_next : p + 1 < 65
  level_next = omega (arith, v.deep)

  pub level_inside : get_or starts p 0 + get_or lens p 0 ≤ length d
  level_inside = v.inside p l

pub ruleset trying = (try_start, try_on, try_end, level_deep, level_next, level_inside)

-- ---- the names at the places

at_more : {A : Type 0} {xs : List A} {p : ℕ} {x : A} (ys : List A) → At xs p x → At (xs ++ ys) p x
at_more ys root = root
at_more ys (under a) = under (at_more ys a)

module _ (d starts lens : List ℕ) where
  pub names_long : (level : ℕ) → length (root_first (names_of d starts lens level)) ≡ level
  names_long zero = refl
  names_long (suc k) =
      let z = names_long k in
      let y = length-append (root_first (names_of d starts lens k)) (name_at d starts lens k ∷ []) in
      omega arith

  pub at_level : (level p : ℕ) → p < level → At (root_first (names_of d starts lens level)) (p + 1) (name_at d starts lens p)
  at_level zero p l = absurd (omega arith)
  at_level (suc k) p l = ⊎_elim here (below (at_level k p)) (eq-or-lt_of_le (let z : p ≤ k = omega arith in z))
    where
      here : p ≡ k → At (root_first (names_of d starts lens (suc k))) (p + 1) (name_at d starts lens p)
      here e =
          subst (λ (q : ℕ). At (root_first (names_of d starts lens (suc k))) (q + 1) (name_at d starts lens q)) (sym e)
          (subst (λ (q : ℕ). At (root_first (names_of d starts lens (suc k))) (q + 1) (name_at d starts lens k)) (names_long k)
          (at_behind (root_first (names_of d starts lens k)) (name_at d starts lens k) []))

      below : (p < k → At (root_first (names_of d starts lens k)) (p + 1) (name_at d starts lens p))
          → p < k → At (root_first (names_of d starts lens (suc k))) (p + 1) (name_at d starts lens p)
      below f h = at_more (name_at d starts lens k ∷ []) (f h)

-- ---- one step more

-- one of the places up to p is among some
some_found : (can : List Bool) (p : ℕ) → some_up_to can p ≡ true → (b : ℕ) × (b ≤ p) × (get_or can b false ≡ true)
some_found can zero e = (0, omega arith, e)
some_found can (suc p) e = go (or_either (some_up_to can p) (get_or can (suc p) false) e) (some_found can p)
  where
    go : (some_up_to can p ≡ true) ⊎ (get_or can (suc p) false ≡ true)
        → (some_up_to can p ≡ true → (b : ℕ) × (b ≤ p) × (get_or can b false ≡ true)) → (b : ℕ) × (b ≤ suc p) × (get_or can b false ≡ true)
    go (inl e) f = let r = f e in (r.0, omega (arith, r.1), r.2)
    go (inr e) f = (suc p, omega arith, e)

found_some : (can : List Bool) (p b : ℕ) → b ≤ p → get_or can b false ≡ true → some_up_to can p ≡ true
found_some can zero b l e = let z : b ≡ 0 = omega arith in rw z at e
found_some can (suc p) b l e = ⊎_elim here (below (λ h. found_some can p b h e)) (eq-or-lt_of_le l)
  where
    here : b ≡ suc p → some_up_to can p || get_or can (suc p) false ≡ true
    here q = or_right (some_up_to can p) (get_or can (suc p) false) (rw q at e)

    below : (b ≤ p → some_up_to can p ≡ true) → b < suc p → some_up_to can p || get_or can (suc p) false ≡ true
    below f h = or_left (some_up_to can p) (get_or can (suc p) false) (f (omega arith))

-- where a step may stand, there is a place for the step before from which it moves there, and the other way round
module _ (k : Kind) (can : List Bool) (p : ℕ) where
  abbrev may : Bool
  may = may_stand k (get_or can p false) (some_up_to can p) (get_or can (p + 1) false)

  abbrev From : Type 0
  From = (b : ℕ) × (b ≤ p + 1) × (get_or can b false ≡ true) × Moves (stays k) (goes k) (far k) b (p + 1)

  from_above : (f : Bool) → far k ≡ f → goes k ≡ true → cond f (some_up_to can p) (get_or can p false) ≡ true → From
  from_above true ef g e =
      let r = some_found can p e in
      let l = r.1 in
      (r.0, omega arith, r.2, down g (omega arith) (λ n. absurd (true≢false (sym ef ∙ n))))
  from_above false ef g e = (p, omega arith, e, down g (omega arith) (λ n. refl))

  may_from : may ≡ true → From
  unfolding may_stand
  may_from e = go (or_either (stays k && get_or can (p + 1) false) (goes k && cond (far k) (some_up_to can p) (get_or can p false)) e)
    where
      go : ((stays k && get_or can (p + 1) false) ≡ true) ⊎ ((goes k && cond (far k) (some_up_to can p) (get_or can p false)) ≡ true) → From
      go (inl h) =
          (p + 1, omega arith, and_right (stays k) _ h, same (and_left (stays k) _ h) refl (omega arith))
      go (inr h) = from_above (far k) refl (and_left (goes k) _ h) (and_right (goes k) _ h)

  above_may : (b : ℕ) → get_or can b false ≡ true → b < p + 1 → (f : Bool) → far k ≡ f → (far k ≡ false → p + 1 ≡ b + 1)
      → cond f (some_up_to can p) (get_or can p false) ≡ true
  above_may b e l true ef n = found_some can p b (omega arith) e
  above_may b e l false ef n =
      let h = n ef in
      let z : b ≡ p = omega arith in
      rw z at e

  from_may : (b : ℕ) → get_or can b false ≡ true → Moves (stays k) (goes k) (far k) b (p + 1) → may ≡ true
  unfolding may_stand
  from_may b e (same s q z) = or_left (stays k && get_or can (p + 1) false) _ (and_both (stays k) _ s (rw (sym q) at e))
  from_may b e (down g l n) =
      or_right (stays k && get_or can (p + 1) false) _ (and_both (goes k) _ g (above_may b e l (far k) refl n))

module _ (names : List (List ℕ)) (level : ℕ) (name : ℕ → List ℕ) (at : (p : ℕ) → p < level → At names (p + 1) (name p))
    (ss : List Step) (s : Step) (passes : List ℕ → Bool) (tests : (n : List ℕ) → passes n ≡ passes_name s n) {can can' : List Bool}
    (c : Can names level ss can) (t : Stepped s.kind passes name level can can') where
  abbrev stands_at : ℕ → Bool
  stands_at p = may_stand s.kind (get_or can p false) (some_up_to can p) (get_or can (p + 1) false)

  stand : (p : ℕ) → p < level → (get_or can' (p + 1) false ≡ true) ↔ Reaches PassesName names (ss ++ s ∷ []) (p + 1)
  stand p l = (λ e. into (sym (t.each p l) ∙ e), λ r. t.each p l ∙ back (reach_last PassesName names ss s r))
    where
      into : stands_at p && passes (name p) ≡ true → Reaches PassesName names (ss ++ s ∷ []) (p + 1)
      into e =
          let f = may_from s.kind can p (and_left (stands_at p) (passes (name p)) e) in
          let y = f.1 in
          reach_more PassesName names ss s ((c.each f.0 (omega arith)).0 f.2)
          (record {
            below = (below_moves s.kind f.0 (p + 1)).1 f.3;
            what = name p;
            there = at p l;
            fits = (passes_decides s (name p)).1 (sym (tests (name p)) ∙ and_right (stands_at p) (passes (name p)) e);
          })

      no_further : (b : ℕ) → Moves (stays s.kind) (goes s.kind) (far s.kind) b (p + 1) → b ≤ p + 1
      no_further b (same q e z) = omega arith
      no_further b (down g h n) = omega arith

      back : (b : ℕ) × Reaches PassesName names ss b × Stands PassesName names b s (p + 1) → stands_at p && passes (name p) ≡ true
      back r =
          let mv = (below_moves s.kind r.0 (p + 1)).0 r.2.below in
          let y = no_further r.0 mv in
          and_both (stands_at p) (passes (name p))
          (from_may s.kind can p r.0 ((c.each r.0 (omega arith)).1 r.1) mv)
          (tests (name p) ∙ (passes_decides s (name p)).0 (subst (PassesName s) (at_one r.2.there (at p l) refl) r.2.fits))

  pub can_step : Can names level (ss ++ s ∷ []) can'
  can_step = record { long = t.long ∙ c.long; each = go }
    where
      go : (p : ℕ) → p ≤ level → (get_or can' p false ≡ true) ↔ Reaches PassesName names (ss ++ s ∷ []) p
      go zero l = (λ e. absurd (false≢true (sym t.none ∙ e)), λ r. absurd (reach_zero PassesName names ss s r))
      go (suc p) l = rw (add-one p) at (stand p (omega arith))
