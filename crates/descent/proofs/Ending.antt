-- An element as a whole. In order: its name is kept beside those around it; whether what comes behind it is inside a kept entry; what its
-- content needs to be safe; and the three ways out: an empty tag, a fault inside, an end.
use mathlib.Core.Path.{◌≡◌, refl, sym, ap, ◌∙◌, subst}
use mathlib.Core.Bool.{Bool, true, false, cond, ◌||◌}
use mathlib.Core.List.{List, []}
use mathlib.Core.Logic.{⊎_elim}
use Prim.Native.Nat.{ℕ, ◌+◌, ◌-◌, ◌≤◌, ◌<◌}
use native.Mathlib.Nat.{eq-or-lt_of_le}
use native.Mathlib.Numerals.{add-one}
use native.Mathlib.Omega.{arith}
use borrow.Author.Tests.{lt-ltb, le-ltb}
use lib.Dec.{ltb}
use lib.ListN.{length, take, drop, get_or, set, length-set}
use lib.Seq.{get_or-set_same, get_or-set_other}
use Rattle.std.specs.Prelude.{Err}
use Rattle.paths.specs.Judge.{list_paths}
use Rattle.attributes.specs.Held.{attributes_in}
use Rattle.document.specs.declared.ItemError.{ItemError}
use Rattle.document.specs.Levels.{names_of}
use Rattle.matcher.specs.Says.{verdict_of}
use Rattle.trees.specs.Grown.{part}
use Rattle.trees.specs.Engine.{on_start, on_finish}
use Rattle.trees.specs.Written.{root_first}
use Rattle.output.specs.Levels.{name_at, Placed}
use Rattle.descent.specs.Places.{Inside}
use Rattle.descent.specs.Lines.{verdict_by}
use Rattle.descent.specs.Ink.{Moves, Ready, Reached, is_marked}
use Rattle.tags.specs.declared.Item.{Item}
use Rattle.tags.specs.declared.Item.TheVariants.{Finish}
use Rattle.items.specs.Item.{item_at}
use Rattle.items.specs.Inside.{Inside as ItemInside}
use Rattle.items.proofs.Insides.{item_inside}
use Rattle.document.specs.Place.{placement}
use Rattle.document.specs.declared.Placement.TheVariants.{Fine}
use Rattle.document.specs.declared.Why.{Why}
use Rattle.trees.proofs.Passes.{over_nothing, over_closed}
use Rattle.descent.specs.Tree.{Safe, opening, Going, Stops, closed, over, ElementEnds, ElementIs, ContentEnds, ContentIs}
use Rattle.descent.proofs.Going.{going_finish}
use Rattle.descent.specs.declared.ink.Run.{Run}
use Rattle.descent.specs.declared.ink.Tag.{Tag}
use Rattle.descent.specs.declared.select.Verdict.{Verdict as Said}
use Rattle.descent.proofs.Elements.{going_tag, going_empty, going_back}

-- ---- the name that is kept at the level

pub placed_own : {d starts lens : List ℕ} {level : ℕ} → Placed d starts lens level → level < 64 → (a n : ℕ) → a + n ≤ length d
    → Placed d (set starts level a) (set lens level n) (level + 1)
placed_own {d} {starts} {lens} {level} p l a n h =
    record {
      deep = omega arith;
      starts_long = length-set starts level a ∙ p.starts_long;
      lens_long = length-set lens level n ∙ p.lens_long;
      inside = λ i g. ⊎_elim (own i) (around i) (eq-or-lt_of_le (let z : i ≤ level = omega arith in z));
    }
  where
    own : (i : ℕ) → i ≡ level → get_or (set starts level a) i 0 + get_or (set lens level n) i 0 ≤ length d
    own i q =
        rw (
          q,
          get_or-set_same starts level a 0 (omega (arith, p.starts_long)),
          get_or-set_same lens level n 0 (omega (arith, p.lens_long)),
        )
        h

    around : (i : ℕ) → i < level → get_or (set starts level a) i 0 + get_or (set lens level n) i 0 ≤ length d
    around i g =
        rw (get_or-set_other starts level i a 0 (λ q. omega arith), get_or-set_other lens level i n 0 (λ q. omega arith)) (p.inside i g)

pub inside_own : {d starts lens : List ℕ} {level : ℕ} → Placed d starts lens level → Inside d starts lens level
inside_own p = record { deep = p.deep; starts_long = p.starts_long; lens_long = p.lens_long; inside = p.inside }

-- the numbers are far from 64 bits
pub begin_ready : {d starts lens : List ℕ} {level : ℕ} {kept : Bool} {r : Run} {at : ℕ} → Safe d starts lens level kept r at → Ready d r
begin_ready s =
    record {
      small = s.small;
      near = omega (arith, s.far, s.within, s.small);
      few = omega (arith, s.few, s.within, s.small);
    }

-- ---- whether what comes behind an element is inside a kept entry

pub kept_back : (kept : Bool) (v : Said) (level before begun ended : ℕ) → (kept ≡ true → before < level) → Reached kept v level before begun
    → ((kept || is_marked v) ≡ true → ended ≡ begun) → cond (kept || is_marked v) (ltb (ended + 1) (level + 1)) false ≡ kept
kept_back true v level before begun ended h r s =
    lt-ltb (ended + 1) (level + 1) (omega (arith, h refl, r.stays refl, s refl))
kept_back false v level before begun ended h r s = go (is_marked v) refl s
  where
    go : (b : Bool) → is_marked v ≡ b → (b ≡ true → ended ≡ begun) → cond b (ltb (ended + 1) (level + 1)) false ≡ false
    go true e s = le-ltb (ended + 1) (level + 1) (omega (arith, r.entry refl e, s refl))
    go false e s = refl

-- in a kept entry, or one itself, an element is not opened in the output
pub entry_own : (kept : Bool) (v : Said) (level before begun : ℕ) → (kept ≡ true → before < level) → Reached kept v level before begun
    → (kept || is_marked v) ≡ true → begun < level + 1
entry_own true v level before begun h r e = omega (arith, h refl, r.stays refl)
entry_own false v level before begun h r e = omega (arith, r.entry refl e)

-- ---- content inside an element stops at its end tag

pub record Closed (d starts lens : List ℕ) (level at end : ℕ) (first rooted : Bool) : Type 0 where
  pub size : ℕ
  pub is : Finish size end ≡ item_at first d at
  pub fine : placement d at (Finish size end) (opening d starts lens (level + 1) rooted) ≡ Fine
  pub ahead : at < end
  pub inside : end ≤ length d

pub stops_closed : {d starts lens : List ℕ} {level at end : ℕ} {first rooted : Bool}
    → Stops d at end first (opening d starts lens (level + 1) rooted) → Closed d starts lens level at end first rooted
stops_closed {d} {at = at} {end} {first} (closed n q h) =
    let z : ItemInside d at (Finish n end) = subst (λ (j : Item). ItemInside d at j) (sym q) (item_inside first d at) in
    record { size = n; is = q; fine = h; ahead = omega (arith, z.0); inside = z.1 }
stops_closed {d} {starts} {lens} {level} {at} {end} {first} {rooted} (over h q) =
    let s = opening d starts lens (level + 1) rooted in
    let i = over_nothing d at (item_at first d at) s h in
    let e : names_of d starts lens (level + 1) ≡ [] = over_closed d at s (rw i at h) in
    absurd (some_open level e)
  where
    some_open : (k : ℕ) → names_of d starts lens (k + 1) ≡ [] → ⊥
    some_open k e = let z : length (names_of d starts lens (k + 1)) ≡ 0 = ap length e in omega (arith, rw (add-one k) at z)

-- ---- the element of a tag, where its start is written

module _ (list d starts lens : List ℕ) (level : ℕ) (kept : Bool) (r : Run) (tag : Tag) (o : List ℕ) (deep : level < 64)
    (safe : Safe d starts lens level kept r tag.at) (behind : tag.at + 1 + tag.name ≤ tag.head) (ends : tag.head < tag.end)
    (inside : tag.end ≤ length d) (v : Said)
    (ev : verdict_by v ≡ verdict_of (list_paths list)
    (root_first (names_of d (set starts level (tag.at + 1)) (set lens level tag.name) (level + 1)))
    (attributes_in 0 (take (tag.head - (tag.at + 1 + tag.name)) (drop (tag.at + 1 + tag.name) d))))
    (r₁ : Run) (o₁ : List ℕ)
    (mv : Moves d (set starts level (tag.at + 1)) (set lens level tag.name) level kept r o
    (on_start (verdict_by v) (name_at d (set starts level (tag.at + 1)) (set lens level tag.name) level) (part d tag.at tag.head)
    (part d tag.at tag.end)) (level + 1) (kept || is_marked v) r₁ o₁)
    (re : Reached kept v level r.reached.0 r₁.reached.0) where
  abbrev own : List ℕ
  own = set starts level (tag.at + 1)

  abbrev size : List ℕ
  size = set lens level tag.name

  abbrev kept₁ : Bool
  kept₁ = kept || is_marked v

  ls : level < length starts
  ls = omega (arith, safe.placed.starts_long)

  ll : level < length lens
  ll = omega (arith, safe.placed.lens_long)

  pub begun_safe : Safe d own size (level + 1) kept₁ r₁ tag.end
  begun_safe =
      record {
        placed = placed_own safe.placed deep (tag.at + 1) tag.name (omega arith);
        within = inside;
        small = safe.small;
        order = mv.order;
        entry = entry_own kept v level r.reached.0 r₁.reached.0 safe.entry re;
        far = omega (arith, mv.far, safe.far);
        few = omega (arith, mv.few, safe.few);
      }

  -- a fault inside
  pub element_fault : {f : ItemError} (o₂ : List ℕ)
      → ContentIs list d own size (record { level = record { 0 = level + 1 }; rooted = true }) kept₁ tag.end false r₁ o₁ (Err f) o₂
      → ElementIs list d starts lens level kept tag false r o (Err f) o₂
  element_fault o₂ w o₀ first rooted twice e fine g =
      w o₀ (going_tag g safe.order ls ll e fine behind ends inside ev mv refl)

  -- what is known once its end is written, which began at the run r₂
  module _ (r₂ : Run) (stay : kept₁ ≡ true → r₂.reached.0 ≡ r₁.reached.0) where
    back : cond kept₁ (ltb (r₂.reached.0 + 1) (level + 1)) false ≡ kept
    back = kept_back kept v level r.reached.0 r₁.reached.0 r₂.reached.0 safe.entry re stay

    either : kept ≡ true → kept₁ ≡ true
    either e = rw e

    reaches : (r₃ : Run) → (kept₁ ≡ true → r₃.reached.0 ≡ r₂.reached.0) → kept ≡ true → r₃.reached.0 ≡ r.reached.0
    reaches r₃ s e = s (either e) ∙ stay (either e) ∙ re.stays e

  -- an empty tag
  module _ (r₂ : Run) (o₂ : List ℕ)
      (mf : Moves d own size (level + 1) kept₁ r₁ o₁ (on_finish (part d tag.end tag.end)) level
      (cond kept₁ (ltb (r₁.reached.0 + 1) (level + 1)) false) r₂ o₂)
      (same₂ : kept₁ ≡ true → r₂.reached.0 ≡ r₁.reached.0) where
    pub element_empty : ElementEnds list d starts lens level kept tag true r o tag.end r₂ o₂
    element_empty =
        let m = subst (λ (b : Bool). Moves d own size (level + 1) kept₁ r₁ o₁ (on_finish (part d tag.end tag.end)) level b r₂ o₂)
        (back r₁ (λ q. refl)) mf in
        let u = reaches r₁ (λ q. refl) r₂ same₂ in
        record {
          ahead = omega arith;
          safe =
              record {
                placed = safe.placed;
                within = inside;
                small = safe.small;
                order = m.order;
                entry = λ q. rw (u q) (safe.entry q);
                far = omega (arith, mv.far, m.far, safe.far);
                few = omega (arith, mv.few, m.few, safe.few);
              };
          same = u;
          room = m.same ∙ mv.same;
          goes = λ o₀ first rooted twice e fine g.
              going_empty g safe.order ls ll e fine behind ends inside ev mv m.order m refl;
        }

  -- an end tag, where its content stopped
  module _ (at₂ end₂ : ℕ) (r₂ : Run) (o₂ : List ℕ)
      (w : ContentEnds list d own size (record { level = record { 0 = level + 1 }; rooted = true }) kept₁ tag.end false r₁ o₁ at₂ end₂ r₂
      o₂)
    where
      abbrev at_end : Type 0
      at_end = Closed d own size level at₂ end₂ w.later w.rooted

      stopped : at_end
      stopped = stops_closed w.stops

      pub finish_from : at₂ ≤ end₂
      finish_from = omega (arith, stopped.ahead)

      pub finish_to : end₂ ≤ length d
      finish_to = stopped.inside

      module _ (r₃ : Run) (o₃ : List ℕ)
          (mf : Moves d own size (level + 1) kept₁ r₂ o₂ (on_finish (part d at₂ end₂)) level
          (cond kept₁ (ltb (r₂.reached.0 + 1) (level + 1)) false) r₃ o₃)
          (same₃ : kept₁ ≡ true → r₃.reached.0 ≡ r₂.reached.0) where
        pub element_ends : ElementEnds list d starts lens level kept tag false r o end₂ r₃ o₃
        element_ends =
            let m = subst (λ (b : Bool). Moves d own size (level + 1) kept₁ r₂ o₂ (on_finish (part d at₂ end₂)) level b r₃ o₃)
            (back r₂ w.same) mf in
            let u = reaches r₂ w.same r₃ same₃ in
            record {
              ahead = omega (arith, w.ahead, stopped.ahead);
              safe =
                  record {
                    placed = safe.placed;
                    within = stopped.inside;
                    small = safe.small;
                    order = m.order;
                    entry = λ q. rw (u q) (safe.entry q);
                    far = omega (arith, m.far, w.safe.far, stopped.ahead);
                    few = omega (arith, m.few, w.safe.few, stopped.ahead);
                  };
              same = u;
              room = m.same ∙ w.room ∙ mv.same;
              goes = λ o₀ first rooted twice e fine g.
                  subst (λ (b : Bool). Going list d starts lens o₀ level b kept r₃ end₂ false o₃) (w.still refl)
                  (going_back starts lens level (tag.at + 1) tag.name
                  (going_finish (w.goes o₀ (going_tag g safe.order ls ll e fine behind ends inside ev mv refl)) stopped.is
                  stopped.fine stopped.ahead stopped.inside m)
                  m.order);
            }

pub ruleset ending = (
  placed_own,
  inside_own,
  begun_safe,
  element_fault,
  element_empty,
  finish_from,
  finish_to,
  element_ends,
)
