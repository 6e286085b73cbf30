-- The start of an element, whose name is kept at its level beside those of the elements around it. In order: the names; what the state
-- stands for; the verdict on the element; its start; an empty tag; its end, after which the names around it are as they were.
use mathlib.Core.Path.{◌≡◌, refl, sym, ap, ap₂, ◌∙◌}
use mathlib.Core.Bool.{Bool, true, false, true≢false}
use mathlib.Core.List.{List, [], ◌∷◌, ◌++◌}
use Prim.Native.Nat.{ℕ, zero, suc, ◌+◌, ◌-◌, ◌≤◌, ◌<◌}
use native.Mathlib.Nat.{zero-add}
use native.Mathlib.Numerals.{add-one}
use native.Mathlib.Omega.{arith}
use lib.ListN.{length, take, drop, set}
use Rattle.xml.specs.Forest.{Name}
use Rattle.paths.specs.Judge.{list_paths}
use Rattle.attributes.specs.Attribute.{Attribute}
use Rattle.attributes.specs.Held.{attributes_in, attributes_of}
use Rattle.attributes.proofs.Placed.{attributes_behind}
use Rattle.tags.specs.Kept.{name_from}
use Rattle.tags.specs.declared.Item.TheVariants.{Start}
use Rattle.items.specs.Item.{item_at}
use Rattle.document.specs.Place.{placement, after_item}
use Rattle.document.specs.Levels.{names_of}
use Rattle.document.specs.Judge.{scan_from}
use Rattle.document.specs.declared.Placement.TheVariants.{Fine}
use Rattle.matcher.specs.Says.{verdict_of}
use Rattle.matcher.specs.declared.Verdict.{Verdict}
use Rattle.trees.specs.Cut.{Judge, on}
use Rattle.trees.specs.Grown.{Token, part, tag_of, item_tokens}
use Rattle.trees.specs.Engine.{Engine, engine, open_of, on_start, on_finish, run as runs}
use Rattle.trees.specs.Written.{root_first, verdicts}
use Rattle.notes.proofs.Making.{part_join}
use Rattle.output.specs.Levels.{name_at, span}
use Rattle.output.proofs.Spans.{span_whole}
use Rattle.passes.proofs.States.{name_here, span_below}
use Rattle.descent.specs.Ink.{Stands, Moves}
use Rattle.descent.specs.Tree.{opening, Going}
use Rattle.descent.specs.declared.ink.Run.{Run}
use Rattle.descent.proofs.Going.{going_on}

true-false : true ≡ false → ⊥
true-false e = true≢false e

-- ---- the names

names_span : (d starts lens : List ℕ) (k : ℕ) → names_of d starts lens k ≡ span (name_at d starts lens) 0 k
unfolding name_at
names_span d starts lens zero = refl
names_span d starts lens (suc k) = rw (zero-add k, names_span d starts lens k)

open_names : {d starts lens o₀ o : List ℕ} {level reached : ℕ} {kept : Bool} {len count : ℕ} {x : Engine}
    → Stands d starts lens o₀ level reached kept len count o x → reached ≤ level → open_of x ≡ names_of d starts lens level
open_names {d} {starts} {lens} {level = level} {reached} {x = engine k p q w c} t h =
    rw (t.pend_is, t.done_is) (sym (span_whole (name_at d starts lens) reached level h)) ∙ sym (names_span d starts lens level)

-- a name of n bytes at the place a is kept at the level
module _ (d starts lens : List ℕ) (level a n : ℕ) where
  abbrev starts' : List ℕ
  starts' = set starts level a

  abbrev lens' : List ℕ
  lens' = set lens level n

  around : names_of d starts' lens' level ≡ names_of d starts lens level
  around =
      names_span d starts' lens' level
      ∙ span_below d starts lens level a n 0 level (omega arith)
      ∙ sym (names_span d starts lens level)

  module _ (ls : level < length starts) (ll : level < length lens) where
    inner : names_of d starts' lens' (level + 1) ≡ name_from d a n ∷ names_of d starts lens level
    unfolding name_at
    inner = rw (add-one level) (ap₂ (λ (x : Name) (xs : List Name). x ∷ xs) (name_here d starts lens level a n ls ll) around)

  module _ {o₀ o : List ℕ} {reached : ℕ} {kept : Bool} {len count : ℕ} {x : Engine} (h : reached ≤ level) where
    stands_own : Stands d starts lens o₀ level reached kept len count o x → Stands d starts' lens' o₀ level reached kept len count o x
    stands_own t =
        record {
          kept_is = t.kept_is;
          pend_is = t.pend_is ∙ sym (span_below d starts lens level a n reached (level - reached) (omega arith));
          done_is = t.done_is ∙ sym (span_below d starts lens level a n 0 reached (omega arith));
          num_is = t.num_is;
          text = t.text;
        }

    stands_back : Stands d starts' lens' o₀ level reached kept len count o x → Stands d starts lens o₀ level reached kept len count o x
    stands_back t =
        record {
          kept_is = t.kept_is;
          pend_is = t.pend_is ∙ span_below d starts lens level a n reached (level - reached) (omega arith);
          done_is = t.done_is ∙ span_below d starts lens level a n 0 reached (omega arith);
          num_is = t.num_is;
          text = t.text;
        }

-- ---- an element whose tag stands at the place at: its name has n bytes, its head ends at h, the tag at f

module _ {list d starts lens o₀ : List ℕ} {level : ℕ} {rooted kept : Bool} {r : Run} {at : ℕ} {first : Bool} {o : List ℕ}
    (v : Going list d starts lens o₀ level rooted kept r at first o) (order : r.reached.0 ≤ level)
    (ls : level < length starts) (ll : level < length lens)
    {n h f : ℕ} {m t : Bool} (e : Start n h f m t ≡ item_at first d at)
    (fine : placement d at (Start n h f m t) (opening d starts lens level rooted) ≡ Fine)
    (behind : at + 1 + n ≤ h) (ends : h < f) (inside : f ≤ length d) where
  abbrev judge : Judge
  judge = verdicts (list_paths list)

  abbrev own : List ℕ
  own = set starts level (at + 1)

  abbrev size : List ℕ
  size = set lens level n

  -- the list's verdict on it
  verdict_is : {w : Verdict}
      → w ≡ verdict_of (list_paths list) (root_first (names_of d own size (level + 1)))
      (attributes_in 0 (take (h - (at + 1 + n)) (drop (at + 1 + n) d)))
      → w ≡ on judge (tag_of d at n h f) (open_of v.x)
  unfolding verdicts
  verdict_is q =
      q
      ∙ ap (λ (xs : List Attribute). verdict_of (list_paths list) (root_first (names_of d own size (level + 1))) xs)
      (sym (attributes_behind d at n h behind (omega arith) (part d h f)))
      ∙ ap (λ (ns : List Name). verdict_of (list_paths list) (root_first ns) (attributes_of (tag_of d at n h f)))
      (inner d starts lens level (at + 1) n ls ll
      ∙ ap (λ (ns : List Name). name_from d (at + 1) n ∷ ns) (sym (open_names v.stands order)))

  module _ {w : Verdict}
      (ew : w ≡ verdict_of (list_paths list) (root_first (names_of d own size (level + 1)))
      (attributes_in 0 (take (h - (at + 1 + n)) (drop (at + 1 + n) d))))
      {kept₁ : Bool} {r₁ : Run} {o₁ : List ℕ}
      (mv : Moves d own size level kept r o (on_start w (name_at d own size level) (part d at h) (part d at f)) (level + 1) kept₁ r₁
      o₁) where
    abbrev begun' : Engine
    begun' = on_start w (name_at d own size level) (part d at h) (part d at f) v.x

    starts_as : on_start (on judge (tag_of d at n h f) (open_of v.x)) (name_from d (at + 1) n) (part d at h)
        (part d at h ++ part d h f) v.x ≡ begun'
    starts_as =
        ap (λ (y : Verdict). on_start y (name_from d (at + 1) n) (part d at h) (part d at h ++ part d h f) v.x) (sym (verdict_is ew))
        ∙ ap (λ (raw : List ℕ). on_start w (name_from d (at + 1) n) (part d at h) raw v.x) (part_join d at h f (omega arith) (omega arith))
        ∙ ap (λ (y : Name). on_start w y (part d at h) (part d at f) v.x) (sym (name_here d starts lens level (at + 1) n ls ll))

    -- a start tag
    pub going_tag : m ≡ false → Going list d own size o₀ (level + 1) true kept₁ r₁ f false o₁
    going_tag q =
        going_on v e fine (omega arith) inside begun' (opens m q) (makes m q)
        (mv.moves o₀ v.x (stands_own d starts lens level (at + 1) n order v.stands))
      where
        opens : (m : Bool) → m ≡ false
            → opening d own size (level + 1) true ≡ after_item d at (Start n h f m t) (opening d starts lens level rooted)
        opens true q = absurd (true-false q)
        opens false q = ap (λ (ns : List Name). record { names = ns; rooted = true }) (inner d starts lens level (at + 1) n ls ll)

        makes : (m : Bool) → m ≡ false → (ts : List Token) → runs judge (item_tokens d at (Start n h f m t) ts) v.x ≡ runs judge ts begun'
        makes true q ts = absurd (true-false q)
        makes false q ts = ap (runs judge ts) starts_as

    -- an empty tag is its own end
    module _ {kept₂ : Bool} {r₂ : Run} {o₂ : List ℕ} (order₂ : r₂.reached.0 ≤ level)
        (mf : Moves d own size (level + 1) kept₁ r₁ o₁ (on_finish (part d f f)) level kept₂ r₂ o₂) where
      pub going_empty : m ≡ true → Going list d starts lens o₀ level true kept₂ r₂ f false o₂
      going_empty q =
          going_on v e fine (omega arith) inside (on_finish (part d f f) begun') (opens m q) (makes m q)
          (stands_back d starts lens level (at + 1) n order₂
          (mf.moves o₀ begun' (mv.moves o₀ v.x (stands_own d starts lens level (at + 1) n order v.stands))))
        where
          nothing : part d f f ≡ []
          nothing = let z : f - f ≡ 0 = omega arith in rw z

          opens : (m : Bool) → m ≡ true
              → opening d starts lens level true ≡ after_item d at (Start n h f m t) (opening d starts lens level rooted)
          opens true q = refl
          opens false q = absurd (true-false (sym q))

          makes : (m : Bool) → m ≡ true
              → (ts : List Token) → runs judge (item_tokens d at (Start n h f m t) ts) v.x ≡ runs judge ts (on_finish (part d f f) begun')
          makes true q ts =
              ap (λ (y : Engine). runs judge ts (on_finish [] y)) starts_as
              ∙ ap (λ (raw : List ℕ). runs judge ts (on_finish raw begun')) (sym nothing)
          makes false q ts = absurd (true-false (sym q))

-- ---- behind its end the names around it are as they were

pub going_back : {list d o₀ : List ℕ} (starts lens : List ℕ) (level a n : ℕ) {rooted kept : Bool} {r : Run} {at : ℕ} {first : Bool}
    {o : List ℕ} → Going list d (set starts level a) (set lens level n) o₀ level rooted kept r at first o → r.reached.0 ≤ level
    → Going list d starts lens o₀ level rooted kept r at first o
going_back {d = d} starts lens level a n {rooted} {at = at} {first} v order =
    record {
      fuel = v.fuel;
      enough = v.enough;
      scans =
          sym
          (ap (λ (ns : List Name). scan_from v.fuel d at first (record { names = ns; rooted = rooted }))
          (around d starts lens level a n))
          ∙ v.scans;
      x = v.x;
      makes = v.makes;
      stands = stands_back d starts lens level a n order v.stands;
    }
