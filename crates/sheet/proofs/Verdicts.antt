-- The verdict on an element, and the state below it, by the state kept for its parent: the list's verdict on the names from the root down
-- to it and its attributes. The names that are open, the innermost first, are those by level.
use mathlib.Core.Path.{◌≡◌, refl, sym, ap, ap₂, ◌∙◌}
use mathlib.Core.Bool.{Bool, true, false}
use mathlib.Core.List.{List, [], ◌∷◌, ◌++◌}
use Prim.Native.Nat.{ℕ, zero, suc, ◌+◌, ◌-◌, ◌≤◌, ◌<◌}
use native.Mathlib.Nat.{zero-add}
use lib.ListN.{length, take, drop, get_or, set}
use Rattle.std.specs.Prelude.{Ok}
use Rattle.xml.specs.Forest.{Name, Tag}
use Rattle.paths.specs.Path.{Path}
use Rattle.paths.specs.Judge.{list_answer, list_paths}
use Rattle.tags.specs.Kept.{name_from}
use Rattle.document.specs.Levels.{names_of, deeper}
use Rattle.attributes.specs.Attribute.{Attribute}
use Rattle.attributes.specs.Held.{attributes_in, attributes_of}
use Rattle.attributes.proofs.Placed.{attributes_behind}
use Rattle.matcher.specs.Says.{verdict_of}
use Rattle.matcher.specs.Picked.{passing_of, picked_by}
use Rattle.matcher.specs.Fit.{fit_for}
use Rattle.matcher.specs.State.{deeper_of, verdict_by, selecting_by, state_of}
use Rattle.matcher.specs.declared.Verdict.{Verdict}
use Rattle.matcher.specs.declared.fit.Fit.{Fit}
use Rattle.matcher.specs.declared.state.MatchState.{MatchState}
use Rattle.matcher.proofs.Meaning.{verdict_told, unselected_told, untested_told}
use Rattle.trees.specs.Cut.{on}
use Rattle.trees.specs.Grown.{part, tag_of}
use Rattle.trees.specs.Written.{root_first, verdicts}
use Rattle.output.specs.Levels.{name_at, span}
use Rattle.passes.specs.ByTests.{ByTests, unselected, untested, tested}
use Rattle.passes.proofs.States.{none, above, Held, Stored, held_deeper, held_same, parent_is}

-- the names of the first levels, as the states and as the scan have them
span_names : (d starts lens : List ℕ) (k : ℕ) → span (name_at d starts lens) 0 k ≡ names_of d starts lens k
unfolding name_at
span_names d starts lens zero = refl
span_names d starts lens (suc k) =
    ap₂ (λ (n : Name) (ns : List Name). n ∷ ns)
    (ap (λ (i : ℕ). name_from d (get_or starts i 0) (get_or lens i 0)) (zero-add k))
    (span_names d starts lens k)

-- at no deeper level, or one deeper
pub by_deeper : (P : ℕ → Type 0) (empty : Bool) (l : ℕ) → P l → P (l + 1) → P (deeper empty l)
by_deeper P true l a c = a
by_deeper P false l a c = c

-- a tag at a place, whose name has n bytes and whose head ends at b and the tag at f; its parent's state, and the fit of its name
module _ (list : List ℕ) (sound : list_answer list ≡ Ok tt) {d starts lens : List ℕ} {states : List MatchState} {level : ℕ}
    (v : Held (list_paths list) states d starts lens level) (l : level < 64) {parent : MatchState} (ep : parent ≡ get_or states level none)
    (at n b f : ℕ) {fit : Fit} (ef : fit ≡ fit_for (list_paths list) (name_from d (at + 1) n)) where
  abbrev ps : List Path
  ps = list_paths list

  abbrev name : Name
  name = name_from d (at + 1) n

  abbrev tag : Tag
  tag = tag_of d at n b f

  abbrev state : MatchState
  state = state_of ps (above d starts lens level)

  state_is : parent ≡ state
  state_is = parent_is v l ep

  -- ---- the verdict

  abbrev pub TagVerdict : Verdict → Type 0
  TagVerdict w = w ≡ on (verdicts ps) tag (names_of d starts lens level)

  verdict_is : {w : Verdict} → w ≡ verdict_of ps (above d starts lens level ++ name ∷ []) (attributes_of tag) → TagVerdict w
  unfolding verdicts
  verdict_is ew =
      ew ∙ ap (λ (ns : List Name). verdict_of ps (root_first ns ++ name ∷ []) (attributes_of tag)) (span_names d starts lens level)

  -- the verdict of which no attribute is looked at
  plain_is : {w : Verdict} → w ≡ verdict_by parent fit → w ≡ verdict_by state (fit_for ps name)
  plain_is ew = ew ∙ ap₂ verdict_by state_is ef

  -- attributes that stand behind the name are those of the tag
  pub verdict_judged : at + 1 + n ≤ b → b ≤ length d → {w : Verdict}
      → ByTests ps (attributes_in 0 (take (b - (at + 1 + n)) (drop (at + 1 + n) d))) parent fit w → TagVerdict w
  verdict_judged h k (unselected ew eu) =
      verdict_is (plain_is ew
      ∙ unselected_told list sound (above d starts lens level) name (attributes_of tag) (sym (plain_is ew) ∙ eu))
  verdict_judged h k (untested ew u) =
      verdict_is (plain_is ew ∙ untested_told list sound (above d starts lens level) name (attributes_of tag) u)
  verdict_judged h k (tested ew) =
      let behind = attributes_behind d at n b h k (part d b f) in
      verdict_is (ew
      ∙ ap (λ (xs : List Attribute). picked_by fit (passing_of ps (selecting_by parent fit) xs)) (sym behind)
      ∙ ap₂ (λ (m : MatchState) (y : Fit). picked_by y (passing_of ps (selecting_by m y) (attributes_of tag))) state_is ef
      ∙ verdict_told list sound (above d starts lens level) name (attributes_of tag))

  -- ---- the state below

  abbrev pub TagStored : List MatchState → Type 0
  TagStored = Stored states level (deeper_of parent fit)

  pub held_next : level < length starts → level < length lens → length states ≡ 64 → {states' : List MatchState} → TagStored states'
      → (empty : Bool) → Held ps states' d (set starts level (at + 1)) (set lens level n) (deeper empty level)
  held_next hs hl ht {states'} et empty =
      let below : deeper_of parent fit ≡ deeper_of state (fit_for ps name) = ap₂ deeper_of state_is ef in
      by_deeper (Held ps states' d (set starts level (at + 1)) (set lens level n)) empty level
      (held_same v (at + 1) n hs hl ht below et)
      (held_deeper v (at + 1) n hs hl ht below et)
