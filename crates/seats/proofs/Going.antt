-- A client's way through the tags of a tape. What is kept true: from wherever a client stood, what it has come to after some items is a
-- pass in itself, and it stands behind them. Then a law for the items between two tags, which change nothing, for each way on and for the
-- way out; a tag that comes back from the tape is the one in the document (proofs/Images.antt), so the laws of a pass (proofs/Passing.antt
-- of the crate passes) serve for it.
use Rattle.std.specs.Prelude.{Ok}
use Rattle.document.proofs.Placing.{Unstarted}
use mathlib.Core.Path.{◌≡◌, refl, sym, ap, ap₂, subst, ◌∙◌}
use mathlib.Core.Bool.{Bool, true, false, cond}
use mathlib.Core.List.{List, [], ◌∷◌}
use mathlib.Core.Logic.{◌⊎◌, inl, inr, ⊎_elim}
use Prim.Native.Nat.{ℕ, zero, suc, ◌+◌, ◌-◌, ◌≤◌, ◌<◌}
use native.Mathlib.Nat.{eq-or-lt_of_le}
use native.Mathlib.Omega.{arith}
use lib.ListN.{length, take, drop, get_or, set, replicate}
use Rattle.paths.specs.Judge.{list_answer, list_paths}
use Rattle.tags.specs.declared.Item.{Item}
use Rattle.tags.specs.declared.Item.TheVariants.{Start}
use Rattle.items.specs.Inside.{Inside}
use Rattle.items.specs.Item.{item_at}
use Rattle.document.specs.Place.{Opened, placement, end_of, after_item}
use Rattle.document.specs.Levels.{opened_of, deeper, open_after, len_of}
use Rattle.document.specs.declared.Open.{Open}
use Rattle.document.specs.declared.Placement.TheVariants.{Fine}
use Rattle.document.proofs.After.{opened_after}
use Rattle.document.proofs.Placing.{names_long}
use Rattle.attributes.specs.Held.{attributes_in}
use Rattle.matcher.specs.Fit.{fit_for}
use Rattle.matcher.specs.State.{deeper_of, tests_by}
use Rattle.matcher.specs.declared.Verdict.{Verdict}
use Rattle.matcher.specs.declared.fit.Fit.{Fit}
use Rattle.matcher.specs.declared.state.MatchState.{MatchState}
use Rattle.recall.specs.Known.{unknown, Recalls}
use Rattle.recall.specs.declared.Known.{Known}
use Rattle.xml.specs.Forest.{Name}
use Rattle.tags.specs.Kept.{name_from}
use Rattle.trees.specs.Cut.{Judge, on}
use Rattle.trees.specs.Grown.{part, tag_of, item_tokens}
use Rattle.trees.specs.Engine.{Engine, kept_of, open_of, tallied, run as runs}
use Rattle.trees.specs.Written.{verdicts}
use Rattle.output.specs.Act.{on_tag, on_other, level_after}
use Rattle.output.specs.Levels.{name_at, Placed, Moves, within, entry_at as entry_from}
use Rattle.output.specs.declared.Run.{Run}
use Rattle.output.proofs.Steps.{open_is}
use Rattle.output.proofs.Outs.{other_step}
use Rattle.tape.specs.Tape.{entry_at, begin_at, tags_of, image_of}
use Rattle.tape.specs.Taped.{Spot, spot_of, item_of, next_of, behind, tags_in, Taped}
use Rattle.tape.proofs.Counting.{tags_more}
use Rattle.passes.specs.ByTests.{ByTests}
use Rattle.passes.proofs.Rests.{tag_makes, tag_sums, other_makes, other_sums}
use Rattle.passes.proofs.States.{none, Stored}
use Rattle.passes.proofs.Passing.{Passing, Written, pass_within, pass_inside, pass_placed}
use Rattle.passes.proofs.Passing.{pass_other, tag_level, tag_from, tag_to, tag_inside, tag_name, tag_behind, tag_head, tag_placed}
use Rattle.passes.proofs.Passing.{verdict_judged, pass_tag, counted_tests, level_other, opened_past, stands_kept, name_is, tests_are}
use Rattle.seats.specs.Standing.{Standing}
use Rattle.seats.specs.Made.{tokens_at, engine_after, kept_at, kept_after, starts_after}
use Rattle.seats.specs.Made.{lens_after, RunStands, Came}
use Rattle.seats.specs.Seated.{Seated, Begun, seat_spot}
use Rattle.seats.specs.Went.{Went}
use Rattle.seats.specs.declared.seat.Seat.{Seat}
use Rattle.seats.proofs.Images.{image_start, image_same, some_entry, aside_untagged, aside_unfinished, aside_opens, kept_other}
use Rattle.seats.proofs.Seating.{seated_passing, passing_seated}

-- from the seat s, with the names starts₀ and lens₀, the buffer o₁ and the log g₁, along the tape t: behind k items
pub record Going (counts : Bool) (list tb d t : List ℕ) (items tags : ℕ) (starts₀ lens₀ : List ℕ) (s : Seat) (o₁ g₁ : List ℕ)
    (states : List MatchState) (memo : List Known) (slots starts lens : List ℕ) (opened : Open) (run : Run) (at : ℕ) (first : Bool)
    (tests k : ℕ) (o g : List ℕ) : Type 0 where
  pub each : (o₀ : List ℕ) → Seated counts list d o₀ starts₀ lens₀ s o₁ g₁
      → Passing counts list tb d o₀ g₁ states memo slots starts lens opened run at first tests o g
  pub spot : spot_of d starts lens opened at first ≡ behind d (seat_spot d starts₀ lens₀ s) k
  pub came : (o₀ : List ℕ) (x : Engine) → RunStands d starts₀ lens₀ o₀ s.opened.level.0 s.at s.run o₁ g₁ x
      → Came (verdicts (list_paths list)) (counted_tests counts (list_paths list)) d (seat_spot d starts₀ lens₀ s) x s.tests
      s.run.kept k starts lens o₀ opened.level.0 at run tests o g
  pub starts_are : starts ≡ starts_after d (seat_spot d starts₀ lens₀ s) starts₀ k
  pub lens_are : lens ≡ lens_after d (seat_spot d starts₀ lens₀ s) lens₀ k
  pub turn : k ≤ items
  pub begun : Begun counts list d starts₀ lens₀ s o₁ g₁
  pub taped : Taped d t (seat_spot d starts₀ lens₀ s) items tags

-- behind k tags
pub record Gone (counts : Bool) (list tb d t : List ℕ) (items tags : ℕ) (starts₀ lens₀ : List ℕ) (s : Seat) (o₁ g₁ : List ℕ)
    (states : List MatchState) (memo : List Known) (slots starts lens : List ℕ) (opened : Open) (run : Run) (tests k : ℕ)
    (o g : List ℕ) : Type 0 where
  pub at : ℕ
  pub first : Bool
  pub read : ℕ
  pub told : tags_in d (seat_spot d starts₀ lens₀ s) read ≡ k
  pub going : Going counts list tb d t items tags starts₀ lens₀ s o₁ g₁ states memo slots starts lens opened run at first tests read o g

-- and at the next, which begins at the place `at`
pub record Turn (counts : Bool) (list tb d t : List ℕ) (items tags : ℕ) (starts₀ lens₀ : List ℕ) (s : Seat) (o₁ g₁ : List ℕ)
    (states : List MatchState) (memo : List Known) (slots starts lens : List ℕ) (opened : Open) (run : Run) (at tests k : ℕ)
    (o g : List ℕ) : Type 0 where
  pub first : Bool
  pub read : ℕ
  pub told : tags_in d (seat_spot d starts₀ lens₀ s) read ≡ k
  pub going : Going counts list tb d t items tags starts₀ lens₀ s o₁ g₁ states memo slots starts lens opened run at first tests read o g
  pub near : read < items
  pub tag : tags_of (item_of d (behind d (seat_spot d starts₀ lens₀ s) read)) ≡ 1

-- ---- the beginning

pub begun_placed : {counts : Bool} {list d starts lens : List ℕ} {s : Seat} {o g : List ℕ} → Begun counts list d starts lens s o g
    → Placed d starts lens s.opened.level.0
begun_placed b =
    let n = b.1.judging.names in
    record { deep = n.deep; starts_long = n.starts_long; lens_long = n.lens_long; inside = n.inside }

pub gone_start : {counts : Bool} {list d t : List ℕ} {items tags : ℕ} {starts lens : List ℕ} {s : Seat} {o g : List ℕ} (tb : List ℕ)
    → Begun counts list d starts lens s o g → Taped d t (seat_spot d starts lens s) items tags
    → {states : List MatchState} → Standing (list_paths list) states d starts lens s.opened.level.0 → {e : Known} → e ≡ unknown
    → Gone counts list tb d t items tags starts lens s o g states (replicate 64 e) (replicate 64 0) starts lens s.opened s.run
    s.tests 0 o g
gone_start {s = s} tb b p st u =
    record {
      at = s.at;
      first = s.first;
      read = 0;
      told = refl;
      going =
          record {
            each = λ o₀ v. seated_passing v st u tb;
            spot = refl;
            came = λ o₀ x v. record { stood = v; tried = refl; entry = refl };
            starts_are = refl;
            lens_are = refl;
            turn = omega arith;
            begun = b;
            taped = p;
          };
    }

-- ---- an item

-- inside a kept entry, and not
entry_within : (kept at : ℕ) → within (entry_from kept at) ≡ true
entry_within zero at = let z : at + 1 ≡ suc at = omega arith in rw z refl
entry_within (suc from) at = refl

entry_told : (kept at kept' : ℕ) {b : Bool} → b ≡ within kept' → (kept' ≡ 0) ⊎ (kept' ≡ entry_from kept at)
    → kept' ≡ cond b (entry_from kept at) 0
entry_told kept at kept' e (inl z) = rw (e, z) refl
entry_told kept at kept' e (inr z) = z ∙ ap (λ (x : Bool). cond x (entry_from kept at) 0) (sym (e ∙ ap within z ∙ entry_within kept at))

-- behind an item
abbrev later : ℕ → Opened → Spot
later a x = record { at = a; first = false; opened = x }

module _ {counts : Bool} {list tb d t : List ℕ} {items tags : ℕ} {starts₀ lens₀ : List ℕ} {s : Seat} {o₁ g₁ : List ℕ}
    {states : List MatchState} {memo : List Known} {slots starts lens : List ℕ} {opened : Open} {run : Run} {at : ℕ} {first : Bool}
    {tests k : ℕ} {o g : List ℕ}
    (w : Going counts list tb d t items tags starts₀ lens₀ s o₁ g₁ states memo slots starts lens opened run at first tests k o g) where
  -- where the client began; the list's verdicts, and the name tests at an element
  abbrev begins : Spot
  begins = seat_spot d starts₀ lens₀ s

  abbrev judge : Judge
  judge = verdicts (list_paths list)

  abbrev tested : List Name → ℕ
  tested = counted_tests counts (list_paths list)

  -- an engine that the client's run stood for at the beginning
  abbrev Begins : List ℕ → Engine → Type 0
  Begins o₀ x = RunStands d starts₀ lens₀ o₀ s.opened.level.0 s.at s.run o₁ g₁ x

  -- some pass
  abbrev pub going : Passing counts list tb d w.begun.0 g₁ states memo slots starts lens opened run at first tests o g
  going = w.each w.begun.0 w.begun.1

  module _ (l : k < items) where
    -- the item in the document
    abbrev here : Item
    here = item_at first d at

    pub going_fine : placement d at here (opened_of d starts lens opened) ≡ Fine
    going_fine =
        subst (λ (x : Spot). placement d x.at (item_of d x) x.opened ≡ Fine) (sym w.spot) (w.taped.fine k l)

    pub going_near : at < length d
    going_near = pass_within going refl refl going_fine

    pub going_placed : Placed d starts lens opened.level.0
    going_placed = pass_placed going refl refl going_fine

    -- one item more
    spot_next : (starts' lens' : List ℕ) (opened' : Open)
        → opened_of d starts' lens' opened' ≡ after_item d at here (opened_of d starts lens opened) → {n : ℕ} → n ≡ end_of at here
        → spot_of d starts' lens' opened' n false ≡ behind d begins (k + 1)
    spot_next starts' lens' opened' eo en =
        let z : suc k ≡ k + 1 = omega arith in
        ap₂ later en eo ∙ ap (next_of d) w.spot ∙ ap (behind d begins) z

    -- one name more is kept, or none
    level_is : length (behind d begins k).opened.names ≡ opened.level.0
    level_is =
        ap (λ (x : Spot). length x.opened.names) (sym w.spot) ∙ names_long d starts lens opened.level.0

    kept_next : (f : Spot → ℕ) (xs₀ : List ℕ) {xs : List ℕ} → xs ≡ kept_after f d begins xs₀ k
        → kept_at here opened.level.0 (f (spot_of d starts lens opened at first)) xs ≡ kept_after f d begins xs₀ (k + 1)
    kept_next f xs₀ e =
        let z : suc k ≡ k + 1 = omega arith in
        ap₂ (λ (ys : List ℕ) (x : Spot). kept_at (item_of d x) opened.level.0 (f x) ys) e w.spot
        ∙ ap (λ (j : ℕ). kept_at (item_of d (behind d begins k)) j (f (behind d begins k)) (kept_after f d begins xs₀ k)) (sym level_is)
        ∙ ap (kept_after f d begins xs₀) z

    -- what the items so far make of an engine
    abbrev far : Engine → Engine
    far x = engine_after judge d begins x k

    -- and the next, where that is told of its tokens
    came_next : {starts' lens' o₀ : List ℕ} {run' : Run} {level n tests' : ℕ} {o' g' : List ℕ} (x y : Engine)
        → Begins o₀ x
        → runs judge (item_tokens d at here []) (far x) ≡ y
        → tests + tallied tested (item_tokens d at here []) (open_of (far x)) ≡ tests'
        → RunStands d starts' lens' o₀ level n run' o' g' y
        → (run'.kept ≡ 0) ⊎ (run'.kept ≡ entry_from run.kept at)
        → Came judge tested d begins x s.tests
        s.run.kept (k + 1) starts' lens' o₀ level n run' tests' o' g'
    came_next {starts'} {lens'} {o₀} {run'} {level} {n} {tests'} {o'} {g'} x y v em et st en =
        let z : suc k ≡ k + 1 = omega arith in
        rw z at came
      where
        engine_is : runs judge (tokens_at d (behind d begins k)) (far x) ≡ y
        engine_is = ap (λ (p : Spot). runs judge (tokens_at d p) (far x)) (sym w.spot) ∙ em

        came : Came judge tested d begins x s.tests
            s.run.kept (suc k) starts' lens' o₀ level n run' tests' o' g'
        came =
            record {
              stood = rw engine_is st;
              tried =
                  sym et
                  ∙ ap₂ (λ (j : ℕ) (p : Spot). j + tallied tested (tokens_at d p) (open_of (far x))) (w.came o₀ x v).tried w.spot;
              entry =
                  entry_told run.kept at run'.kept (ap kept_of engine_is ∙ st.kept_is) en
                  ∙ ap₂ (λ (j : ℕ) (p : Spot). cond (kept_of (runs judge (tokens_at d (behind d begins k)) (far x)))
                  (entry_from j p.at) 0) (w.came o₀ x v).entry w.spot;
            }

    -- ---- an item that is no start tag and no empty tag

    pub going_inside : Inside d at here
    going_inside = pass_inside going refl refl going_fine

    pub going_other : Unstarted here → {run' : Run} {o' g' : List ℕ}
        → Moves d starts lens opened.level.0 at run o g (on_other d at here) 1 (level_after here opened.level.0)
        (end_of at here) run' o' g'
        → {opened' : Open} → opened' ≡ open_after here opened → {n : ℕ} → n ≡ end_of at here
        → Going counts list tb d t items tags starts₀ lens₀ s o₁ g₁ states memo slots starts lens opened' run' n false tests (k + 1) o' g'
    going_other kind {run'} {o'} {g'} m {opened'} eo {n} en =
        record {
          each = λ o₀ b. pass_other (w.each o₀ b) refl refl going_fine kind m eo en;
          spot = spot_next starts lens opened' (rw eo (opened_past d starts lens at opened here kind)) en;
          came = λ o₀ x v. came_next x (on_other d at here (far x)) v (made x) (summed x) (stands o₀ x v) m.entry;
          starts_are =
              kept_other here kind opened.level.0 (at + 1) starts
              ∙ kept_next (λ (p : Spot). p.at + 1) starts₀ w.starts_are;
          lens_are =
              kept_other here kind opened.level.0 (len_of here) lens
              ∙ kept_next (λ (p : Spot). len_of (item_of d p)) lens₀ w.lens_are;
          turn = omega arith;
          begun = w.begun;
          taped = w.taped;
        }
      where
        made : (x : Engine) → runs judge (item_tokens d at here []) (far x) ≡ on_other d at here (far x)
        made x = other_makes d at (opened_of d starts lens opened) (far x) judge here going_fine kind []

        summed : (x : Engine) → tests + tallied tested (item_tokens d at here []) (open_of (far x)) ≡ tests
        summed x =
            let z = other_sums d at (opened_of d starts lens opened) (far x) tested tests here going_fine kind [] in
            omega (arith, z)

        level_next : level_after here opened.level.0 ≡ opened'.level.0
        level_next = level_other here opened kind ∙ ap (λ (y : Open). y.level.0) (sym eo)

        stands : (o₀ : List ℕ) (x : Engine) → Begins o₀ x
            → RunStands d starts lens o₀ opened'.level.0 n run' o' g' (on_other d at here (far x))
        stands o₀ x v = rw (en, ← level_next) (m.moves o₀ (far x) (w.came o₀ x v).stood)

    -- one that is no tag changes nothing
    pub going_aside : tags_of here ≡ 0
        → Going counts list tb d t items tags starts₀ lens₀ s o₁ g₁ states memo slots starts lens opened run (end_of at here) false tests
        (k + 1) o g
    going_aside q =
        going_other (aside_untagged here q)
        (other_step at going.order here (aside_unfinished here q) going_inside going.judging.within)
        (aside_opens here opened q) refl

    -- ---- a start tag or empty tag

    module _ {n b f : ℕ} {m twice : Bool} (tag : here ≡ Start n b f m twice) where
      pub going_level : opened.level.0 < 64
      going_level = tag_level going refl refl going_fine tag

      pub going_from : at ≤ b
      going_from = tag_from going refl refl going_fine tag

      pub going_to : b ≤ f
      going_to = tag_to going refl refl going_fine tag

      pub going_end : f ≤ length d
      going_end = tag_inside going refl refl going_fine tag

      pub going_name : at + 1 + n ≤ length d
      going_name = tag_name going refl refl going_fine tag

      pub going_behind : at + 1 + n ≤ b
      going_behind = tag_behind going refl refl going_fine tag

      pub going_head : b ≤ length d
      going_head = tag_head going refl refl going_fine tag

      module _ {starts' lens' : List ℕ} (es : starts' ≡ set starts opened.level.0 (at + 1))
          (el : lens' ≡ set lens opened.level.0 n) where
        pub going_deeper : Placed d starts' lens' (opened.level.0 + 1)
        going_deeper = tag_placed going refl refl going_fine tag es el

        pub going_tag : list_answer list ≡ Ok tt → {parent : MatchState} → parent ≡ get_or states opened.level.0 none
            → {fit : Fit} → fit ≡ fit_for (list_paths list) (part d (at + 1) (at + 1 + n))
            → {verdict : Verdict}
            → ByTests (list_paths list) (attributes_in 0 (take (b - (at + 1 + n)) (drop (at + 1 + n) d))) parent fit verdict
            → {states' : List MatchState} → Stored states opened.level.0 (deeper_of parent fit) states'
            → {memo' : List Known} (slot : ℕ) {y : Known} → memo' ≡ set memo slot y → Recalls counts tb y
            → {slots' : List ℕ} → Written slots slots'
            → {tried : ℕ} → (tried ≡ cond counts (tests_by parent fit) 0) × (tried ≤ 512) → {run' : Run} {o' g' : List ℕ}
            → Moves d starts' lens' opened.level.0 at run o g
            (on_tag verdict (name_at d starts' lens' opened.level.0) (part d at b) (part d at f) m) 2 (deeper m opened.level.0)
            f run' o' g'
            → {opened' : Open} → opened' ≡ open_after (Start n b f m false) opened
            → Going counts list tb d t items tags starts₀ lens₀ s o₁ g₁ states' memo' slots' starts' lens' opened' run' f false
            (tests + tried) (k + 1) o' g'
        going_tag sound {parent} ep {fit} ef {verdict} by st slot em er ws {tried} et {run'} {o'} {g'} mv {opened'} eo =
            record {
              each = λ o₀ x.
                  let p = w.each o₀ x in
                  pass_tag p refl refl going_fine tag es el sound ep ef
                  (verdict_judged p refl refl going_fine tag es el sound ep ef by) st slot em er ws et mv eo;
              came = λ o₀ x v.
                  came_next x (on_tag verdict (name_from d (at + 1) n) (part d at b) (part d at f) m (far x)) v (made o₀ x v)
                  (summed o₀ x v) (stands o₀ x v) mv.entry;
              starts_are =
                  es
                  ∙ sym (ap (λ (j : Item). kept_at j opened.level.0 (at + 1) starts) tag)
                  ∙ kept_next (λ (p : Spot). p.at + 1) starts₀ w.starts_are;
              lens_are =
                  el
                  ∙ sym (ap (λ (j : Item). kept_at j opened.level.0 (len_of j) lens) tag)
                  ∙ kept_next (λ (p : Spot). len_of (item_of d p)) lens₀ w.lens_are;
              spot =
                  spot_next starts' lens' opened' opened_is (sym (ap (end_of at) tag));
              turn = omega arith;
              begun = w.begun;
              taped = w.taped;
            }
          where
            opened_is : opened_of d starts' lens' opened' ≡ after_item d at here (opened_of d starts lens opened)
            opened_is =
                let l : lens' ≡ set lens opened.level.0 (len_of here) =
                el ∙ ap (λ (j : Item). set lens opened.level.0 (len_of j)) (sym tag) in
                let p : opened' ≡ open_after here opened = eo ∙ sym (ap (λ (j : Item). open_after j opened) tag) in
                rw (es, l, p) (opened_after going.judging.names at here going_fine)

            -- the names that are open are the same, whatever engine the run stands for
            opens_are : (o₀ : List ℕ) (x : Engine) → Begins o₀ x → open_of going.x ≡ open_of (far x)
            opens_are o₀ x v = open_is going.stands going.order ∙ sym (open_is (w.came o₀ x v).stood going.order)

            verdict_is : (o₀ : List ℕ) (x : Engine) → Begins o₀ x
                → verdict ≡ on judge (tag_of d at n b f) (open_of (far x))
            verdict_is o₀ x v =
                verdict_judged going refl refl going_fine tag es el sound ep ef by
                ∙ ap (on judge (tag_of d at n b f)) (opens_are o₀ x v)

            made : (o₀ : List ℕ) (x : Engine) → Begins o₀ x
                → runs judge (item_tokens d at here []) (far x)
                ≡ on_tag verdict (name_from d (at + 1) n) (part d at b) (part d at f) m (far x)
            made o₀ x v =
                ap (λ (j : Item). runs judge (item_tokens d at j []) (far x)) tag
                ∙ tag_makes judge d at n b f twice (far x) going_from going_to m []
                ∙ ap (λ (y : Verdict). on_tag y (name_from d (at + 1) n) (part d at b) (part d at f) m (far x)) (sym (verdict_is o₀ x v))

            summed : (o₀ : List ℕ) (x : Engine) → Begins o₀ x
                → tests + tallied tested (item_tokens d at here []) (open_of (far x)) ≡ tests + tried
            summed o₀ x v =
                let z = tag_sums judge d at n b f twice (far x) going_from going_to
                tested tests m [] in
                let y = tests_are going refl refl going_fine tag es el sound ep ef et.0
                ∙ ap (λ (ns : List Name). tested (name_from d (at + 1) n ∷ ns)) (opens_are o₀ x v) in
                ap (λ (j : Item). tests + tallied tested (item_tokens d at j []) (open_of (far x))) tag
                ∙ omega (arith, z, y)

            level_next : deeper m opened.level.0 ≡ opened'.level.0
            level_next = ap (λ (y : Open). y.level.0) (sym eo)

            stands : (o₀ : List ℕ) (x : Engine) → Begins o₀ x
                → RunStands d starts' lens' o₀ opened'.level.0 f run' o' g'
                (on_tag verdict (name_from d (at + 1) n) (part d at b) (part d at f) m (far x))
            stands o₀ x v =
                rw (name_is going refl refl going_fine tag es el, level_next) at
                (mv.moves o₀ (far x)
                (rw (es, el) (stands_kept going.order (w.came o₀ x v).stood (at + 1) n)))

-- ---- the next tag, and the way out

module _ {counts : Bool} {list tb d t : List ℕ} {items tags : ℕ} {starts₀ lens₀ : List ℕ} {s : Seat} {o₁ g₁ : List ℕ}
    {states : List MatchState} {memo : List Known} {slots starts lens : List ℕ} {opened : Open} {run : Run} {tests : ℕ} {o g : List ℕ} where
  -- behind k items, of which the next is a tag or none
  module _ {at : ℕ} {first : Bool} {k : ℕ}
      (w : Going counts list tb d t items tags starts₀ lens₀ s o₁ g₁ states memo slots starts lens opened run at first tests k
      o g) where
    entries_are : tags_of (item_at first d at) ≡ tags_of (item_of d (behind d (seat_spot d starts₀ lens₀ s) k))
    entries_are = ap (λ (x : Spot). tags_of (item_of d x)) w.spot

    tags_next : {n : ℕ} → tags_of (item_of d (behind d (seat_spot d starts₀ lens₀ s) k)) ≡ n
        → tags_in d (seat_spot d starts₀ lens₀ s) (k + 1) ≡ tags_in d (seat_spot d starts₀ lens₀ s) k + n
    tags_next q =
        let z : suc k ≡ k + 1 = omega arith in
        sym (ap (tags_in d (seat_spot d starts₀ lens₀ s)) z) ∙ ap (λ (x : ℕ). tags_in d (seat_spot d starts₀ lens₀ s) k + x) q

    -- all items are read
    tags_all : k ≡ items → tags_in d (seat_spot d starts₀ lens₀ s) k ≡ tags
    tags_all z = ap (tags_in d (seat_spot d starts₀ lens₀ s)) z ∙ sym w.taped.count

    -- the next is the tag of entry j
    found : {j : ℕ} → tags_in d (seat_spot d starts₀ lens₀ s) k ≡ j → {at' : ℕ} → at' ≡ begin_at t j → k < items
        → tags_of (item_of d (behind d (seat_spot d starts₀ lens₀ s) k)) ≡ 1
        → Turn counts list tb d t items tags starts₀ lens₀ s o₁ g₁ states memo slots starts lens opened run at' tests j o g
    found q {at'} e near tag =
        let z : at ≡ at' =
        ap (λ (x : Spot). x.at) w.spot
        ∙ sym (w.taped.begins k near tag)
        ∙ ap (begin_at t) q
        ∙ sym e in
        record {
          first = first;
          read = k;
          told = q;
          going =
              subst
              (λ (x : ℕ). Going counts list tb d t items tags starts₀ lens₀ s o₁ g₁ states memo slots starts lens opened run x first
              tests k o g) z w;
          near = near;
          tag = tag;
        }

    -- all items are read
    ended : k ≡ items → {to : ℕ} → (behind d (seat_spot d starts₀ lens₀ s) items).at ≡ to → {first' : Bool}
        → (behind d (seat_spot d starts₀ lens₀ s) items).first ≡ first'
        → Going counts list tb d t items tags starts₀ lens₀ s o₁ g₁ states memo slots starts lens opened run to first' tests items o g
    ended z {to} e {first'} b =
        let p : spot_of d starts lens opened at first ≡ behind d (seat_spot d starts₀ lens₀ s) items =
        w.spot ∙ ap (behind d (seat_spot d starts₀ lens₀ s)) z in
        let y : at ≡ to = ap (λ (x : Spot). x.at) p ∙ e in
        let c : first ≡ first' = ap (λ (x : Spot). x.first) p ∙ b in
        rw (z, y, c) at w

  seek : (n k : ℕ) {a : ℕ} {f : Bool} → items ≤ k + n
      → Going counts list tb d t items tags starts₀ lens₀ s o₁ g₁ states memo slots starts lens opened run a f tests k o g
      → {j : ℕ} → tags_in d (seat_spot d starts₀ lens₀ s) k ≡ j → j < tags → {at : ℕ} → at ≡ begin_at t j
      → Turn counts list tb d t items tags starts₀ lens₀ s o₁ g₁ states memo slots starts lens opened run at tests j o g
  seek zero k h w q l e =
      let y = tags_all w (omega (arith, w.turn)) in
      absurd (omega (arith, y, q))
  seek (suc n) k h w q l e =
      ⊎_elim
      (λ z.
      let y = tags_all w z in
      absurd (omega (arith, y, q)))
      (λ near.
      ⊎_elim
      (found w q e near)
      (λ none. seek n (k + 1) (omega arith) (going_aside w near (entries_are w ∙ none)) (omega (arith, tags_next w none, q)) l e)
      (some_entry (item_of d (behind d (seat_spot d starts₀ lens₀ s) k))))
      (eq-or-lt_of_le w.turn)

  pub turn : {j : ℕ} → Gone counts list tb d t items tags starts₀ lens₀ s o₁ g₁ states memo slots starts lens opened run tests j o g
      → j < tags → {at : ℕ} → at ≡ begin_at t j
      → Turn counts list tb d t items tags starts₀ lens₀ s o₁ g₁ states memo slots starts lens opened run at tests j o g
  turn v l e = seek items v.read (omega arith) v.going v.told l e

  -- behind all tags, and all items
  finish : (n k : ℕ) {a : ℕ} {f : Bool} → items ≤ k + n
      → Going counts list tb d t items tags starts₀ lens₀ s o₁ g₁ states memo slots starts lens opened run a f tests k o g
      → tags ≤ tags_in d (seat_spot d starts₀ lens₀ s) k → {to : ℕ} → (behind d (seat_spot d starts₀ lens₀ s) items).at ≡ to
      → {first : Bool}
      → (behind d (seat_spot d starts₀ lens₀ s) items).first ≡ first
      → Going counts list tb d t items tags starts₀ lens₀ s o₁ g₁ states memo slots starts lens opened run to first tests items o g
  finish zero k h w q e b = ended w (omega (arith, w.turn)) e b
  finish (suc n) k h w q e b =
      ⊎_elim
      (λ z. ended w z e b)
      (λ near.
      ⊎_elim
      (λ tag.
      let more = tags_more d (seat_spot d starts₀ lens₀ s) (k + 1) items (omega arith) in
      absurd (omega (arith, tags_next w tag, more, w.taped.count, q)))
      (λ none. finish n (k + 1) (omega arith) (going_aside w near (entries_are w ∙ none)) (omega (arith, tags_next w none, q)) e b)
      (some_entry (item_of d (behind d (seat_spot d starts₀ lens₀ s) k))))
      (eq-or-lt_of_le w.turn)

  pub gone_over : {j : ℕ} → Gone counts list tb d t items tags starts₀ lens₀ s o₁ g₁ states memo slots starts lens opened run tests j o g
      → tags ≤ j → {to : ℕ} → (behind d (seat_spot d starts₀ lens₀ s) items).at ≡ to → {first : Bool}
      → (behind d (seat_spot d starts₀ lens₀ s) items).first ≡ first
      → Went counts list d starts₀ lens₀ s o₁ g₁ items starts lens
      (record { run = run; opened = opened; at = to; first = first; tests = tests }) o g
  gone_over v l e b =
      let w = finish items v.read (omega arith) v.going (omega (arith, v.told)) e b in
      record {
        seated = λ o₀ x. passing_seated (w.each o₀ x);
        spot = w.spot;
        came = w.came;
        starts_are = w.starts_are;
        lens_are = w.lens_are;
        room = (going w).room ∙ sym w.begun.1.room;
        log_room = (going w).log_room;
      }

-- ---- a turn

module _ {counts : Bool} {list tb d t : List ℕ} {items tags : ℕ} {starts₀ lens₀ : List ℕ} {s : Seat} {o₁ g₁ : List ℕ}
    {states : List MatchState} {memo : List Known} {slots starts lens : List ℕ} {opened : Open} {run : Run} {at tests k : ℕ} {o g : List ℕ}
    (u : Turn counts list tb d t items tags starts₀ lens₀ s o₁ g₁ states memo slots starts lens opened run at tests k o g) where
  -- the tag in the document
  abbrev met : Item
  met = item_at u.first d at

  -- one tag more
  pub turn_on : {states' : List MatchState} {memo' : List Known} {slots' starts' lens' : List ℕ} {opened' : Open} {run' : Run}
      {n tests' : ℕ} {o' g' : List ℕ}
      → Going counts list tb d t items tags starts₀ lens₀ s o₁ g₁ states' memo' slots' starts' lens' opened' run' n false tests'
      (u.read + 1) o' g'
      → Gone counts list tb d t items tags starts₀ lens₀ s o₁ g₁ states' memo' slots' starts' lens' opened' run' tests' (k + 1) o' g'
  turn_on {n = n} w =
      record {
        at = n;
        first = false;
        read = u.read + 1;
        told = omega (arith, tags_next u.going u.tag, u.told);
        going = w;
      }

  module _ {next : Item} (e : next ≡ entry_at t k) where
    image : next ≡ image_of met
    image =
        e
        ∙ ap (entry_at t) (sym u.told)
        ∙ u.going.taped.kept u.read u.near u.tag
        ∙ sym (ap (λ (x : Spot). image_of (item_of d x)) u.going.spot)

    pub turn_start : {n b f : ℕ} {m c : Bool} → next ≡ Start n b f m c → (w : Bool) × (met ≡ Start n b f m w)
    turn_start q = image_start met (sym image ∙ q)

    module _ (h : Unstarted next) where
      same : next ≡ met
      same = image ∙ image_same met (rw image at h)

      pub turn_inside : Inside d at next
      turn_inside = rw same (going_inside u.going u.near)

      pub turn_other : {run' : Run} {o' g' : List ℕ}
          → Moves d starts lens opened.level.0 at run o g (on_other d at next) 1 (level_after next opened.level.0)
          (end_of at next) run' o' g'
          → {opened' : Open} → opened' ≡ open_after next opened
          → Gone counts list tb d t items tags starts₀ lens₀ s o₁ g₁ states memo slots starts lens opened' run' tests (k + 1) o' g'
      turn_other m eo =
          turn_on
          (going_other u.going u.near (rw same at h) (rw same at m) (eo ∙ ap (λ (j : Item). open_after j opened) same) refl)
