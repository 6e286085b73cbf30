-- The pass over the items. The invariant: the code's state stands for an engine from which the rest of the pass comes to what it comes to
-- from the start; the scan of the document does too. Then a law for each way on and each way out.
use Rattle.std.specs.Prelude.{Ok, Err}
use Rattle.document.proofs.Placing.{Unstarted}
use mathlib.Core.Path.{◌≡◌, refl, sym, ap, ap₂, ◌∙◌}
use mathlib.Core.Bool.{Bool, true, false, cond, not, true≢false}
use mathlib.Core.List.{List, [], ◌∷◌, ◌++◌}
use mathlib.Core.Logic.{◌⊎◌, inl, inr, ⊎_elim}
use Prim.Native.Nat.{ℕ, zero, suc, ◌+◌, ◌-◌, ◌*◌, ◌≤◌, ◌<◌}
use native.Mathlib.Nat.{zero-add, eq-or-lt_of_le}
use native.Mathlib.Omega.{arith}
use borrow.Author.Tests.{eqb-true, eqb-false}
use mir.Syntax.{w64}
use mir.Val.{Fits}
use lib.Dec.{eqb}
use lib.ListN.{length, take, drop, get_or, set, length-set, replicate, length-replicate}
use lib.Seq.{sets, set-get_or, get_or-set_same, get_or-set_other}
use Rattle.paths.specs.Path.{Path}
use Rattle.paths.specs.Judge.{list_answer, list_paths}
use Rattle.items.specs.Inside.{Inside}
use Rattle.items.specs.Item.{item_at}
use Rattle.tags.specs.Kept.{name_from}
use Rattle.tags.specs.declared.Item.{Item}
use Rattle.tags.specs.declared.Item.TheVariants.{Declaration, Instruction, Comment, Section, Reference, Text, Start, Finish}
use Rattle.tags.specs.declared.Item.TheVariants.{Doctype, Malformed, TooLarge, Nothing}
use Rattle.document.specs.Place.{placement, closed, after_item, end_of}
use Rattle.document.specs.Levels.{names_of, opened_of, Names, deeper, open_after, len_of}
use Rattle.document.specs.Judge.{start_of, scanned}
use Rattle.document.specs.declared.Open.{Open}
use Rattle.document.specs.declared.Placement.{Placement}
use Rattle.document.specs.declared.Placement.TheVariants.{Fine, Fault as Faulty, Over}
use Rattle.document.specs.declared.Why.{Why}
use Rattle.document.proofs.After.{start_room}
use Rattle.document.proofs.Judging.{Judging, judge_start, judge_fault, judge_over, judge_on, fine_ahead, scan_inside, scan_less, scan_on}
use Rattle.attributes.specs.Attribute.{Attribute}
use Rattle.attributes.specs.Held.{attributes_in, attributes_of}
use Rattle.attributes.proofs.Placed.{attributes_behind}
use Rattle.matcher.specs.Says.{verdict_of}
use Rattle.matcher.specs.Picked.{passing_of, picked_by, Untested}
use Rattle.matcher.specs.Fit.{fit_for, fit_at}
use Rattle.matcher.specs.State.{fresh_state, deeper_of, verdict_by, selecting_by, state_of, tests_by}
use Rattle.matcher.specs.declared.Verdict.{Verdict}
use Rattle.matcher.specs.declared.Verdict.TheVariants.{Unselected}
use Rattle.matcher.specs.declared.fit.Fit.{Fit}
use Rattle.matcher.specs.declared.state.MatchState.{MatchState}
use Rattle.matcher.proofs.Meaning.{verdict_told, unselected_told, untested_told}
use Rattle.recall.specs.Known.{is_of, known_of, unknown, Recalls, nothing, something}
use Rattle.recall.specs.declared.Known.{Known}
use Rattle.recall.proofs.Knowing.{recalled}
use Rattle.xml.specs.Forest.{Name, Tag}
use Rattle.trees.specs.Cut.{on}
use Rattle.trees.specs.Grown.{Token, start, finish, aside, part, tag_of, tokens_of}
use Rattle.notes.specs.Notes.{Stood}
use Rattle.notes.proofs.Making.{stood_none}
use Rattle.trees.specs.Engine.{Engine, engine, begun, open_of, outer, tallied, run as runs}
use Rattle.trees.specs.Written.{root_first, verdicts, cut_of, count_of, name_tests, tests_of}
use Rattle.trees.proofs.Told.{run_cut, run_tests}
use Rattle.passes.specs.ByTests.{ByTests, unselected, untested, tested}
use Rattle.output.specs.Act.{on_tag, on_other, level_after}
use Rattle.output.specs.Levels.{name_at, Placed, Stands, Moves, Ready}
use Rattle.output.specs.declared.Run.{Run}
use Rattle.output.proofs.Chains.{name_part}
use Rattle.output.proofs.Steps.{open_is, out_laid, kept_none}
use Rattle.passes.specs.Opens.{Opens}
use Rattle.passes.specs.Passed.{PassedBy}
use Rattle.quick.proofs.Opened.{start_named}
use Rattle.passes.proofs.Telling.{opens_none, opens_kept, opens_more}
use Rattle.passes.proofs.Rests.{Rest, rest_start, rest_over, sum_over, rest_tag, rest_other}
use Rattle.passes.proofs.States.{none, above, Held, Stored, name_here, span_below, held_start, held_deeper, held_same}
use Rattle.passes.proofs.States.{parent_is, stored_long}

-- ---- what is known of elements, and the name tests

-- no entry
abbrev pub blank : Known
blank = record { row = 0; parent = none; below = none; verdict = Unselected; tests = 0 }

unknown-row : {e : Known} → e ≡ unknown → 512 < e.row
unfolding unknown
unknown-row {e} u = let z : e.row ≡ 513 = ap (λ (x : Known). x.row) u in omega (arith, z)

pub recalls_none : (counts : Bool) (tb : List ℕ) {e : Known} → e ≡ unknown → (n i : ℕ) → i < length (replicate n e)
    → Recalls counts tb (get_or (replicate n e) i blank)
recalls_none counts tb u zero i l = absurd (omega arith)
recalls_none counts tb u (suc n) zero l = nothing (unknown-row u)
recalls_none counts tb u (suc n) (suc i) l = recalls_none counts tb u n i (omega arith)

-- what is known of an element is kept in place of another
pub recalls_set : {counts : Bool} {tb : List ℕ} (memo : List Known) → ((i : ℕ) → i < length memo → Recalls counts tb (get_or memo i blank))
    → (slot : ℕ) {e : Known} → Recalls counts tb e → (i : ℕ) → i < length (set memo slot e)
    → Recalls counts tb (get_or (set memo slot e) i blank)
recalls_set {counts} {tb} memo v slot {e} r i l = decided (eqb i slot) refl
  where
    inside : i < length memo
    inside = omega (arith, l, length-set memo slot e)

    decided : (b : Bool) → eqb i slot ≡ b → Recalls counts tb (get_or (set memo slot e) i blank)
    decided true q =
        let z : i ≡ slot = eqb-true i slot q in
        rw (z, get_or-set_same memo slot e blank (omega (arith, inside, z))) r
    decided false q = rw (get_or-set_other memo slot i e blank (eqb-false i slot q)) (v i inside)

-- what is known of an element of the row k below the state m is kept at a place: it was there, or is made anew and stored there
abbrev pub Remembered : Bool → List ℕ → ℕ → MatchState → List Known → ℕ → List Known → Type 0
Remembered counts tb k m memo slot memo' =
    (memo' ≡ set memo slot (get_or memo' slot blank)) × (get_or memo' slot blank ≡ known_of counts tb k m)
    × ((get_or memo' slot blank).tests ≤ 512) × (length memo' ≡ length memo)

pub kept_there : {slot long : ℕ} → slot < 64 → long ≡ 64 → slot < long
kept_there l e = omega (arith, l, e)

not-not : (b : Bool) → not b ≡ false → b ≡ true
not-not true e = refl
not-not false e = absurd (true≢false e)

pub known_there : {counts : Bool} {tb : List ℕ} (memo : List Known)
    → ((i : ℕ) → i < length memo → Recalls counts tb (get_or memo i blank))
    → (slot : ℕ) → slot < length memo → {k : ℕ} → k ≤ 512 → (m : MatchState)
    → {b : Bool} → b ≡ is_of (get_or memo slot blank) k m → b ≡ true → {memo' : List Known} → memo' ≡ memo
    → Remembered counts tb k m memo slot memo'
known_there memo v slot l few m {b} s y e =
    let w = recalled (v slot l) few m s y in
    rw e (sym (set-get_or memo slot blank), w.0, w.1, refl)

pub known_stored : (counts : Bool) (tb : List ℕ) (k : ℕ) (m : MatchState) (memo : List Known) (slot : ℕ) → slot < length memo → {y : Known}
    → (y ≡ known_of counts tb k m) × (y.tests ≤ 512) → {memo' : List Known} → memo' ≡ set memo slot y
    → Remembered counts tb k m memo slot memo'
known_stored counts tb k m memo slot l {y} w e =
    let g : get_or (set memo slot y) slot blank ≡ y = get_or-set_same memo slot y blank l in
    rw e (rw g refl, g ∙ w.0, rw g w.1, length-set memo slot y)

-- one number is stored, or none is
abbrev pub Written : List ℕ → List ℕ → Type 0
Written xs ys = ((i : ℕ) × (y : ℕ) × (ys ≡ set xs i y)) ⊎ (ys ≡ xs)

written_long : {xs ys : List ℕ} → Written xs ys → length ys ≡ length xs
written_long {xs} (inl (i, y, e)) = ap length e ∙ length-set xs i y
written_long (inr e) = ap length e

-- what is known of a row and a state is what may be kept
pub known_recalls : (counts : Bool) (tb : List ℕ) (k : ℕ) (m : MatchState) {e : Known} → (e ≡ known_of counts tb k m) × (e.tests ≤ 512)
    → Recalls counts tb e
unfolding known_of
known_recalls counts tb k m q =
    let z = q.0 in
    something
    (z ∙ ap₂ (known_of counts tb) (sym (ap (λ (x : Known). x.row) z)) (sym (ap (λ (x : Known). x.parent) z)))
    q.1

pub tests_told : (counts : Bool) (tb : List ℕ) (k : ℕ) (m : MatchState) {e : Known} → (e ≡ known_of counts tb k m) × (e.tests ≤ 512)
    → (e.tests ≡ cond counts (tests_by m (fit_at tb k)) 0) × (e.tests ≤ 512)
unfolding known_of
tests_told counts tb k m q = (ap (λ (x : Known). x.tests) q.0, q.1)

pub below_told : (counts : Bool) (tb : List ℕ) (k : ℕ) (m : MatchState) {e : Known} → (e ≡ known_of counts tb k m) × (e.tests ≤ 512)
    → e.below ≡ deeper_of m (fit_at tb k)
unfolding known_of
below_told counts tb k m q = ap (λ (x : Known). x.below) q.0

pub verdict_told_by : (counts : Bool) (tb : List ℕ) (k : ℕ) (m : MatchState) {e : Known} → (e ≡ known_of counts tb k m) × (e.tests ≤ 512)
    → e.verdict ≡ verdict_by m (fit_at tb k)
unfolding known_of
verdict_told_by counts tb k m q = ap (λ (x : Known). x.verdict) q.0

-- a sum of nothing
none_tallied : (ts : List Token) (up : List Name) → tallied (λ (ns : List Name). 0) ts up ≡ 0
none_tallied [] up = refl
none_tallied (start t ∷ ts) up = zero-add (tallied (λ (ns : List Name). 0) ts (t.name ∷ up)) ∙ none_tallied ts (t.name ∷ up)
none_tallied (finish raw ∷ ts) up = none_tallied ts (outer up)
none_tallied (aside raw ∷ ts) up = none_tallied ts up

-- the name tests at the element of these names, where they are counted
abbrev pub counted_tests : Bool → List Path → List Name → ℕ
counted_tests counts ps ns = cond counts (name_tests ps ns) 0

counted_tests_lem : (counts : Bool) (list d : List ℕ) → scanned d ≡ Ok tt
    → tallied (counted_tests counts (list_paths list)) (tokens_of d) [] ≡ cond counts (tests_of list d) 0
counted_tests_lem true list d e = run_tests list d e
counted_tests_lem false list d e = none_tallied (tokens_of d) []

pub record Passing (counts : Bool) (list tb d o₀ g₀ : List ℕ) (states : List MatchState) (memo : List Known) (slots starts lens : List ℕ)
    (opened : Open) (run : Run) (at : ℕ) (first : Bool) (tests : ℕ) (o g : List ℕ) : Type 0 where
  pub judging : Judging d starts lens opened at first
  pub x : Engine
  pub rest : Rest (verdicts (list_paths list)) (counted_tests counts (list_paths list)) d at first x tests
  pub stands : Stands d starts lens o₀ opened.level.0 run.reached.0 run.kept at run.len run.count run.noted o g x
  pub held : Held (list_paths list) states d starts lens opened.level.0
  pub opens : Opens d starts lens opened.level.0
  pub order : run.reached.0 ≤ opened.level.0
  pub far : run.len ≤ at * 4294967296
  pub few : run.count ≤ at * 2
  pub many : tests ≤ at * 512
  pub long : length states ≡ 64
  pub recalls : (i : ℕ) → i < length memo → Recalls counts tb (get_or memo i blank)
  pub memo_long : length memo ≡ 64
  pub slots_long : length slots ≡ 64
  pub room : length o ≡ length o₀
  pub log_room : length g ≡ length g₀

pub pass_start : (counts : Bool) (list tb d o g : List ℕ) {m : MatchState} {e : Known} {opened : Open} {run : Run} {at : ℕ}
    → opened ≡ record { level = record { 0 = 0 }; rooted = false }
    → run ≡ record { reached = record { 0 = 0 }; kept = 0; len = 0; count = 0; noted = 0 }
    → at ≡ start_of d
    → m ≡ fresh_state
    → e ≡ unknown
    → Passing counts list tb d o g (replicate 64 m) (replicate 64 e) (replicate 64 0) (replicate 64 0) (replicate 64 0) opened run at true 0
    o g
pass_start counts list tb d o g {m} {e} {at = at} p r q f u =
    rw (p, r)
    (record {
      judging = judge_start d refl q;
      x = begun;
      rest = rw q (rest_start (verdicts (list_paths list)) (counted_tests counts (list_paths list)) d);
      stands =
          record {
            kept_is = refl;
            inner = inl refl;
            behind = omega arith;
            pend_is = refl;
            done_is = refl;
            num_is = refl;
            said = [];
            out_is = refl;
            text = record { long = refl; laid = refl };
            notes = stood_none;
          };
      held = held_start (list_paths list) f d (replicate 64 0) (replicate 64 0);
      opens = opens_none d (replicate 64 0) (replicate 64 0);
      order = omega arith;
      far = omega arith;
      few = omega arith;
      many = omega arith;
      long = length-replicate {A = MatchState} 64 m;
      recalls = recalls_none counts tb u 64;
      memo_long = length-replicate {A = Known} 64 e;
      slots_long = length-replicate {A = ℕ} 64 0;
      room = refl;
      log_room = refl;
    })

-- ---- out

module _ {counts : Bool} {list tb d o₀ g₀ : List ℕ} {states : List MatchState} {memo : List Known} {slots starts lens : List ℕ}
    {opened : Open} {run : Run} {at : ℕ} {first : Bool} {tests : ℕ} {o g : List ℕ}
    (v : Passing counts list tb d o₀ g₀ states memo slots starts lens opened run at first tests o g)
    {i : Item} (e : i ≡ item_at first d at)
    {p : Placement} (q : p ≡ placement d at i (opened_of d starts lens opened)) where
  pub pass_fault : (why : Why) → p ≡ Faulty why → PassedBy counts list d o₀ (Err (record { why = why; at = at })) o g
  pass_fault why h = record { judged = judge_fault v.judging e q why h; told = tt }

  pub pass_over : p ≡ Over
      → PassedBy counts list d o₀ (Ok (record { length = run.len; selected = run.count; tests = tests; noted = run.noted })) o g
  pass_over h = record { judged = sound; told = go v.x v.stands (whole ∙ run_cut list d (sym sound)) }
    where
      sound : Ok tt ≡ scanned d
      sound = judge_over v.judging e q h

      whole : v.x ≡ runs (verdicts (list_paths list)) (tokens_of d) begun
      whole = rest_over v.rest e (opened_of d starts lens opened) (sym q ∙ h)

      counted : tests ≡ cond counts (tests_of list d) 0
      counted = sum_over v.rest e (opened_of d starts lens opened) (sym q ∙ h) ∙ counted_tests_lem counts list d (sym sound)

      go : (y : Engine) → Stands d starts lens o₀ opened.level.0 run.reached.0 run.kept at run.len run.count
          run.noted o g y
          → y ≡ engine false [] [] (cut_of list d) (count_of list d)
          → (run.len ≡ length (cut_of list d)) × (run.count ≡ count_of list d) × (tests ≡ cond counts (tests_of list d) 0)
          × (o ≡ sets o₀ 0 (cut_of list d))
          × Stood d g run.noted (cut_of list d)
      go (engine k p' d' w c) t z =
          let f : false ≡ k = cc in
          let a : t.said ≡ cut_of list d =
          sym (out_laid d t.said run.kept at t.out_is (kept_none run.kept (f ∙ t.kept_is))) ∙ cc in
          let b : c ≡ count_of list d = cc in
          (sym t.text.long ∙ ap length a, sym t.num_is ∙ b, counted, t.text.laid ∙ ap (sets o₀ 0) a, rw a at t.notes)

-- ---- on

by_deeper : (P : ℕ → Type 0) (empty : Bool) (l : ℕ) → P l → P (l + 1) → P (deeper empty l)
by_deeper P true l a c = a
by_deeper P false l a c = c

-- the numbers of a step are within 64 bits
module _ {counts : Bool} {list tb d o₀ g₀ : List ℕ} {states : List MatchState} {memo : List Known} {slots starts lens : List ℕ}
    {opened : Open} {run : Run} {at : ℕ} {first : Bool} {tests : ℕ} {o g : List ℕ}
    (v : Passing counts list tb d o₀ g₀ states memo slots starts lens opened run at first tests o g)
    (small : length d ≤ 16777216) where
  pub pass_ready : length g₀ ≤ 16777216 → at < length d → Ready d g run 72057594037927936
  pass_ready s l =
      record {
        small = small;
        log_small = omega (arith, v.log_room);
        near = omega (arith, v.far);
        few = omega (arith, v.few);
      }

  pub pass_many : at < length d → {k : ℕ} → k ≤ 512 → Fits w64 (tests + k)
  pass_many l h = record { fits = omega (arith, v.many) }

  pub pass_deep : opened.level.0 ≤ 64
  pass_deep = v.judging.names.deep

-- the names of the open elements, when one more is kept at the level reached
placed_kept : {d starts lens : List ℕ} {opened : Open} → Names d starts lens opened → (a n : ℕ)
    → Placed d (set starts opened.level.0 a) (set lens opened.level.0 n) opened.level.0
placed_kept {d} {starts} {lens} {opened} s a n =
    record {
      deep = s.deep;
      starts_long = length-set starts opened.level.0 a ∙ s.starts_long;
      lens_long = length-set lens opened.level.0 n ∙ s.lens_long;
      inside = λ i l. rw (other starts i a l, other lens i n l) (s.inside i l);
    }
  where
    other : (xs : List ℕ) (i y : ℕ) → i < opened.level.0 → get_or (set xs opened.level.0 y) i 0 ≡ get_or xs i 0
    other xs i y l = get_or-set_other xs opened.level.0 i y 0 (λ q. omega arith)

placed_more : {d starts lens : List ℕ} {opened : Open} → Names d starts lens opened → (a n : ℕ) → opened.level.0 < 64 → a + n ≤ length d
    → Placed d (set starts opened.level.0 a) (set lens opened.level.0 n) (opened.level.0 + 1)
placed_more {d} {starts} {lens} {opened} s a n h l =
    record { deep = omega arith; starts_long = k.starts_long; lens_long = k.lens_long; inside = go }
  where
    k : Placed d (set starts opened.level.0 a) (set lens opened.level.0 n) opened.level.0
    k = placed_kept s a n

    here : get_or (set starts opened.level.0 a) opened.level.0 0 + get_or (set lens opened.level.0 n) opened.level.0 0
        ≤ length d
    here =
        rw (
          get_or-set_same starts opened.level.0 a 0 (omega (arith, s.starts_long)),
          get_or-set_same lens opened.level.0 n 0 (omega (arith, s.lens_long)),
        )
        l

    go : (i : ℕ) → i < opened.level.0 + 1
        → get_or (set starts opened.level.0 a) i 0 + get_or (set lens opened.level.0 n) i 0 ≤ length d
    go i g =
        let le : i ≤ opened.level.0 = omega arith in
        ⊎_elim (λ (q : i ≡ opened.level.0). rw q here) (λ (q : i < opened.level.0). k.inside i q) (eq-or-lt_of_le le)

-- the level after an item that is no start tag and no empty tag, and what is open then
pub level_other : (i : Item) (o : Open) → Unstarted i → level_after i o.level.0 ≡ (open_after i o).level.0
level_other (Declaration e) o k = refl
level_other (Instruction e) o k = refl
level_other (Comment e) o k = refl
level_other (Section e) o k = refl
level_other (Reference n e) o k = refl
level_other (Text e) o k = refl
level_other (Start n h e m t) o k = absurd (k n h e m t refl)
level_other (Finish n e) o k = refl
level_other Doctype o k = refl
level_other Malformed o k = refl
level_other TooLarge o k = refl
level_other Nothing o k = refl

closed_less : (d starts lens : List ℕ) (l : ℕ) → names_of d starts lens (l - 1) ≡ closed (names_of d starts lens l)
closed_less d starts lens zero = refl
closed_less d starts lens (suc l) =
    let z : suc l - 1 ≡ l = omega arith in
    ap (names_of d starts lens) z

pub opened_past : (d starts lens : List ℕ) (at : ℕ) (o : Open) (i : Item) → Unstarted i
    → opened_of d starts lens (open_after i o) ≡ after_item d at i (opened_of d starts lens o)
opened_past d starts lens at o (Declaration e) k = refl
opened_past d starts lens at o (Instruction e) k = refl
opened_past d starts lens at o (Comment e) k = refl
opened_past d starts lens at o (Section e) k = refl
opened_past d starts lens at o (Reference n e) k = refl
opened_past d starts lens at o (Text e) k = refl
opened_past d starts lens at o (Start n h e m t) k = absurd (k n h e m t refl)
opened_past d starts lens at o (Finish n e) k =
    ap (λ (ns : List (List ℕ)). record { names = ns; rooted = o.rooted }) (closed_less d starts lens o.level.0)
opened_past d starts lens at o Doctype k = refl
opened_past d starts lens at o Malformed k = refl
opened_past d starts lens at o TooLarge k = refl
opened_past d starts lens at o Nothing k = refl

-- what the state stands for does not see a name kept at the level reached
pub stands_kept : {d starts lens o₀ o g : List ℕ} {level reached kept at len count m : ℕ} {x : Engine} → reached ≤ level
    → Stands d starts lens o₀ level reached kept at len count m o g x → (a n : ℕ)
    → Stands d (set starts level a) (set lens level n) o₀ level reached kept at len count m o g x
stands_kept {d} {starts} {lens} {level = level} {reached} h t a n =
    record {
      kept_is = t.kept_is;
      inner = t.inner;
      behind = t.behind;
      pend_is = t.pend_is ∙ sym (span_below d starts lens level a n reached (level - reached) (omega arith));
      done_is = t.done_is ∙ sym (span_below d starts lens level a n 0 reached (omega arith));
      num_is = t.num_is;
      said = t.said;
      out_is = t.out_is;
      text = t.text;
      notes = t.notes;
    }

module _ {counts : Bool} {list tb d o₀ g₀ : List ℕ} {states : List MatchState} {memo : List Known} {slots starts lens : List ℕ}
    {opened : Open} {run : Run} {at : ℕ} {first : Bool} {tests : ℕ} {o g : List ℕ}
    (v : Passing counts list tb d o₀ g₀ states memo slots starts lens opened run at first tests o g)
    {i : Item} (e : i ≡ item_at first d at)
    {p : Placement} (q : p ≡ placement d at i (opened_of d starts lens opened)) (h : p ≡ Fine) where
  inner : Inside d at i
  inner = scan_inside v.judging e

  ahead : (at < end_of at i) × (end_of at i ≤ length d)
  ahead = fine_ahead d at i (opened_of d starts lens opened) inner (sym q ∙ h)

  pub pass_within : at < length d
  pass_within = omega (arith, ahead.0, ahead.1)

  pub pass_next : length d ≤ 16777216 → at + 1 ≤ 18446744073709551615
  pass_next small = omega (arith, pass_within)

  pub pass_fits : length d ≤ 16777216 → Fits w64 (at + 1)
  pass_fits small = record { fits = omega (arith, pass_within) }

  pub pass_inside : Inside d at i
  pass_inside = inner

  pub pass_less : {n : ℕ} → n ≡ end_of at i → length d - n < length d - at
  pass_less g = scan_less v.judging e q h g

  -- ---- an item that is no start tag and no empty tag; no name is kept

  pub pass_placed : Placed d starts lens opened.level.0
  pass_placed =
      let s = v.judging.names in
      record { deep = s.deep; starts_long = s.starts_long; lens_long = s.lens_long; inside = s.inside }

  pub pass_other : Unstarted i → {run' : Run} {o' g' : List ℕ}
      → Moves d starts lens opened.level.0 at run o g (on_other d at i) 1 (level_after i opened.level.0) (end_of at i) run' o' g'
      → {opened' : Open} → opened' ≡ open_after i opened → {n : ℕ} → n ≡ end_of at i
      → Passing counts list tb d o₀ g₀ states memo slots starts lens opened' run' n false tests o' g'
  pass_other k {run'} {o'} {g'} m {opened'} eo {n} en =
      record {
        judging = judge_on v.judging e q h inner (rw eo names) (rw eo (opened_past d starts lens at opened i k)) en;
        x = on_other d at i v.x;
        rest = rw en (rest_other v.rest e (opened_of d starts lens opened) (sym q ∙ h) k ahead.0 ahead.1);
        stands = rw en (rw level at (m.moves o₀ v.x v.stands));
        held = record { state = λ j y l. v.held.state j (omega (arith, less)) l };
        opens =
            record {
              named = λ j y. v.opens.named j (omega (arith, less));
              inside = λ j y. v.opens.inside j (omega (arith, less));
            };
        order = rw level at m.order;
        far = omega (arith, m.far, v.far, ahead.0);
        few = omega (arith, m.few, v.few, ahead.0);
        many = omega (arith, v.many, ahead.0);
        long = v.long;
        recalls = v.recalls;
        memo_long = v.memo_long;
        slots_long = v.slots_long;
        room = m.same ∙ v.room;
        log_room = m.room ∙ v.log_room;
      }
    where
      level : level_after i opened.level.0 ≡ opened'.level.0
      level = level_other i opened k ∙ ap (λ (y : Open). y.level.0) (sym eo)

      no_more : (j : Item) (l : ℕ) → level_after j l ≤ l
      no_more (Declaration e) l = omega arith
      no_more (Instruction e) l = omega arith
      no_more (Comment e) l = omega arith
      no_more (Section e) l = omega arith
      no_more (Reference n e) l = omega arith
      no_more (Text e) l = omega arith
      no_more (Start n h e m t) l = omega arith
      no_more (Finish n e) l = omega arith
      no_more Doctype l = omega arith
      no_more Malformed l = omega arith
      no_more TooLarge l = omega arith
      no_more Nothing l = omega arith

      less : opened'.level.0 ≤ opened.level.0
      less = rw level at (no_more i opened.level.0)

      names : Names d starts lens (open_after i opened)
      names =
          let s = v.judging.names in
          let l : (open_after i opened).level.0 ≤ opened.level.0 = rw (level_other i opened k) at (no_more i opened.level.0) in
          record {
            deep = omega (arith, s.deep, l);
            starts_long = s.starts_long;
            lens_long = s.lens_long;
            inside = λ j y. s.inside j (omega (arith, l));
          }

  -- ---- a start tag or empty tag

  module _ {n b f : ℕ} {m t : Bool} (s : i ≡ Start n b f m t) where
    places : (at + 1 + n ≤ b) × (b < f) × (f ≤ length d)
    places = rw s at inner

    pub tag_level : opened.level.0 < 64
    tag_level = start_room d starts lens opened t (rw s at (sym q ∙ h))

    pub tag_from : at ≤ b
    tag_from = omega (arith, places.0)

    pub tag_to : b ≤ f
    tag_to = omega (arith, places.1)

    pub tag_inside : f ≤ length d
    tag_inside = places.2

    pub tag_name : at + 1 + n ≤ length d
    tag_name = omega (arith, places.0, places.1, places.2)

    pub tag_behind : at + 1 + n ≤ b
    tag_behind = places.0

    pub tag_head : b ≤ length d
    tag_head = omega (arith, places.1, places.2)

    pub tag_fits : length d ≤ 16777216 → Fits w64 (at + 1 + n)
    tag_fits small = record { fits = omega (arith, tag_name) }

    pub tag_less : length d - f < length d - at
    tag_less = pass_less (sym (ap (end_of at) s))

    module _ {starts' lens' : List ℕ} (es : starts' ≡ set starts opened.level.0 (at + 1))
        (el : lens' ≡ set lens opened.level.0 n) where
      pub tag_placed : Placed d starts' lens' (opened.level.0 + 1)
      tag_placed = rw (es, el) (placed_more v.judging.names (at + 1) n tag_level tag_name)

      pub name_is : name_at d starts' lens' opened.level.0 ≡ name_from d (at + 1) n
      name_is =
          rw (es, el)
          (name_here d starts lens opened.level.0 (at + 1) n
          (omega (arith, tag_level, v.judging.names.starts_long))
          (omega (arith, tag_level, v.judging.names.lens_long)))

      module _ (sound : list_answer list ≡ Ok tt) {parent : MatchState} (ep : parent ≡ get_or states opened.level.0 none)
          {fit : Fit} (ef : fit ≡ fit_for (list_paths list) (part d (at + 1) (at + 1 + n))) where
        parent_state : parent ≡ state_of (list_paths list) (above d starts lens opened.level.0)
        parent_state = parent_is v.held tag_level ep

        fit_is : fit ≡ fit_for (list_paths list) (name_from d (at + 1) n)
        fit_is = ef ∙ ap (fit_for (list_paths list)) (name_part d (at + 1) n)

        abbrev tag : Tag
        tag = tag_of d at n b f

        -- the list's verdict on the element
        abbrev pub TagVerdict : Verdict → Type 0
        TagVerdict w = w ≡ on (verdicts (list_paths list)) tag (open_of v.x)

        verdict_is : {w : Verdict}
            → w ≡ verdict_of (list_paths list) (above d starts lens opened.level.0 ++ name_from d (at + 1) n ∷ []) (attributes_of tag)
            → TagVerdict w
        unfolding verdicts
        verdict_is ew =
            ew
            ∙ ap (λ (ns : List (List ℕ)). verdict_of (list_paths list) (root_first ns ++ name_from d (at + 1) n ∷ []) (attributes_of tag))
            (sym (open_is v.stands v.order))

        -- the verdict of which no attribute is looked at
        plain_is : {w : Verdict} → w ≡ verdict_by parent fit
            → w ≡ verdict_by (state_of (list_paths list) (above d starts lens opened.level.0))
            (fit_for (list_paths list) (name_from d (at + 1) n))
        plain_is ew =
            ew
            ∙ ap (λ (y : MatchState). verdict_by y fit) parent_state
            ∙ ap (verdict_by (state_of (list_paths list) (above d starts lens opened.level.0))) fit_is

        -- three ways to the list's verdict: no path's steps select the element; no path has a test; by the tests of those that select it
        pub verdict_unselected : {w : Verdict} → w ≡ verdict_by parent fit → w ≡ Unselected → TagVerdict w
        verdict_unselected ew eu =
            verdict_is (plain_is ew
            ∙ unselected_told list sound (above d starts lens opened.level.0) (name_from d (at + 1) n) (attributes_of tag)
            (sym (plain_is ew) ∙ eu))

        pub verdict_untested : {w : Verdict} → w ≡ verdict_by parent fit → Untested (list_paths list) → TagVerdict w
        verdict_untested ew u =
            verdict_is (plain_is ew
            ∙ untested_told list sound (above d starts lens opened.level.0) (name_from d (at + 1) n) (attributes_of tag) u)

        pub verdict_tested : {w : Verdict} → w ≡ picked_by fit (passing_of (list_paths list) (selecting_by parent fit) (attributes_of tag))
            → TagVerdict w
        verdict_tested ew =
            let m = state_of (list_paths list) (above d starts lens opened.level.0) in
            verdict_is (ew
            ∙ ap (λ (y : MatchState). picked_by fit (passing_of (list_paths list) (selecting_by y fit) (attributes_of tag))) parent_state
            ∙ ap (λ (y : Fit). picked_by y (passing_of (list_paths list) (selecting_by m y) (attributes_of tag))) fit_is
            ∙ verdict_told list sound (above d starts lens opened.level.0) (name_from d (at + 1) n) (attributes_of tag))

        -- the attributes are those that stand behind the name
        tag_attributes : attributes_of tag ≡ attributes_in 0 (take (b - (at + 1 + n)) (drop (at + 1 + n) d))
        tag_attributes = attributes_behind d at n b places.0 (omega (arith, places.1, places.2)) (part d b f)

        pub verdict_judged : {w : Verdict} → ByTests (list_paths list) (attributes_in 0 (take (b - (at + 1 + n)) (drop (at + 1 + n) d)))
            parent fit w → TagVerdict w
        verdict_judged (unselected ew eu) = verdict_unselected ew eu
        verdict_judged (untested ew u) = verdict_untested ew u
        verdict_judged (tested ew) =
            verdict_tested (ew
            ∙ ap (λ (xs : List Attribute). picked_by fit (passing_of (list_paths list) (selecting_by parent fit) xs)) (sym tag_attributes))

        -- the state below the element
        abbrev pub TagStored : List MatchState → Type 0
        TagStored = Stored states opened.level.0 (deeper_of parent fit)

        state_is : deeper_of parent fit
            ≡ deeper_of (state_of (list_paths list) (above d starts lens opened.level.0)) (fit_for (list_paths list) (name_from d (at
            + 1) n))
        state_is =
            ap (λ (y : MatchState). deeper_of y fit) parent_state
            ∙ ap (deeper_of (state_of (list_paths list) (above d starts lens opened.level.0))) fit_is

        held_next : {states' : List MatchState} → TagStored states' → (empty : Bool)
            → Held (list_paths list) states' d (set starts opened.level.0 (at + 1)) (set lens opened.level.0 n)
            (deeper empty opened.level.0)
        held_next {states'} et empty =
            let ls : opened.level.0 < length starts = omega (arith, tag_level, v.judging.names.starts_long) in
            let ll : opened.level.0 < length lens = omega (arith, tag_level, v.judging.names.lens_long) in
            by_deeper
            (Held (list_paths list) states' d (set starts opened.level.0 (at + 1)) (set lens opened.level.0 n))
            empty opened.level.0
            (held_same v.held (at + 1) n ls ll v.long state_is et)
            (held_deeper v.held (at + 1) n ls ll v.long state_is et)

        pub tests_are : {k : ℕ} → k ≡ cond counts (tests_by parent fit) 0
            → k ≡ counted_tests counts (list_paths list) (name_from d (at + 1) n ∷ open_of v.x)
        unfolding name_tests
        tests_are ek =
            ek
            ∙ ap (λ (y : MatchState). cond counts (tests_by y fit) 0) parent_state
            ∙ ap (λ (y : Fit). cond counts (tests_by (state_of (list_paths list) (above d starts lens opened.level.0)) y) 0) fit_is
            ∙ ap (λ (ns : List (List ℕ)). cond counts (tests_by (state_of (list_paths list) (root_first ns)) (fit_for (list_paths list)
            (name_from d (at + 1) n))) 0)
            (sym (open_is v.stands v.order))

        opens_next : (empty : Bool)
            → Opens d (set starts opened.level.0 (at + 1)) (set lens opened.level.0 n) (deeper empty opened.level.0)
        opens_next empty =
            by_deeper (Opens d (set starts opened.level.0 (at + 1)) (set lens opened.level.0 n)) empty opened.level.0
            (opens_kept v.opens (at + 1) n opened.level.0 (omega arith))
            (opens_more v.opens (at + 1) n
            (omega (arith, tag_level, v.judging.names.starts_long))
            (omega (arith, tag_level, v.judging.names.lens_long))
            (start_named d at first (sym s ∙ e)) tag_name)

        pub pass_tag : {w : Verdict} → TagVerdict w → {states' : List MatchState} → TagStored states'
            → {memo' : List Known} (slot : ℕ) {y : Known} → memo' ≡ set memo slot y → Recalls counts tb y
            → {slots' : List ℕ} → Written slots slots'
            → {k : ℕ} → (k ≡ cond counts (tests_by parent fit) 0) × (k ≤ 512) → {run' : Run} {o' g' : List ℕ}
            → Moves d starts' lens' opened.level.0 at run o g
            (on_tag w (name_at d starts' lens' opened.level.0) (part d at b) (part d at f) m) 2 (deeper m opened.level.0) f run' o' g'
            → {opened' : Open} → opened' ≡ open_after (Start n b f m t) opened
            → Passing counts list tb d o₀ g₀ states' memo' slots' starts' lens' opened' run' f false (tests + k) o' g'
        pass_tag {w} ew et slot em er el' {k} ek {run'} {o'} {g'} mv {opened'} eo =
            record {
              judging =
                  scan_on v.judging e q h es (el ∙ ap (λ (j : Item). set lens opened.level.0 (len_of j)) (sym s))
                  (eo ∙ sym (ap (λ (j : Item). open_after j opened) s)) (sym (ap (end_of at) s));
              x = on_tag w (name_from d (at + 1) n) (part d at b) (part d at f) m v.x;
              rest = rw (ew, tests_are ek.0) (rest_tag v.rest (sym s ∙ e) tag_from places.1 places.2);
              stands =
                  rw (name_is, level) at
                  (mv.moves o₀ v.x (rw (es, el) (stands_kept v.order v.stands (at + 1) n)));
              held = rw (es, el, ← level) (held_next et m);
              opens = rw (es, el, ← level) (opens_next m);
              order = rw level at mv.order;
              far = omega (arith, mv.far, v.far, places.0, places.1);
              few = omega (arith, mv.few, v.few, places.0, places.1);
              many = omega (arith, v.many, ek.1, places.0, places.1);
              long = stored_long states opened.level.0 (deeper_of parent fit) et ∙ v.long;
              recalls = rw em (recalls_set memo v.recalls slot er);
              memo_long = ap length em ∙ length-set memo slot _ ∙ v.memo_long;
              slots_long = written_long el' ∙ v.slots_long;
              room = mv.same ∙ v.room;
              log_room = mv.room ∙ v.log_room;
            }
          where
            level : deeper m opened.level.0 ≡ opened'.level.0
            level = ap (λ (y : Open). y.level.0) (sym eo)
