-- The pass over the items. In order: an item that may stand where it stands, and a tag; the invariant; a law for each way out and each way
-- on. The invariant: the records laid so far and those of the tokens left are the records of all tokens, and the elements counted and those
-- left are all that are selected; the scan comes to what it comes to from the start; states and names are kept by level, and what is kept
-- of elements is known of them. The header was laid before: `o₁` is the buffer with it, and `base` the place behind it.
use Rattle.std.specs.Prelude.{Ok, Err}
use Rattle.document.proofs.Placing.{Unstarted}
use mathlib.Core.Path.{◌≡◌, refl, sym, ap, ◌∙◌}
use mathlib.Core.Bool.{Bool, true, false}
use mathlib.Core.List.{List, [], ◌∷◌, ◌++◌}
use mathlib.Core.Logic.{inl, inr}
use Prim.Native.Nat.{ℕ, ◌+◌, ◌-◌, ◌*◌, ◌≤◌, ◌<◌}
use native.Mathlib.Omega.{arith}
use mir.Syntax.{w64}
use mir.Val.{Fits}
use lib.ListN.{length, take, drop, get_or, set, length-set, replicate, length-replicate}
use lib.Seq.{sets}
use Rattle.xml.specs.Forest.{Name}
use Rattle.paths.specs.Judge.{list_answer, list_paths}
use Rattle.tags.specs.Kept.{name_from}
use Rattle.tags.specs.declared.Item.{Item}
use Rattle.tags.specs.declared.Item.TheVariants.{Declaration, Instruction, Comment, Section, Reference, Text, Start, Finish}
use Rattle.tags.specs.declared.Item.TheVariants.{Doctype, Malformed, TooLarge, Nothing}
use Rattle.items.specs.Inside.{Inside}
use Rattle.items.specs.Item.{item_at}
use Rattle.document.specs.Place.{Opened, placement, opens as opens_by, after_item, end_of}
use Rattle.document.specs.Levels.{opened_of, names_of, deeper, open_after, len_of}
use Rattle.document.specs.Judge.{start_of, scanned}
use Rattle.document.specs.declared.Open.{Open}
use Rattle.document.specs.declared.Placement.{Placement}
use Rattle.document.specs.declared.Placement.TheVariants.{Fine, Fault as Faulty, Over}
use Rattle.document.specs.declared.Why.{Why}
use Rattle.document.proofs.After.{start_room, opened_after}
use Rattle.document.proofs.Judging.{Judging, judge_start, judge_fault, judge_over, fine_ahead, scan_inside, scan_less, scan_on}
use Rattle.attributes.specs.Held.{attributes_in}
use Rattle.matcher.specs.Fit.{fit_for}
use Rattle.matcher.specs.State.{fresh_state}
use Rattle.matcher.specs.declared.Verdict.{Verdict}
use Rattle.matcher.specs.declared.Verdict.TheVariants.{Unselected, Selected, Marked}
use Rattle.matcher.specs.declared.fit.Fit.{Fit}
use Rattle.matcher.specs.declared.state.MatchState.{MatchState}
use Rattle.recall.specs.Known.{unknown, Recalls}
use Rattle.recall.specs.declared.Known.{Known}
use Rattle.writer.specs.Wrote.{Wrote}
use Rattle.writer.proofs.Laying.{wrote_none, wrote_more, wrote_long}
use Rattle.trees.specs.Cut.{on, one}
use Rattle.trees.specs.Grown.{part, tag_of}
use Rattle.trees.specs.Written.{verdicts}
use Rattle.output.proofs.Chains.{name_part}
use Rattle.quick.proofs.Opened.{start_named}
use Rattle.passes.specs.ByTests.{ByTests}
use Rattle.passes.specs.Opens.{Opens}
use Rattle.passes.proofs.States.{none, Held, held_start, held_kept, stored_long}
use Rattle.passes.proofs.Telling.{opens_none, opens_kept, opens_more}
use Rattle.passes.proofs.Passing.{blank, recalls_none, recalls_set, Written}
use Rattle.rows.specs.Field.{header}
use Rattle.rows.specs.Table.{record_by, table_of}
use Rattle.rows.specs.Laid.{PlainNames, element_text}
use Rattle.rows.proofs.Plain.{plain_names}
use Rattle.rows.proofs.Tokens.{sound_table}
use Rattle.sheet.specs.Passed.{Started, Passed}
use Rattle.sheet.specs.declared.Run.{Run}
use Rattle.sheet.proofs.Counts.{sound_count}
use Rattle.sheet.proofs.Rests.{Rest, rest_start, rest_over, count_over, rest_tag, rest_other}
use Rattle.sheet.proofs.Verdicts.{by_deeper}
use Rattle.sheet.proofs.Verdicts as verdict

-- ---- an item that may stand where it stands

module _ {d starts lens : List ℕ} {opened : Open} {at : ℕ} {first : Bool} (v : Judging d starts lens opened at first)
    {i : Item} (e : i ≡ item_at first d at) {p : Placement} (q : p ≡ placement d at i (opened_of d starts lens opened)) (h : p ≡ Fine) where
  inner : Inside d at i
  inner = scan_inside v e

  ahead : (at < end_of at i) × (end_of at i ≤ length d)
  ahead = fine_ahead d at i (opened_of d starts lens opened) inner (sym q ∙ h)

  pub item_within : at < length d
  item_within = omega (arith, ahead.0, ahead.1)

  pub item_next : length d ≤ 16777216 → at + 1 ≤ 18446744073709551615
  item_next small = omega (arith, item_within)

  pub item_fits : length d ≤ 16777216 → Fits w64 (at + 1)
  item_fits small = record { fits = omega (arith, item_within) }

  pub item_less : {n : ℕ} → n ≡ end_of at i → length d - n < length d - at
  item_less g = scan_less v e q h g

  -- what is open after it, where its name is kept
  names_after : {starts' lens' : List ℕ} → starts' ≡ set starts opened.level.0 (at + 1)
      → lens' ≡ set lens opened.level.0 (len_of i) → {opened' : Open} → opened' ≡ open_after i opened
      → names_of d starts' lens' opened'.level.0 ≡ (after_item d at i (opened_of d starts lens opened)).names
  names_after es el eo = rw (es, el, eo) (ap (λ (x : Opened). x.names) (opened_after v.names at i (sym q ∙ h)))

  -- ---- a start tag or empty tag

  module _ {n b f : ℕ} {m t : Bool} (s : i ≡ Start n b f m t) where
    places : (at + 1 + n ≤ b) × (b < f) × (f ≤ length d)
    places = rw s at inner

    pub tag_level : opened.level.0 < 64
    tag_level = start_room d starts lens opened t (rw s at (sym q ∙ h))

    pub tag_inside : f ≤ length d
    tag_inside = places.2

    pub tag_ahead : at < f
    tag_ahead = omega (arith, places.0, places.1)

    pub tag_name : at + 1 + n ≤ length d
    tag_name = omega (arith, places.0, places.1, places.2)

    pub tag_behind : at + 1 + n ≤ b
    tag_behind = places.0

    pub tag_head : b ≤ length d
    tag_head = omega (arith, places.1, places.2)

    pub tag_fits : length d ≤ 16777216 → Fits w64 (at + 1 + n)
    tag_fits small = record { fits = omega (arith, tag_name) }

    pub tag_less : length d - f < length d - at
    tag_less = item_less (sym (ap (end_of at) s))

    starts_room : opened.level.0 < length starts
    starts_room = omega (arith, tag_level, v.names.starts_long)

    lens_room : opened.level.0 < length lens
    lens_room = omega (arith, tag_level, v.names.lens_long)

    module _ {starts' lens' : List ℕ} (es : starts' ≡ set starts opened.level.0 (at + 1))
        (el : lens' ≡ set lens opened.level.0 (len_of i)) where
      lens_is : lens' ≡ set lens opened.level.0 n
      lens_is = el ∙ ap (λ (j : Item). set lens opened.level.0 (len_of j)) s

      -- the names down to the element
      names_here : names_of d starts' lens' (opened.level.0 + 1) ≡ name_from d (at + 1) n ∷ names_of d starts lens opened.level.0
      names_here =
          rw (es, lens_is) (ap (λ (x : Opened). x.names) (opened_after v.names at (Start n b f false t) (rw s at (sym q ∙ h))))

      opens_here : Opens d starts lens opened.level.0 → Opens d starts' lens' (opened.level.0 + 1)
      opens_here o =
          rw (es, lens_is) (opens_more o (at + 1) n starts_room lens_room (start_named d at first (sym s ∙ e)) tag_name)

      pub tag_plain : Opens d starts lens opened.level.0 → PlainNames d starts' lens' (opened.level.0 + 1)
      tag_plain o =
          let names = opens_here o in
          plain_names (omega (arith, tag_level))
          (ap length es ∙ length-set starts opened.level.0 (at + 1) ∙ v.names.starts_long)
          (ap length el ∙ length-set lens opened.level.0 (len_of i) ∙ v.names.lens_long)
          names.inside (λ i l. (names.named i l).small) (λ i l. (names.named i l).named)

-- ---- the invariant

pub record Walking (list tb d o₁ : List ℕ) (base : ℕ) (states : List MatchState) (memo : List Known) (slots starts lens : List ℕ)
    (opened : Open) (run : Run) (at : ℕ) (first : Bool) (o : List ℕ) : Type 0 where
  pub judging : Judging d starts lens opened at first
  pub done : List ℕ
  pub rest : Rest (verdicts (list_paths list)) d at first (names_of d starts lens opened.level.0) done run.count
  pub laid : Wrote o₁ base done run.to o
  pub held : Held (list_paths list) states d starts lens opened.level.0
  pub opens : Opens d starts lens opened.level.0
  pub far : run.to ≤ base + at * 268435456
  pub few : run.count ≤ at
  pub long : length states ≡ 64
  pub recalls : (i : ℕ) → i < length memo → Recalls false tb (get_or memo i blank)
  pub memo_long : length memo ≡ 64
  pub slots_long : length slots ≡ 64
  pub room : length o ≡ length o₁

pub walk_start : (list tb d o : List ℕ) {m : MatchState} {e : Known} {opened : Open} {base at : ℕ}
    → opened ≡ record { level = record { 0 = 0 }; rooted = false }
    → at ≡ start_of d
    → m ≡ fresh_state
    → e ≡ unknown
    → Walking list tb d o base (replicate 64 m) (replicate 64 e) (replicate 64 0) (replicate 64 0) (replicate 64 0) opened
    (record { to = base; count = 0 }) at true o
walk_start list tb d o {m} {e} {base = base} p q f u =
    rw p
    (record {
      judging = judge_start d refl q;
      done = [];
      rest = rw q (rest_start (verdicts (list_paths list)) d);
      laid = wrote_none;
      held = held_start (list_paths list) f d (replicate 64 0) (replicate 64 0);
      opens = opens_none d (replicate 64 0) (replicate 64 0);
      far = omega arith;
      few = omega arith;
      long = length-replicate {A = MatchState} 64 m;
      recalls = recalls_none false tb u 64;
      memo_long = length-replicate {A = Known} 64 e;
      slots_long = length-replicate {A = ℕ} 64 0;
      room = refl;
    })

-- the header has 11 bytes
pub header_short : {o o₁ : List ℕ} {base : ℕ} → Wrote o 0 header base o₁ → base ≤ 11
unfolding header
header_short w = let z = w.long in omega arith

-- one number is stored, or none is
written_long : {xs ys : List ℕ} → Written xs ys → length ys ≡ length xs
written_long {xs} (inl (i, y, e)) = ap length e ∙ length-set xs i y
written_long (inr e) = ap length e

module _ {list tb d o₁ : List ℕ} {base : ℕ} {states : List MatchState} {memo : List Known} {slots starts lens : List ℕ}
    {opened : Open} {run : Run} {at : ℕ} {first : Bool} {o : List ℕ}
    (v : Walking list tb d o₁ base states memo slots starts lens opened run at first o)
    {i : Item} (e : i ≡ item_at first d at)
    {p : Placement} (q : p ≡ placement d at i (opened_of d starts lens opened)) where
  -- ---- out

  pub walk_fault : (o₀ : List ℕ) (why : Why) → p ≡ Faulty why → Passed list d o₀ (Err (record { why = why; at = at })) o
  walk_fault o₀ why h = record { judged = judge_fault v.judging e q why h; told = tt }

  pub walk_over : {o₀ : List ℕ} → Wrote o₀ 0 header base o₁ → p ≡ Over
      → Passed list d o₀ (Ok (record { length = run.to; selected = run.count })) o
  walk_over {o₀} w h =
      record {
        judged = sound;
        told = (
          whole.long ∙ zero ∙ ap length table,
          count_over v.rest e (opened_of d starts lens opened) (sym q ∙ h) ∙ sound_count list d (sym sound),
          whole.laid ∙ ap (sets o₀ 0) table,
        );
      }
    where
      sound : Ok tt ≡ scanned d
      sound = judge_over v.judging e q h

      whole : Wrote o₀ 0 (header ++ v.done) run.to o
      whole = wrote_more w v.laid

      zero : 0 + length (header ++ v.done) ≡ length (header ++ v.done)
      zero = omega arith

      table : header ++ v.done ≡ table_of list d
      table =
          ap (λ (x : List ℕ). header ++ x) (rest_over v.rest e (opened_of d starts lens opened) (sym q ∙ h))
          ∙ sound_table list d (sym sound)

  -- ---- on

  module _ (h : p ≡ Fine) where
    -- the numbers of a record are within 64 bits
    pub walk_near : length d ≤ 16777216 → base ≤ 11 → run.to < 1152921504606846976
    walk_near small l = let z = item_within v.judging e q h in omega (arith, v.far)

    pub walk_few : length d ≤ 16777216 → run.count < 16777216
    walk_few small = let z = item_within v.judging e q h in omega (arith, v.few)

    module _ {starts' lens' : List ℕ} (es : starts' ≡ set starts opened.level.0 (at + 1))
        (el : lens' ≡ set lens opened.level.0 (len_of i)) where
      -- an item that is no start tag and no empty tag
      pub walk_other : Unstarted i → {opened' : Open} → opened' ≡ open_after i opened
          → {n : ℕ} → n ≡ end_of at i → Walking list tb d o₁ base states memo slots starts' lens' opened' run n false o
      walk_other k {opened'} eo {n} en =
          record {
            judging = scan_on v.judging e q h es el eo en;
            done = v.done;
            rest =
                rw (en, names_after v.judging e q h es el eo)
                (rest_other (opened_of d starts lens opened) v.rest e (sym q ∙ h) k on_ahead.0 on_ahead.1);
            laid = v.laid;
            held = rw (es, el) (held_kept v.held (at + 1) (len_of i) opened'.level.0 less);
            opens = rw (es, el) (opens_kept v.opens (at + 1) (len_of i) opened'.level.0 less);
            far = omega (arith, v.far, on_ahead.0);
            few = omega (arith, v.few, on_ahead.0);
            long = v.long;
            recalls = v.recalls;
            memo_long = v.memo_long;
            slots_long = v.slots_long;
            room = v.room;
          }
        where
          on_ahead : (at < end_of at i) × (end_of at i ≤ length d)
          on_ahead = ahead v.judging e q h

          no_more : (j : Item) → Unstarted j → (open_after j opened).level.0 ≤ opened.level.0
          no_more (Declaration e) k = omega arith
          no_more (Instruction e) k = omega arith
          no_more (Comment e) k = omega arith
          no_more (Section e) k = omega arith
          no_more (Reference n e) k = omega arith
          no_more (Text e) k = omega arith
          no_more (Start n h e m t) k = absurd (k n h e m t refl)
          no_more (Finish n e) k = omega arith
          no_more Doctype k = omega arith
          no_more Malformed k = omega arith
          no_more TooLarge k = omega arith
          no_more Nothing k = omega arith

          less : opened'.level.0 ≤ opened.level.0
          less = rw eo (no_more i k)

      -- a start tag or empty tag
      module _ {n b f : ℕ} {m t : Bool} (s : i ≡ Start n b f m t) (sound : list_answer list ≡ Ok tt)
          {parent : MatchState} (ep : parent ≡ get_or states opened.level.0 none)
          {fit : Fit} (ef : fit ≡ fit_for (list_paths list) (part d (at + 1) (at + 1 + n))) where
        pub fit_is : fit ≡ fit_for (list_paths list) (name_from d (at + 1) n)
        fit_is = ef ∙ ap (fit_for (list_paths list)) (name_part d (at + 1) n)

        -- the list's verdict on the element
        abbrev pub TagVerdict : Verdict → Type 0
        TagVerdict = verdict.TagVerdict list sound v.held (tag_level v.judging e q h s) ep at n b f fit_is

        abbrev pub TagStored : List MatchState → Type 0
        TagStored = verdict.TagStored list sound v.held (tag_level v.judging e q h s) ep at n b f fit_is

        pub tag_judged : {w : Verdict}
            → ByTests (list_paths list) (attributes_in 0 (take (b - (at + 1 + n)) (drop (at + 1 + n) d))) parent fit w → TagVerdict w
        tag_judged =
            verdict.verdict_judged list sound v.held (tag_level v.judging e q h s) ep at n b f fit_is
            (tag_behind v.judging e q h s) (tag_head v.judging e q h s)

        abbrev up : List Name
        up = names_of d starts lens opened.level.0

        abbrev said : Verdict
        said = on (verdicts (list_paths list)) (tag_of d at n b f) up

        one_most : (w : Verdict) → one w ≤ 1
        one_most Unselected = omega arith
        one_most Selected = omega arith
        one_most Marked = omega arith

        pub walk_tag : {w : Verdict} → TagVerdict w → {states' : List MatchState} → TagStored states'
            → {memo' : List Known} (slot : ℕ) {y : Known} → memo' ≡ set memo slot y → Recalls false tb y
            → {slots' : List ℕ} → Written slots slots' → {run' : Run} {o' : List ℕ}
            → Started w (names_of d starts' lens' (opened.level.0 + 1)) (element_text m d f) o run run' o'
            → {opened' : Open} → opened' ≡ open_after (Start n b f m t) opened
            → Walking list tb d o₁ base states' memo' slots' starts' lens' opened' run' f false o'
        walk_tag {w} ew {states'} et slot em er el' {run'} {o'} r {opened'} eo =
            record {
              judging = scan_on v.judging e q h es el after (sym (ap (end_of at) s));
              done = v.done ++ record_by said (name_from d (at + 1) n ∷ up) (element_text m d f);
              rest =
                  rw (names_are, count_is)
                  (rest_tag v.rest (sym s ∙ e) (tag_ahead v.judging e q h s) (tag_inside v.judging e q h s));
              laid = wrote_more v.laid (rw (ew, names_here v.judging e q h s es el) at r.wrote);
              held =
                  rw (es, kept, eo)
                  (verdict.held_next list sound v.held (tag_level v.judging e q h s) ep at n b f fit_is
                  (starts_room v.judging e q h s) (lens_room v.judging e q h s) v.long et m);
              opens = rw (es, kept, eo) (opens_next m);
              far = omega (arith, v.far, r.near, tag_ahead v.judging e q h s);
              few = omega (arith, v.few, r.num, one_most w, tag_ahead v.judging e q h s);
              long = stored_long states opened.level.0 _ et ∙ v.long;
              recalls = rw em (recalls_set memo v.recalls slot er);
              memo_long = ap length em ∙ length-set memo slot _ ∙ v.memo_long;
              slots_long = written_long el' ∙ v.slots_long;
              room = wrote_long r.wrote ∙ v.room;
            }
          where
            after : opened' ≡ open_after i opened
            after = eo ∙ sym (ap (λ (j : Item). open_after j opened) s)

            kept : lens' ≡ set lens opened.level.0 n
            kept = lens_is v.judging e q h s es el

            names_are : names_of d starts' lens' opened'.level.0 ≡ opens_by m (name_from d (at + 1) n) up
            names_are = rw s at (names_after v.judging e q h es el after)

            count_is : run'.count ≡ run.count + one said
            count_is = r.num ∙ ap (λ (x : Verdict). run.count + one x) ew

            opens_next : (empty : Bool)
                → Opens d (set starts opened.level.0 (at + 1)) (set lens opened.level.0 n) (deeper empty opened.level.0)
            opens_next empty =
                by_deeper (Opens d (set starts opened.level.0 (at + 1)) (set lens opened.level.0 n)) empty opened.level.0
                (opens_kept v.opens (at + 1) n opened.level.0 (omega arith))
                (rw (← es, ← kept) (opens_here v.judging e q h s es el v.opens))
