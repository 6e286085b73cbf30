-- The reader: the invariant at the beginning, after one item more, and what is said where it stops.
use Rattle.document.proofs.Placing.{Unstarted}
use mathlib.Core.Path.{◌≡◌, refl, sym, ap, ap₂, ◌∙◌}
use mathlib.Core.Bool.{Bool, true, false}
use mathlib.Core.List.{List}
use mathlib.Core.Logic.{◌⊎◌, ⊎_elim}
use Prim.Native.Nat.{ℕ, suc, ◌+◌, ◌-◌, ◌*◌, ◌≤◌, ◌<◌}
use native.Mathlib.Nat.{eq-or-lt_of_le}
use native.Mathlib.Numerals.{add-one}
use native.Mathlib.Omega.{arith}
use lib.ListN.{length, set}
use Rattle.tags.specs.declared.Item.{Item}
use Rattle.tags.specs.declared.Item.TheVariants.{Declaration, Instruction, Comment, Section, Reference, Text, Start, Finish}
use Rattle.tags.specs.declared.Item.TheVariants.{Doctype, Malformed, TooLarge, Nothing}
use Rattle.items.specs.Inside.{Inside}
use Rattle.items.specs.Item.{item_at}
use Rattle.items.proofs.Insides.{item_inside}
use Rattle.document.specs.Place.{Opened, placement, after_item, end_of}
use Rattle.document.specs.Levels.{Names, opened_of, deeper, open_after, len_of}
use Rattle.document.specs.declared.Open.{Open}
use Rattle.document.specs.declared.Placement.{Placement}
use Rattle.document.specs.declared.Placement.TheVariants as placed
use Rattle.document.specs.declared.Why.{Why}
use Rattle.document.proofs.After.{start_room, opened_after, names_after}
use Rattle.document.proofs.Judging.{fine_ahead}
use Rattle.quick.proofs.Opened.{start_named}
use Rattle.passes.specs.Opens.{Opens}
use Rattle.passes.proofs.Telling.{opens_kept, opens_more}
use Rattle.passes.proofs.Passing.{opened_past}
use Rattle.tape.specs.Tape.{entry_at, begin_at, tags_of, put_at, image_of}
use Rattle.tape.specs.Taped.{Spot, spot_of, item_of, next_of, behind, tags_in, Taped}
use Rattle.tape.proofs.Entries.{put_here, put_begins, put_before, put_began, put_long}
use Rattle.tape.proofs.Counting.{one_most, tag_before}
use Rattle.reel.specs.Reeling.{Reeling, placed_at, Stopped}
use Rattle.reel.specs.declared.Stop.TheVariants.{Over, Fault}

-- ---- the names of the open elements after an item

module _ {d starts lens : List ℕ} {o : Open} (s : Names d starts lens o) (v : Opens d starts lens o.level.0) (at : ℕ) (first : Bool)
  where
    kept : (n l : ℕ) → l ≤ o.level.0 → Opens d (set starts o.level.0 (at + 1)) (set lens o.level.0 n) l
    kept n l h = opens_kept v (at + 1) n l h

    tagged : (n h e : ℕ) (m t : Bool) → Inside d at (Start n h e m t)
        → placement d at (Start n h e m t) (opened_of d starts lens o) ≡ placed.Fine
        → Start n h e m t ≡ item_at first d at
        → Opens d (set starts o.level.0 (at + 1)) (set lens o.level.0 n) (deeper m o.level.0)
    tagged n h e true t i f q = kept n o.level.0 (omega arith)
    tagged n h e false t i f q =
        let room = start_room d starts lens o t f in
        opens_more v (at + 1) n (omega (arith, room, s.starts_long)) (omega (arith, room, s.lens_long)) (start_named d at first q)
        (omega (arith, i.0, i.1, i.2))

    pub opens_after : (i : Item) → Inside d at i → placement d at i (opened_of d starts lens o) ≡ placed.Fine → i ≡ item_at first d at
        → Opens d (set starts o.level.0 (at + 1)) (set lens o.level.0 (len_of i)) (open_after i o).level.0
    opens_after (Declaration e) h f q = kept 0 o.level.0 (omega arith)
    opens_after (Instruction e) h f q = kept 0 o.level.0 (omega arith)
    opens_after (Comment e) h f q = kept 0 o.level.0 (omega arith)
    opens_after (Section e) h f q = kept 0 o.level.0 (omega arith)
    opens_after (Reference n e) h f q = kept 0 o.level.0 (omega arith)
    opens_after (Text e) h f q = kept 0 o.level.0 (omega arith)
    opens_after (Start n k e m t) h f q = tagged n k e m t h f q
    opens_after (Finish n e) h f q = kept 0 (o.level.0 - 1) (omega arith)
    opens_after Doctype h f q = kept 0 o.level.0 (omega arith)
    opens_after Malformed h f q = kept 0 o.level.0 (omega arith)
    opens_after TooLarge h f q = kept 0 o.level.0 (omega arith)
    opens_after Nothing h f q = kept 0 o.level.0 (omega arith)

-- an item that is no start tag and no empty tag opens nothing
level_less : (i : Item) (o : Open) → Unstarted i → (open_after i o).level.0 ≤ o.level.0
level_less (Declaration e) o k = omega arith
level_less (Instruction e) o k = omega arith
level_less (Comment e) o k = omega arith
level_less (Section e) o k = omega arith
level_less (Reference n e) o k = omega arith
level_less (Text e) o k = omega arith
level_less (Start n h e m t) o k = absurd (k n h e m t refl)
level_less (Finish n e) o k = omega arith
level_less Doctype o k = omega arith
level_less Malformed o k = omega arith
level_less TooLarge o k = omega arith
level_less Nothing o k = omega arith

module _ {d starts lens : List ℕ} (o : Open) (i : Item) (k : Unstarted i) where
  names_less : Names d starts lens o → Names d starts lens (open_after i o)
  names_less s =
      let l = level_less i o k in
      record {
        deep = omega (arith, s.deep, l);
        starts_long = s.starts_long;
        lens_long = s.lens_long;
        inside = λ j y. s.inside j (omega (arith, l));
      }

  opens_less : Opens d starts lens o.level.0 → Opens d starts lens (open_after i o).level.0
  opens_less v =
      let l = level_less i o k in
      record { named = λ j y. v.named j (omega (arith, l)); inside = λ j y. v.inside j (omega (arith, l)) }

-- the names kept by level after the item i: one more, or as they were where i is no start tag and no empty tag
abbrev pub Named : List ℕ → List ℕ → ℕ → ℕ → Item → List ℕ → List ℕ → Type 0
Named starts lens level at i starts' lens' =
    ((starts' ≡ set starts level (at + 1)) × (lens' ≡ set lens level (len_of i)))
    ⊎ (Unstarted i × (starts' ≡ starts) × (lens' ≡ lens))

-- ---- the beginning

pub reel_start : {d starts lens tape : List ℕ} {opened : Open} {at : ℕ} (first : Bool) → Names d starts lens opened
    → Opens d starts lens opened.level.0 → at ≤ length d → length tape ≡ 20480
    → Reeling d (spot_of d starts lens opened at first) starts lens tape opened at first 0 0
reel_start first ns os l z =
    record {
      names = ns;
      opens = os;
      within = l;
      spot = refl;
      taped =
          record {
            fine = λ k g. absurd (omega arith);
            count = refl;
            begins = λ k g o. absurd (omega arith);
            kept = λ k g o. absurd (omega arith);
          };
      room = λ k g. absurd (omega arith);
      ahead = omega arith;
      fewer = omega arith;
      few = omega arith;
      long = z;
    }

-- ---- the next item

module _ {d : List ℕ} {s : Spot} {starts lens tape : List ℕ} {opened : Open} {at : ℕ} {first : Bool} {items tags : ℕ}
    (v : Reeling d s starts lens tape opened at first items tags) {i : Item} (e : i ≡ item_at first d at)
    {p : Placement} (q : p ≡ placement d at i (opened_of d starts lens opened)) where
  placed_here : placed_at d (behind d s items) ≡ p
  placed_here =
      ap (placed_at d) (sym v.spot) ∙ ap (λ (j : Item). placement d at j (opened_of d starts lens opened)) (sym e) ∙ sym q

  pub reel_over : tags < 4096 → p ≡ placed.Over → Stopped d s items tags Over
  reel_over l h = (l, placed_here ∙ h)

  pub reel_fault : tags < 4096 → (why : Why) → p ≡ placed.Fault why → Stopped d s items tags (Fault why)
  reel_fault l why h = (l, placed_here ∙ h)

  module _ (h : p ≡ placed.Fine) where
    inner : Inside d at i
    inner = rw e (item_inside first d at)

    fine : placement d at i (opened_of d starts lens opened) ≡ placed.Fine
    fine = sym q ∙ h

    further : (at < end_of at i) × (end_of at i ≤ length d)
    further = fine_ahead d at i (opened_of d starts lens opened) inner fine

    pub reel_fits : length d ≤ 16777216 → at + 1 ≤ 18446744073709551615
    reel_fits small = omega (arith, further.0, further.1)

    -- one item more can be counted
    pub reel_counts : length d ≤ 16777216 → items + 1 ≤ 18446744073709551615
    reel_counts small = omega (arith, v.ahead, v.within)

    -- less of the document is left behind it
    pub reel_less : {at' : ℕ} → at' ≡ end_of at i → length d - at' < length d - at
    reel_less ea = omega (arith, ea, further.0, further.1)

    item_here : i ≡ item_of d (behind d s items)
    item_here = e ∙ ap (item_of d) v.spot

    at_here : at ≡ (behind d s items).at
    at_here = ap (λ (x : Spot). x.at) v.spot

    module _ (l : tags < 4096) {starts' lens' tape' : List ℕ} {opened' : Open} {at' items' tags' : ℕ}
        (en : Named starts lens opened.level.0 at i starts' lens')
        (eg : tags' ≡ tags + tags_of i) (et : tape' ≡ put_at tape tags at i)
        (eo : opened' ≡ open_after i opened) (ea : at' ≡ end_of at i) (ei : items' ≡ items + 1) where
      names_next : Names d starts' lens' (open_after i opened)
      names_next =
          ⊎_elim
          (λ z. rw (z.0, z.1) (names_after v.names at i inner fine))
          (λ z. rw (z.1, z.2) (names_less opened i z.0 v.names))
          en

      opens_next : Opens d starts' lens' (open_after i opened).level.0
      opens_next =
          ⊎_elim
          (λ z. rw (z.0, z.1) (opens_after v.names v.opens at first i inner fine e))
          (λ z. rw (z.1, z.2) (opens_less opened i z.0 v.opens))
          en

      opened_next : opened_of d starts' lens' (open_after i opened) ≡ after_item d at i (opened_of d starts lens opened)
      opened_next =
          ⊎_elim
          (λ z. rw (z.0, z.1) (opened_after v.names at i fine))
          (λ z. rw (z.1, z.2) (opened_past d starts lens at opened i z.0))
          en

      abbrev tape_next : List ℕ
      tape_next = put_at tape tags at i

      space : tags * 5 + 5 ≤ length tape
      space = omega (arith, v.long)

      -- the tag among the items before has its entry before
      before : (j : ℕ) → j < items → tags_of (item_of d (behind d s j)) ≡ 1 → tags_in d s j < tags
      before j g o = omega (arith, tag_before d s j items g o, v.taped.count)

      begins_here : tags_of (item_of d (behind d s items)) ≡ 1 → begin_at tape_next (tags_in d s items) ≡ (behind d s items).at
      begins_here o =
          ap (begin_at tape_next) (sym v.taped.count) ∙ put_begins tape tags at i space (ap tags_of item_here ∙ o) ∙ at_here

      kept_here : tags_of (item_of d (behind d s items)) ≡ 1
          → entry_at tape_next (tags_in d s items) ≡ image_of (item_of d (behind d s items))
      kept_here o =
          ap (entry_at tape_next) (sym v.taped.count)
          ∙ put_here tape tags at i space (ap tags_of item_here ∙ o)
          ∙ ap image_of item_here

      taped_next : Taped d tape_next s (suc items) (tags + tags_of i)
      taped_next = record { fine = fines; count = ap₂ ◌+◌ v.taped.count (ap tags_of item_here); begins = began; kept = keeps }
        where
          fines : (j : ℕ) → j < suc items → placed_at d (behind d s j) ≡ placed.Fine
          fines j g =
              let le : j ≤ items = omega arith in
              ⊎_elim
              (λ (z : j ≡ items). ap (λ (n : ℕ). placed_at d (behind d s n)) z ∙ placed_here ∙ h)
              (λ (z : j < items). v.taped.fine j z)
              (eq-or-lt_of_le le)

          began : (j : ℕ) → j < suc items → tags_of (item_of d (behind d s j)) ≡ 1
              → begin_at tape_next (tags_in d s j) ≡ (behind d s j).at
          began j g o =
              let le : j ≤ items = omega arith in
              ⊎_elim
              (λ (z : j ≡ items). rw z (begins_here (rw z at o)))
              (λ (z : j < items). put_began tape tags at i (tags_in d s j) (before j z o) ∙ v.taped.begins j z o)
              (eq-or-lt_of_le le)

          keeps : (j : ℕ) → j < suc items → tags_of (item_of d (behind d s j)) ≡ 1
              → entry_at tape_next (tags_in d s j) ≡ image_of (item_of d (behind d s j))
          keeps j g o =
              let le : j ≤ items = omega arith in
              ⊎_elim
              (λ (z : j ≡ items). rw z (kept_here (rw z at o)))
              (λ (z : j < items). put_before tape tags at i (tags_in d s j) (before j z o) ∙ v.taped.kept j z o)
              (eq-or-lt_of_le le)

      -- there was room before this item too
      room_next : (j : ℕ) → j < suc items → tags_in d s j < 4096
      room_next j g =
          let le : j ≤ items = omega arith in
          ⊎_elim
          (λ (z : j ≡ items). rw z (omega (arith, v.taped.count)))
          (λ (z : j < items). v.room j z)
          (eq-or-lt_of_le le)

      spot_next : spot_of d starts' lens' opened' at' false ≡ next_of d (behind d s items)
      spot_next =
          rw (eo, ea)
          (ap (λ (x : Opened). record { at = end_of at i; first = false; opened = x }) opened_next
          ∙ ap (λ (j : Item). record { at = end_of at j; first = false; opened = after_item d at j (opened_of d starts lens opened) }) e
          ∙ ap (next_of d) v.spot)

      pub reel_on : Reeling d s starts' lens' tape' opened' at' false items' tags'
      reel_on =
          rw (ei, add-one items, eg)
          (record {
            names = rw eo names_next;
            opens = rw eo opens_next;
            within = omega (arith, further.1);
            spot = spot_next;
            taped = rw et taped_next;
            room = room_next;
            ahead = omega (arith, v.ahead, further.0);
            fewer = omega (arith, v.fewer, one_most i);
            few = omega (arith, one_most i);
            long = ap length et ∙ put_long tape tags at i ∙ v.long;
          })

pub ruleset reels = (reel_start, reel_over, reel_fault, reel_fits, reel_counts, reel_less)
