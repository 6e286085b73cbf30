-- The answer on a document. `scan`: the scan from here on, with as much fuel as is left, is the scan from the start. An item that may stand
-- where it stands ends past its beginning, so less is left after it.
use mathlib.Core.Path.{◌≡◌, refl, sym, ap, ◌∙◌}
use mathlib.Core.Bool.{Bool, true, false, cond, ◌&&◌, false≢true}
use mathlib.Core.List.{List}
use Prim.Native.Nat.{ℕ, zero, suc, ◌+◌, ◌-◌, ◌^◌, ◌≤◌, ◌<◌}
use native.Mathlib.Omega.{arith}
use borrow.Author.Tests.{lt-ltb, le-ltb}
use lib.ListN.{length, drop, set, replicate, length-replicate}
use Rattle.std.specs.Prelude.{Result, Ok, Err, ⊤}
use Rattle.xml.specs.Character.{begins}
use Rattle.chars.specs.Check.{check_of}
use Rattle.std.specs.Prelude.{Result, Ok, Err}
use Rattle.chars.specs.declared.whole.CharError.{CharError}
use Rattle.readers.specs.Named.{other_encoding}
use Rattle.readers.proofs.Answers.{text_inside}
use Rattle.tags.specs.declared.Item.{Item}
use Rattle.tags.specs.declared.Item.TheVariants.{Declaration, Instruction, Comment, Section, Reference, Text, Start, Finish}
use Rattle.tags.specs.declared.Item.TheVariants.{Doctype, Malformed, TooLarge, Nothing}
use Rattle.items.specs.Item.{item_at}
use Rattle.items.specs.Inside.{Inside}
use Rattle.items.proofs.Insides.{item_inside}
use Rattle.document.specs.Place.{Opened, outside, placement, after_item, end_of}
use Rattle.document.specs.Levels.{opened_of, Names, open_after, len_of}
use Rattle.document.specs.Judge.{front, start_of, onward, scan_from, scanned, judge_of}
use Rattle.document.specs.declared.Open.{Open}
use Rattle.document.specs.declared.Why.{Why}
use Rattle.document.specs.declared.Placement.{Placement}
use Rattle.document.specs.declared.Placement.TheVariants.{Fine, Fault, Over}
use Rattle.document.specs.declared.DocumentError.{DocumentError}
use Rattle.document.specs.declared.DocumentError.TheVariants.{TooLong, OtherEncoding, NotChar, At}
use Rattle.document.proofs.After.{opened_after, names_after}

-- ---- the place of the first item

module _ (d : List ℕ) {b : Bool} (t : b ≡ begins front (drop 0 d)) where
  pub start_three : b ≡ true → 3 ≡ start_of d
  unfolding start_of
  start_three q = sym (rw (sym t ∙ q))

  pub start_zero : b ≡ false → 0 ≡ start_of d
  unfolding start_of
  start_zero q = sym (rw (sym t ∙ q))

pub ruleset beginning = (start_three, start_zero)

start_inside : (d : List ℕ) → start_of d ≤ length d
unfolding start_of
start_inside d = go (begins front d) refl
  where
    go : (b : Bool) → begins front d ≡ b → cond b 3 0 ≤ length d
    go true e = text_inside d 0 front (sym e) refl (omega arith)
    go false e = omega arith

-- ---- an item that may stand where it stands

abbrev is_fine : Placement → Bool
is_fine Fine = true
is_fine (Fault why) = false
is_fine Over = false

fault_fine : {A : Type 0} (why : Why) → Fault why ≡ Fine → A
fault_fine why e = absurd (false≢true (ap is_fine e))

over_fine : {A : Type 0} (b : Bool) (why : Why) → cond b Over (Fault why) ≡ Fine → A
over_fine true why e = absurd (false≢true (ap is_fine e))
over_fine false why e = absurd (false≢true (ap is_fine e))

pub fine_ahead : (d : List ℕ) (at : ℕ) (i : Item) (s : Opened) → Inside d at i → placement d at i s ≡ Fine
    → (at < end_of at i) × (end_of at i ≤ length d)
fine_ahead d at (Declaration e) s h q = h
fine_ahead d at (Instruction e) s h q = h
fine_ahead d at (Comment e) s h q = h
fine_ahead d at (Section e) s h q = h
fine_ahead d at (Reference n e) s h q = h
fine_ahead d at (Text e) s h q = h
fine_ahead d at (Start n k e m t) s h q = (let z = h.0 in let y = h.1 in omega arith, h.2)
fine_ahead d at (Finish n e) s h q = (let z = h.0 in omega arith, h.1)
fine_ahead d at Doctype s h q = fault_fine _ q
fine_ahead d at Malformed s h q = fault_fine _ q
fine_ahead d at TooLarge s h q = fault_fine _ q
fine_ahead d at Nothing s h q = over_fine (s.rooted && outside s) _ q

-- ---- `scan`

pub record Judging (d starts lens : List ℕ) (o : Open) (at : ℕ) (first : Bool) : Type 0 where
  pub names : Names d starts lens o
  pub within : at ≤ length d
  pub fuel : ℕ
  pub enough : length d - at < fuel
  pub same : scan_from fuel d at first (opened_of d starts lens o) ≡ scanned d

pub judge_start : (d : List ℕ) {o : Open} {at : ℕ} → o ≡ record { level = record { 0 = 0 }; rooted = false } → at ≡ start_of d
    → Judging d (replicate 64 0) (replicate 64 0) o at true
unfolding scanned
judge_start d e q =
    rw (e, q)
    (record {
      names =
          record {
            deep = omega arith;
            starts_long = length-replicate {A = ℕ} 64 0;
            lens_long = length-replicate {A = ℕ} 64 0;
            inside = λ i h. absurd (omega arith);
          };
      within = start_inside d;
      fuel = suc (length d);
      enough = omega arith;
      same = refl;
    })

-- the fuel is not used up
less : (n k : ℕ) → n < k → (j : ℕ) × (k ≡ suc j)
less n zero l = absurd (omega arith)
less n (suc j) l = (j, refl)

abbrev left : {d starts lens : List ℕ} {o : Open} {at : ℕ} {first : Bool} → Judging d starts lens o at first → ℕ
left {d} {at = at} v = (less (length d - at) v.fuel v.enough).0

left_is : {d starts lens : List ℕ} {o : Open} {at : ℕ} {first : Bool} (v : Judging d starts lens o at first) → v.fuel ≡ suc (left v)
left_is {d} {at = at} v = (less (length d - at) v.fuel v.enough).1

-- the scan goes on with what is left of it
scan_step : (k : ℕ) (d : List ℕ) (at : ℕ) (first : Bool) (s : Opened)
    → onward (placement d at (item_at first d at) s) at
    (scan_from k d (end_of at (item_at first d at)) false (after_item d at (item_at first d at) s))
    ≡ scan_from (suc k) d at first s
unfolding scan_from
scan_step k d at first s = refl

module _ {d starts lens : List ℕ} {o : Open} {at : ℕ} {first : Bool} (v : Judging d starts lens o at first) {i : Item}
    (e : i ≡ item_at first d at) {p : Placement} (q : p ≡ placement d at i (opened_of d starts lens o)) where
  step : onward p at (scan_from (left v) d (end_of at i) false (after_item d at i (opened_of d starts lens o))) ≡ scanned d
  step =
      let s = opened_of d starts lens o in
      ap (λ (x : Placement). onward x at (scan_from (left v) d (end_of at i) false (after_item d at i s))) q
      ∙ ap (λ (j : Item). onward (placement d at j s) at (scan_from (left v) d (end_of at j) false (after_item d at j s))) e
      ∙ scan_step (left v) d at first s
      ∙ ap (λ (k : ℕ). scan_from k d at first s) (sym (left_is v))
      ∙ v.same

  pub judge_fault : (why : Why) → p ≡ Fault why → Err (At why at) ≡ scanned d
  judge_fault why h =
      sym (ap (λ (x : Placement). onward x at (scan_from (left v) d (end_of at i) false (after_item d at i (opened_of d starts lens o)))) h)
      ∙ step

  pub judge_over : p ≡ Over → Ok tt ≡ scanned d
  judge_over h =
      sym (ap (λ (x : Placement). onward x at (scan_from (left v) d (end_of at i) false (after_item d at i (opened_of d starts lens o)))) h)
      ∙ step

  module _ (h : p ≡ Fine) (inner : Inside d at i) where
    ahead : (at < end_of at i) × (end_of at i ≤ length d)
    ahead = fine_ahead d at i (opened_of d starts lens o) inner (sym q ∙ h)

    pub judge_less : {n : ℕ} → n ≡ end_of at i → length d - n < length d - at
    judge_less g = rw g (let z = ahead.0 in let y = ahead.1 in omega arith)

    pub judge_on : {starts' lens' : List ℕ} {o' : Open} {n : ℕ} → Names d starts' lens' o'
        → opened_of d starts' lens' o' ≡ after_item d at i (opened_of d starts lens o) → n ≡ end_of at i
        → Judging d starts' lens' o' n false
    judge_on {starts'} {lens'} {o'} {n} ns os g =
        record {
          names = ns;
          within = let y = ahead.1 in omega arith;
          fuel = left v;
          enough = let z = ahead.0 in let y = ahead.1 in let x = v.enough in let w = left_is v in omega arith;
          same =
              ap (λ (k : ℕ). scan_from (left v) d k false (opened_of d starts' lens' o')) g
              ∙ ap (scan_from (left v) d (end_of at i) false) os
              ∙ sym (ap
              (λ (x : Placement). onward x at (scan_from (left v) d (end_of at i) false (after_item d at i (opened_of d starts lens o)))) h)
              ∙ step;
        }

-- ---- `judge`

module _ (d : List ℕ) where
  pub judged_long : 16777216 < length d → Err TooLong ≡ judge_of d
  unfolding judge_of
  judged_long l = sym (rw (lt-ltb 16777216 (length d) l))

  -- what the code asks of the declaration at the place of the first item
  pub judged_named : {o : ℕ} → o ≡ start_of d → {b : Bool} → b ≡ other_encoding (drop o d) → {x : Bool} → b ≡ x
      → other_encoding (drop (start_of d) d) ≡ x
  judged_named e q h = rw (← e) (sym q ∙ h)

  module _ (l : length d ≤ 16777216) where
    pub judged_other : {o : ℕ} → o ≡ start_of d → {b : Bool} → b ≡ other_encoding (drop o d) → b ≡ true → Err (OtherEncoding o) ≡ judge_of d
    unfolding judge_of
    judged_other e q h = ap (λ (n : ℕ). Err (OtherEncoding n)) e ∙ sym (rw (le-ltb 16777216 (length d) l, judged_named e q h))

    module _ (n : other_encoding (drop (start_of d) d) ≡ false) {c : Result Unit CharError} (e : c ≡ check_of d) where
      pub judged_items : c ≡ Ok tt → {r : Result ⊤ DocumentError} → r ≡ scanned d → r ≡ judge_of d
      unfolding judge_of
      judged_items q h = h ∙ sym (rw (le-ltb 16777216 (length d) l, n, sym e ∙ q))

      pub judged_char : {k : ℕ} → c ≡ Err (record { valid_up_to = k }) → Err (NotChar k) ≡ judge_of d
      unfolding judge_of
      judged_char q = sym (rw (le-ltb 16777216 (length d) l, n, sym e ∙ q))

pub ruleset judging = (judged_long, judged_named, judged_other, judged_items, judged_char)

-- ---- the loop of `scan`

module _ {d starts lens : List ℕ} {o : Open} {at : ℕ} {first : Bool} (v : Judging d starts lens o at first) {i : Item}
    (e : i ≡ item_at first d at) where
  pub scan_inside : Inside d at i
  scan_inside = rw e (item_inside first d at)

  module _ {p : Placement} (q : p ≡ placement d at i (opened_of d starts lens o)) (h : p ≡ Fine) where
    pub scan_fits : length d < 2 ^ 64 → at + 1 ≤ 18446744073709551615
    scan_fits l =
        let z = fine_ahead d at i (opened_of d starts lens o) scan_inside (sym q ∙ h) in
        let y = z.0 in
        let x = z.1 in
        omega arith

    pub scan_less : {n : ℕ} → n ≡ end_of at i → length d - n < length d - at
    scan_less g = judge_less v e q h scan_inside g

    pub scan_on : {starts' lens' : List ℕ} {o' : Open} {n : ℕ} → starts' ≡ set starts o.level.0 (at + 1)
        → lens' ≡ set lens o.level.0 (len_of i) → o' ≡ open_after i o → n ≡ end_of at i → Judging d starts' lens' o' n false
    scan_on s l w g =
        let r = sym q ∙ h in
        judge_on v e q h scan_inside
        (rw (s, l, w) (names_after v.names at i scan_inside r))
        (rw (s, l, w) (opened_after v.names at i r)) g

pub scan_names : {d starts lens : List ℕ} {o : Open} {at : ℕ} {first : Bool} → Judging d starts lens o at first → Names d starts lens o
scan_names v = v.names

pub scan_deep : {d starts lens : List ℕ} {o : Open} {at : ℕ} {first : Bool} → Judging d starts lens o at first → o.level.0 ≤ 64
scan_deep v = v.names.deep

pub ruleset scanning =
    (judge_start, judge_fault, judge_over, scan_inside, scan_fits, scan_less, scan_on, scan_names, scan_deep)
