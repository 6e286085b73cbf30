-- `mended`, item by item. What is kept from here on, with as much fuel as is left, is what is kept of the document. The scan goes beside
-- it, so that the fault's place is known. With an element open a root was there.
use mathlib.Core.Path.{◌≡◌, refl, sym, ap, ◌∙◌}
use mathlib.Core.Bool.{Bool, true, false, cond, not, ◌&&◌, ◌||◌, false≢true}
use mathlib.Core.List.{List}
use Prim.Native.Nat.{ℕ, zero, suc, ◌+◌, ◌-◌, ◌^◌, ◌≤◌, ◌<◌}
use native.Mathlib.Omega.{arith}
use borrow.Author.Tests.{lt-ltb, ltb-true}
use lib.Dec.{leb, ltb}
use lib.ListN.{length, set, replicate}
use Rattle.std.specs.Prelude.{Result, Err}
use Rattle.xml.proofs.Bools.{and_left}
use Rattle.tags.specs.Kept.{name_from}
use Rattle.tags.specs.declared.Item.{Item}
use Rattle.tags.specs.declared.Item.TheVariants.{Declaration, Instruction, Comment, Section, Reference, Text, Start, Finish}
use Rattle.tags.specs.declared.Item.TheVariants.{Doctype, Malformed, TooLarge, Nothing}
use Rattle.items.specs.Item.{item_at}
use Rattle.items.specs.Inside.{Inside}
use Rattle.document.specs.Place.{Opened, some, inside, outside, formed, blank, closes, placement, after_item, end_of}
use Rattle.document.specs.Levels.{names_of, opened_of, Names, open_after, len_of}
use Rattle.document.specs.Judge.{start_of, scanned, second_of}
use Rattle.document.specs.declared.Open.{Open}
use Rattle.document.specs.declared.Why.{Why}
use Rattle.document.specs.declared.Placement.{Placement}
use Rattle.document.specs.declared.Placement.TheVariants.{Fine, Fault, Over}
use Rattle.document.proofs.After.{opened_after}
use Rattle.document.proofs.Judging.{Judging, judge_start, judge_fault, scan_inside, scan_fits, scan_less, scan_on, fine_ahead}
use Rattle.mend.specs.Kept.{Kept, halved, stays, kept_by, kept_from, kept_of}
use Rattle.mend.specs.Levels.{halved_by}
use Rattle.mend.specs.Mended.{mended_by}
use Rattle.mend.specs.Answer.{by_root, by_room, answer_by, after}
use Rattle.mend.specs.declared.Mended.{Mended}
use Rattle.mend.specs.declared.MendError.{MendError}
use Rattle.mend.specs.declared.MendError.TheVariants.{NoRoot}
use Rattle.mend.proofs.Laying.{kept_here}

-- ---- an item and a level

names_some : (d starts lens : List ℕ) (k : ℕ) → ltb 0 k ≡ some (names_of d starts lens k)
names_some d starts lens zero = refl
names_some d starts lens (suc k) = lt-ltb 0 (suc k) (omega arith)

halved_is : (d starts lens : List ℕ) (o : Open) (i : Item) → halved_by (length d) i o.level.0 ≡ halved d i (opened_of d starts lens o)
halved_is d starts lens o (Declaration e) = refl
halved_is d starts lens o (Instruction e) = refl
halved_is d starts lens o (Comment e) = refl
halved_is d starts lens o (Section e) = refl
halved_is d starts lens o (Reference c e) = refl
halved_is d starts lens o (Text e) = ap (λ (b : Bool). b && leb (length d) e) (names_some d starts lens o.level.0)
halved_is d starts lens o (Start n h e m t) = refl
halved_is d starts lens o (Finish n e) = refl
halved_is d starts lens o Doctype = refl
halved_is d starts lens o Malformed = refl
halved_is d starts lens o TooLarge = refl
halved_is d starts lens o Nothing = refl

-- such a text stands inside an element
halved_open : (n : ℕ) (i : Item) (level : ℕ) → halved_by n i level ≡ true → 0 < level
halved_open n (Declaration e) level q = absurd (false≢true q)
halved_open n (Instruction e) level q = absurd (false≢true q)
halved_open n (Comment e) level q = absurd (false≢true q)
halved_open n (Section e) level q = absurd (false≢true q)
halved_open n (Reference c e) level q = absurd (false≢true q)
halved_open n (Text e) level q = ltb-true 0 level (and_left (ltb 0 level) (leb n e) q)
halved_open n (Start m h e b t) level q = absurd (false≢true q)
halved_open n (Finish m e) level q = absurd (false≢true q)
halved_open n Doctype level q = absurd (false≢true q)
halved_open n Malformed level q = absurd (false≢true q)
halved_open n TooLarge level q = absurd (false≢true q)
halved_open n Nothing level q = absurd (false≢true q)

stays_fine : (p : Placement) (h : Bool) → stays p h ≡ true → p ≡ Fine
stays_fine Fine h q = refl
stays_fine (Fault why) h q = absurd (false≢true q)
stays_fine Over h q = absurd (false≢true q)

-- ---- without a root the items are not over

abbrev is_over : Placement → Bool
is_over Fine = false
is_over (Fault why) = false
is_over Over = true

formed_goes : (b : Bool) → is_over (formed b) ≡ false
formed_goes true = refl
formed_goes false = refl

start_goes : (b c : Bool) (w : Why) → is_over (cond b (Fault w) (formed c)) ≡ false
start_goes true c w = refl
start_goes false c w = formed_goes c

end_goes : (r b : Bool) (w : Why) → r ≡ false → is_over (cond (r && b) Over (Fault w)) ≡ false
end_goes true b w q = absurd (false≢true (sym q))
end_goes false b w q = refl

rootless_goes : (d : List ℕ) (at : ℕ) (i : Item) (s : Opened) → s.rooted ≡ false → is_over (placement d at i s) ≡ false
rootless_goes d at (Declaration e) s q = refl
rootless_goes d at (Instruction e) s q = refl
rootless_goes d at (Comment e) s q = refl
rootless_goes d at (Section e) s q = formed_goes (inside s)
rootless_goes d at (Reference c e) s q = formed_goes (inside s)
rootless_goes d at (Text e) s q = formed_goes (inside s || blank d at e)
rootless_goes d at (Start n h e m t) s q = start_goes (leb 64 (length s.names)) (not (t || (s.rooted && outside s))) _
rootless_goes d at (Finish n e) s q = formed_goes (closes (name_from d (at + 2) n) s.names)
rootless_goes d at Doctype s q = refl
rootless_goes d at Malformed s q = refl
rootless_goes d at TooLarge s q = refl
rootless_goes d at Nothing s q = end_goes s.rooted (outside s) _ q

-- ---- without a root nothing is open

abbrev Plain : Open → Type 0
Plain o = o.rooted ≡ false → o.level.0 ≡ 0

plain_after : (i : Item) (o : Open) → Plain o → Plain (open_after i o)
plain_after (Declaration e) o f = f
plain_after (Instruction e) o f = f
plain_after (Comment e) o f = f
plain_after (Section e) o f = f
plain_after (Reference c e) o f = f
plain_after (Text e) o f = f
plain_after (Start n h e m t) o f = λ q. absurd (false≢true (sym q))
plain_after (Finish n e) o f = λ q. let z = f q in omega arith
plain_after Doctype o f = f
plain_after Malformed o f = f
plain_after TooLarge o f = f
plain_after Nothing o f = f

-- ---- the loop

pub record Keeping (d starts lens : List ℕ) (o : Open) (at : ℕ) (first : Bool) : Type 0 where
  pub judged : Judging d starts lens o at first
  pub plain : Plain o
  pub fuel : ℕ
  pub enough : length d - at < fuel
  pub same : kept_from fuel d at first (opened_of d starts lens o) ≡ kept_of d

pub keep_start : (d : List ℕ) {o : Open} {at : ℕ} → o ≡ record { level = record { 0 = 0 }; rooted = false } → at ≡ start_of d
    → Keeping d (replicate 64 0) (replicate 64 0) o at true
unfolding kept_of
keep_start d e q =
    record {
      judged = judge_start d e q;
      plain = rw e (λ z. refl);
      fuel = suc (length d);
      enough = omega arith;
      same = rw (e, q) refl;
    }

-- the fuel is not used up
less : (n k : ℕ) → n < k → (j : ℕ) × (k ≡ suc j)
less n zero l = absurd (omega arith)
less n (suc j) l = (j, refl)

keep_step : (k : ℕ) (d : List ℕ) (at : ℕ) (first : Bool) (s : Opened)
    → kept_by (placement d at (item_at first d at) s) (halved d (item_at first d at) s) (record { bytes = at; opened = s })
    (kept_from k d (end_of at (item_at first d at)) false (after_item d at (item_at first d at) s))
    ≡ kept_from (suc k) d at first s
unfolding kept_from
keep_step k d at first s = refl

module _ {d starts lens : List ℕ} {o : Open} {at : ℕ} {first : Bool} (v : Keeping d starts lens o at first) where
  pub keep_names : Names d starts lens o
  keep_names = v.judged.names

  pub keep_deep : o.level.0 ≤ 64
  keep_deep = v.judged.names.deep

  pub keep_within : at ≤ length d
  keep_within = v.judged.within

  abbrev here : Opened
  here = opened_of d starts lens o

  abbrev left : ℕ
  left = (less (length d - at) v.fuel v.enough).0

  left_is : v.fuel ≡ suc left
  left_is = (less (length d - at) v.fuel v.enough).1

  module _ {i : Item} (e : i ≡ item_at first d at) where
    pub keep_inside : Inside d at i
    keep_inside = scan_inside v.judged e

    module _ {p : Placement} (q : p ≡ placement d at i here) {h : Bool} (g : h ≡ halved_by (length d) i o.level.0) {b : Bool}
        (t : b ≡ stays p h) where
      abbrev on : Kept
      on = kept_from left d (end_of at i) false (after_item d at i here)

      step : cond b on (kept_here d starts lens o at) ≡ kept_of d
      step =
          ap (λ (x : Bool). cond x on (kept_here d starts lens o at)) t
          ∙ ap (λ (x : Placement). kept_by x h (kept_here d starts lens o at) on) q
          ∙ ap (λ (x : Bool). kept_by (placement d at i here) x (kept_here d starts lens o at) on) (g ∙ halved_is d starts lens o i)
          ∙ ap
          (λ (j : Item). kept_by (placement d at j here) (halved d j here) (kept_here d starts lens o at)
          (kept_from left d (end_of at j) false (after_item d at j here))) e
          ∙ keep_step left d at first here
          ∙ ap (λ (k : ℕ). kept_from k d at first here) (sym left_is)
          ∙ v.same

      -- where the item is kept
      module _ (y : b ≡ true) where
        fine : p ≡ Fine
        fine = stays_fine p h (sym t ∙ y)

        pub keep_fits : length d < 2 ^ 64 → at + 1 ≤ 18446744073709551615
        keep_fits l = scan_fits v.judged e q fine l

        pub keep_less : {n : ℕ} → n ≡ end_of at i → length d - n < length d - at
        keep_less z = scan_less v.judged e q fine z

        pub keep_on : {starts' lens' : List ℕ} {o' : Open} {n : ℕ} → starts' ≡ set starts o.level.0 (at + 1)
            → lens' ≡ set lens o.level.0 (len_of i) → o' ≡ open_after i o → n ≡ end_of at i → Keeping d starts' lens' o' n false
        keep_on {starts'} {lens'} {o'} {n} s l w z =
            let a = fine_ahead d at i here keep_inside (sym q ∙ fine) in
            record {
              judged = scan_on v.judged e q fine s l w z;
              plain = rw w (plain_after i o v.plain);
              fuel = left;
              enough = let a₀ = a.0 in let a₁ = a.1 in let x = v.enough in let u = left_is in omega arith;
              same =
                  ap (λ (k : ℕ). kept_from left d k false (opened_of d starts' lens' o')) z
                  ∙ ap (kept_from left d (end_of at i) false) (rw (s, l, w) (opened_after v.judged.names at i (sym q ∙ fine)))
                  ∙ sym (ap (λ (x : Bool). cond x on (kept_here d starts lens o at)) y)
                  ∙ step;
            }

      -- where it is not
      module _ (n : b ≡ false) where
        kept_is : kept_here d starts lens o at ≡ kept_of d
        kept_is = sym (ap (λ (x : Bool). cond x on (kept_here d starts lens o at)) n) ∙ step

        -- without a root the item is at fault, for it is no text inside an element, and the document is not sound
        fault_is : o.rooted ≡ false → second_of (scanned d) ≡ at
        fault_is r = go p h refl refl
          where
            go : (x : Placement) (y : Bool) → p ≡ x → h ≡ y → second_of (scanned d) ≡ at
            go Fine true z u = let m = halved_open (length d) i o.level.0 (sym g ∙ u) in let k = v.plain r in absurd (omega arith)
            go Fine false z u = absurd (false≢true (sym n ∙ t ∙ rw (z, u) refl))
            go (Fault why) y z u = ap second_of (sym (judge_fault v.judged e q why z))
            go Over y z u = absurd (false≢true (sym (rootless_goes d at i here r) ∙ ap is_over (sym q ∙ z)))

        at_fault : (room : ℕ) (k : Kept) → k ≡ kept_here d starts lens o at
            → answer_by d k at room ≡ answer_by d k (second_of (scanned d)) room
        at_fault room k z = go k.opened.rooted refl
          where
            go : (x : Bool) → k.opened.rooted ≡ x
                → by_root x at (by_room room (mended_by d k) k.bytes (length k.opened.names))
                ≡ by_root x (second_of (scanned d)) (by_room room (mended_by d k) k.bytes (length k.opened.names))
            go true u = refl
            go false u = ap (λ (n : ℕ). Err (NoRoot n)) (sym (fault_is (sym (ap (λ (j : Kept). j.opened.rooted) z) ∙ u)))

        -- what is answered here; the buffer is as it was when the loop began
        pub kept_answer : (r : Result Mended MendError) {w u u₀ : List ℕ} → u ≡ u₀
            → (r ≡ answer_by d (kept_here d starts lens o at) at (length u)) × (w ≡ after r (mended_by d (kept_here d starts lens o at)) u)
            → (r ≡ answer_by d (kept_of d) (second_of (scanned d)) (length u₀)) × (w ≡ after r (mended_by d (kept_of d)) u₀)
        kept_answer r {u₀ = u₀} same z = (
          z.0
              ∙ ap (λ (x : List ℕ). answer_by d (kept_here d starts lens o at) at (length x)) same
              ∙ ap (λ (k : Kept). answer_by d k at (length u₀)) kept_is
              ∙ at_fault (length u₀) (kept_of d) (sym kept_is),
          z.1
              ∙ ap (after r (mended_by d (kept_here d starts lens o at))) same
              ∙ ap (λ (k : Kept). after r (mended_by d k) u₀) kept_is,
        )

pub ruleset keeping =
    (keep_start, keep_names, keep_deep, keep_within, keep_inside, keep_fits, keep_less, keep_on)
