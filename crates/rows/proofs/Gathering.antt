-- The text directly in an element, item by item: what an item is to it; what is gathered up to a place, `Gathered`, which goes from item to
-- item; the field of that text. Then the joints of a path.
use mathlib.Core.Path.{◌≡◌, refl, sym, ap, ◌∙◌}
use mathlib.Core.Bool.{Bool, true, false, ◌||◌, false≢true}
use mathlib.Core.List.{List, [], ◌∷◌, ◌++◌, append_assoc, append-nil}
use Prim.Native.Nat.{ℕ, zero, suc, ◌+◌, ◌-◌, ◌*◌, ◌≤◌, ◌<◌}
use native.Mathlib.Numerals.{add-one}
use native.Mathlib.Omega.{arith}
use lib.ListN.{length, drop, length-drop}
use lib.Seq.{length-take-le}
use Rattle.tags.specs.declared.Item.{Item}
use Rattle.tags.specs.declared.Item.TheVariants.{Declaration, Instruction, Comment, Section, Reference, Text, Start, Finish}
use Rattle.tags.specs.declared.Item.TheVariants.{Doctype, Malformed, TooLarge, Nothing}
use Rattle.items.specs.Item.{item_at}
use Rattle.items.specs.Inside.{Inside}
use Rattle.items.proofs.Insides.{item_inside}
use Rattle.document.specs.Place.{end_of}
use Rattle.trees.specs.Grown.{Token, part, item_tokens, tokens_from}
use Rattle.writer.specs.Wrote.{Wrote}
use Rattle.writer.proofs.Laying.{wrote_none}
use Rattle.rows.specs.Text.{said_of}
use Rattle.rows.specs.Tokens.{said_at, text_over, text_from}
use Rattle.rows.specs.Laid.{Lays, start_part, part_of, joint}
use Rattle.rows.specs.declared.field.Laid.{Laid}
use Rattle.rows.specs.declared.gather.Part.{Part}
use Rattle.rows.specs.declared.gather.Part.TheVariants.{Opens, Closes, Whole, Aside, Stops}
use Rattle.rows.proofs.Laying.{lays_none, lays_more, lays_long}

-- ---- what an item is

pub part_start : {i : Item} {p : Part} {n h e : ℕ} {m t : Bool} → i ≡ Start n h e m t → p ≡ start_part m → p ≡ part_of i
part_start q r = rw q r

pub ruleset parting = (part_start)

-- the text from an item on, n deep: what it says, and what follows it
abbrev part_text : Part → ℕ → List ℕ → List Token → List ℕ
part_text Opens n raw ts = text_over (suc n) ts
part_text Closes zero raw ts = []
part_text Closes (suc n) raw ts = text_over n ts
part_text Whole n raw ts = text_over n ts
part_text Aside n raw ts = said_at n raw ++ text_over n ts
part_text Stops n raw ts = []

over_start : (m : Bool) (n : ℕ) (raw : List ℕ) (ts : List Token) (d : List ℕ) (at k h e : ℕ) (t : Bool)
    → text_over n (item_tokens d at (Start k h e m t) ts) ≡ part_text (start_part m) n raw ts
over_start true n raw ts d at k h e t = refl
over_start false n raw ts d at k h e t = refl

over_finish : (n : ℕ) (raw : List ℕ) (ts : List Token) (d : List ℕ) (at k e : ℕ)
    → text_over n (item_tokens d at (Finish k e) ts) ≡ part_text Closes n raw ts
over_finish zero raw ts d at k e = refl
over_finish (suc n) raw ts d at k e = refl

pub over_part : (d : List ℕ) (at : ℕ) (i : Item) (n : ℕ) (ts : List Token)
    → text_over n (item_tokens d at i ts) ≡ part_text (part_of i) n (part d at (end_of at i)) ts
over_part d at (Declaration e) n ts = refl
over_part d at (Instruction e) n ts = refl
over_part d at (Comment e) n ts = refl
over_part d at (Section e) n ts = refl
over_part d at (Reference c e) n ts = refl
over_part d at (Text e) n ts = refl
over_part d at (Start k h e m t) n ts = over_start m n (part d at e) ts d at k h e t
over_part d at (Finish k e) n ts = over_finish n (part d at e) ts d at k e
over_part d at Doctype n ts = refl
over_part d at Malformed n ts = refl
over_part d at TooLarge n ts = refl
over_part d at Nothing n ts = refl

-- ---- what is gathered from the place `from` up to the place i: the rest is what is left from there on, `depth` deep
pub record Gathered (d : List ℕ) (from : ℕ) (q : Bool) (o : List ℕ) (to i depth place : ℕ) (sp : Bool) (o' : List ℕ) : Type 0 where
  pub done : List ℕ
  pub left : ℕ
  pub enough : length d < left + i
  pub all : text_from 0 d from ≡ done ++ text_over depth (tokens_from left d i false)
  pub laid : Lays q o to done (record { to = place; special = sp }) o'
  pub inside : i ≤ length d
  pub deep : depth + from ≤ i
  pub near : place + 8 * from ≤ to + 8 * i
  pub same : length o' ≡ length o

pub gathered_start : {d : List ℕ} {from : ℕ} {q : Bool} {o : List ℕ} {to : ℕ} → from ≤ length d → Gathered d from q o to from 0 to false o
unfolding text_from
gathered_start {d} h =
    record {
      done = [];
      left = suc (length d);
      enough = omega arith;
      all = refl;
      laid = lays_none;
      inside = h;
      deep = omega arith;
      near = omega arith;
      same = refl;
    }

pub opens_stops : Opens ≡ Stops → ⊥
opens_stops e = false≢true cc

pub whole_stops : Whole ≡ Stops → ⊥
whole_stops e = false≢true cc

pub closes_stops : Closes ≡ Stops → ⊥
closes_stops e = false≢true cc

pub aside_stops : Aside ≡ Stops → ⊥
aside_stops e = false≢true cc

closes_up : (n : ℕ) → (n ≡ 0 → ⊥) → (raw : List ℕ) (ts : List Token) → part_text Closes n raw ts ≡ text_over (n - 1) ts
closes_up zero h raw ts = absurd (h refl)
closes_up (suc n) h raw ts = let e : suc n - 1 ≡ n = omega arith in rw e

aside_here : (p : Part) (n : ℕ) → p ≡ Aside → n ≡ 0 → (raw : List ℕ) (ts : List Token)
    → part_text p n raw ts ≡ said_of raw ++ text_over n ts
aside_here p n t z raw ts = rw (t, z)

aside_over : (n : ℕ) → (n ≡ 0 → ⊥) → (raw : List ℕ) (ts : List Token) → part_text Aside n raw ts ≡ text_over n ts
aside_over zero h raw ts = absurd (h refl)
aside_over (suc n) h raw ts = refl

-- an item that is one ends behind its place, inside the document
ahead : (d : List ℕ) (at : ℕ) (i : Item) → Inside d at i → (part_of i ≡ Stops → ⊥) → (at < end_of at i) × (end_of at i ≤ length d)
ahead d at (Declaration e) h n = h
ahead d at (Instruction e) h n = h
ahead d at (Comment e) h n = h
ahead d at (Section e) h n = h
ahead d at (Reference c e) h n = h
ahead d at (Text e) h n = h
ahead d at (Start k h e m t) (x, y, z) n = (omega arith, z)
ahead d at (Finish k e) (x, y) n = (omega arith, y)
ahead d at Doctype h n = absurd (n refl)
ahead d at Malformed h n = absurd (n refl)
ahead d at TooLarge h n = absurd (n refl)
ahead d at Nothing h n = absurd (n refl)

-- the text from a place on, by the item there
rest_by : (left : ℕ) (d : List ℕ) (at n : ℕ) → length d < left + at → at ≤ length d
    → (k : ℕ) × (left ≡ suc k)
    × (text_over n (tokens_from left d at false)
    ≡ part_text (part_of (item_at false d at)) n (part d at (end_of at (item_at false d at)))
    (tokens_from k d (end_of at (item_at false d at)) false))
unfolding tokens_from
rest_by zero d at n h i = absurd (omega arith)
rest_by (suc k) d at n h i = (k, refl, over_part d at (item_at false d at) n _)

module _ {d : List ℕ} {from : ℕ} {q : Bool} {o o₁ : List ℕ} {to i depth place : ℕ} {sp : Bool}
    (v : Gathered d from q o to i depth place sp o₁) {it : Item} {p : Part} {e : ℕ} (a : it ≡ item_at false d i) (b : e ≡ end_of i it)
    (g : p ≡ part_of it) where
  rest : (k : ℕ) × (v.left ≡ suc k)
      × (text_over depth (tokens_from v.left d i false) ≡ part_text p depth (part d i e) (tokens_from k d e false))
  rest =
      let (k, l, x) = rest_by v.left d i depth v.enough v.inside in
      (k, l, rw (g, b, a) x)

  on : (p ≡ Stops → ⊥) → (i < e) × (e ≤ length d)
  on h = rw b (ahead d i it (rw a (item_inside false d i)) (λ z. h (g ∙ z)))

  -- whatever it is: the next place is ahead, and nearer to the end
  pub ahead_by : {x : Part} → p ≡ x → (x ≡ Stops → ⊥) → (i < e) × (e ≤ length d)
  ahead_by t h = on (λ z. h (sym t ∙ z))

  pub nearer : {x : Part} → p ≡ x → (x ≡ Stops → ⊥) → length d - e < length d - i
  nearer t h = let (f, m) = ahead_by t h in omega arith

  pub said_ready : p ≡ Aside → length d ≤ 16777216 → to < 4611686018427387904
      → (length (part d i e) ≤ 16777216) × (place < 9223372036854775808)
  said_ready t s l =
      let (f, m) = ahead_by t aside_stops in
      let long : length (part d i e) ≡ e - i = length-take-le (e - i) (drop i d) (omega (arith, length-drop i d)) in
      (omega arith, omega (arith, v.near, v.inside))

  -- past an item that says nothing here
  moved : (depth' : ℕ) → (p ≡ Stops → ⊥) → ((ts : List Token) → part_text p depth (part d i e) ts ≡ text_over depth' ts)
      → depth' ≤ depth + 1 → Gathered d from q o to e depth' place sp o₁
  moved depth' h u n =
      let (k, l, x) = rest in
      let (f, m) = on h in
      record {
        done = v.done;
        left = k;
        enough = omega (arith, v.enough, l);
        all = v.all ∙ ap (λ (y : List ℕ). v.done ++ y) (x ∙ u (tokens_from k d e false));
        laid = v.laid;
        inside = m;
        deep = omega (arith, v.deep);
        near = omega (arith, v.near);
        same = v.same;
      }

  -- the text is over
  whole : length d ≤ 16777216 → ((ts : List Token) → part_text p depth (part d i e) ts ≡ [])
      → Lays q o to (text_from 0 d from) (record { to = place; special = sp }) o₁ × (place ≤ to + 134217728)
  whole s u =
      let (k, l, x) = rest in
      let z : text_from 0 d from ≡ v.done =
      v.all ∙ ap (λ (y : List ℕ). v.done ++ y) (x ∙ u (tokens_from k d e false)) ∙ append-nil v.done in
      (rw z v.laid, omega (arith, v.near, v.inside))

  pub gathered_stop : length d ≤ 16777216 → p ≡ Stops
      → Lays q o to (text_from 0 d from) (record { to = place; special = sp }) o₁ × (place ≤ to + 134217728)
  gathered_stop s t = whole s (λ ts. rw t)

  pub gathered_close : length d ≤ 16777216 → p ≡ Closes → depth ≡ 0
      → Lays q o to (text_from 0 d from) (record { to = place; special = sp }) o₁ × (place ≤ to + 134217728)
  gathered_close s t z = whole s (λ ts. rw (t, z))

  pub gathered_down : p ≡ Opens → Gathered d from q o to e (depth + 1) place sp o₁
  gathered_down t = moved (depth + 1) (λ z. absurd (opens_stops (sym t ∙ z))) (λ ts. rw (t, add-one depth)) (omega arith)

  pub gathered_whole : p ≡ Whole → Gathered d from q o to e depth place sp o₁
  gathered_whole t = moved depth (λ z. absurd (whole_stops (sym t ∙ z))) (λ ts. rw t) (omega arith)

  pub gathered_up : p ≡ Closes → (depth ≡ 0 → ⊥) → Gathered d from q o to e (depth - 1) place sp o₁
  gathered_up t h = moved (depth - 1) (λ z. absurd (closes_stops (sym t ∙ z))) (λ ts. rw t (closes_up depth h _ ts)) (omega arith)

  pub gathered_over : p ≡ Aside → (depth ≡ 0 → ⊥) → Gathered d from q o to e depth place sp o₁
  gathered_over t h = moved depth (λ z. absurd (aside_stops (sym t ∙ z))) (λ ts. rw t (aside_over depth h _ ts)) (omega arith)

  -- what an item says directly in the element
  pub gathered_said : {r : Laid} {o₂ : List ℕ} → p ≡ Aside → depth ≡ 0
      → Lays q o₁ place (said_of (part d i e)) r o₂ × (r.to ≤ place + 8 * length (part d i e))
      → Gathered d from q o to e depth r.to (sp || r.special) o₂
  gathered_said t z (w, n) =
      let (k, l, x) = rest in
      let (f, m) = on (λ y. absurd (aside_stops (sym t ∙ y))) in
      let long : length (part d i e) ≡ e - i = length-take-le (e - i) (drop i d) (omega (arith, length-drop i d)) in
      record {
        done = v.done ++ said_of (part d i e);
        left = k;
        enough = omega (arith, v.enough, l);
        all =
            v.all
            ∙ ap (λ (y : List ℕ). v.done ++ y) (x ∙ aside_here p depth t z (part d i e) (tokens_from k d e false))
            ∙ sym (append_assoc v.done _ _);
        laid = lays_more v.laid w;
        inside = m;
        deep = omega (arith, v.deep);
        near = omega (arith, v.near, long);
        same = lays_long w ∙ v.same;
      }

pub ruleset gathering =
    (gathered_start, gathered_stop, gathered_close, gathered_down, gathered_whole, gathered_up, gathered_over, gathered_said)

-- ---- the joints of a path

joint_suc : (k : ℕ) → (k ≡ 0 → ⊥) → joint k ≡ 0x2F ∷ []
joint_suc zero h = absurd (h refl)
joint_suc (suc k) h = refl

pub joint_none : {k to : ℕ} {o : List ℕ} → k ≡ 0 → Wrote o to (joint k) to o × (to ≤ to + 1)
joint_none e = (rw e wrote_none, omega arith)

pub joint_laid : {k to r : ℕ} {o o₁ : List ℕ} → (k ≡ 0 → ⊥) → Wrote o to (0x2F ∷ []) r o₁ → Wrote o to (joint k) r o₁ × (r ≤ to + 1)
joint_laid {k} h w = (rw (joint_suc k h) w, omega (arith, w.long))

pub ruleset joining = (joint_none, joint_laid)
