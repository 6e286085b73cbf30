-- The usual items inside an element: each is the item at its place, and may stand there. The ways through `usual_tag`, `usual` and
-- `next_item`. Then the names of the open elements when one more is kept.
use mathlib.Core.Path.{◌≡◌, refl, sym, ap, ◌∙◌}
use mathlib.Core.Bool.{Bool, true, false, cond, not, ◌&&◌, ◌||◌, and-false}
use mathlib.Core.List.{List, []}
use mathlib.Core.Logic.{⊎_elim}
use Prim.Native.Nat.{ℕ, ◌+◌, ◌-◌, ◌≤◌, ◌<◌}
use native.Mathlib.Nat.{eq-or-lt_of_le}
use native.Mathlib.Omega.{arith}
use borrow.Author.Tests.{ne_eqb, not-true}
use mir.Syntax.{w64}
use mir.Val.{Fits}
use lib.Dec.{eqb}
use lib.ListN.{length, get_or, set, drop}
use lib.Seq.{get_or-set_same, get_or-set_other}
use Rattle.xml.specs.Productions.{same as same_bytes}
use Rattle.xml.proofs.Same.{same_refl}
use Rattle.chars.specs.Name.{reading_at}
use Rattle.std.specs.Prelude.{Option, Some}
use Rattle.readers.specs.Plain.{text_of}
use Rattle.tags.specs.Kept.{name_from}
use Rattle.tags.specs.Tag.{tag_at}
use Rattle.tags.specs.Usual.{ToldMark}
use Rattle.tags.specs.declared.Item.{Item}
use Rattle.tags.specs.declared.Item.TheVariants.{Start, Finish, Text, Nothing}
use Rattle.items.specs.Item.{item_at}
use Rattle.items.specs.Inside.{Inside}
use Rattle.items.proofs.Insides.{item_inside}
use Rattle.items.proofs.Telling.{markup_next, markup_start, content_text}
use Rattle.document.specs.Place.{Opened, blank, placement}
use Rattle.document.specs.Levels.{Names, opened_of, start_by}
use Rattle.document.specs.declared.Open.{Open}
use Rattle.document.specs.declared.Placement.TheVariants.{Fine}
use Rattle.document.proofs.Placing.{formed_yes, closes_same, start_formed, place_text, place_start, place_finish, text_any}
use Rattle.plain.proofs.Texts.{texting_start, texting_markup}
use Rattle.quick.specs.End.{closes_here, NamedAt}
use Rattle.quick.proofs.Told.{answer_item, answer_name}
use Rattle.passes.specs.Opens.{Opens, Usual, untold, told}

-- ---- `usual_tag`

pub nothing_told : (d : List ℕ) (at : ℕ) (s : Opened) → Usual d at s Nothing
nothing_told d at s = untold refl

cond_small : (b : Bool) (n k : ℕ) → n ≤ k → cond b n 0 ≤ k
cond_small true n k l = l
cond_small false n k l = omega arith

module _ {d starts lens : List ℕ} {o : Open} (s : Names d starts lens o) (v : Opens d starts lens o.level.0)
    (small : length d ≤ 16777216) (z : 1 ≤ o.level.0) where
  abbrev x : ℕ
  x = get_or starts (o.level.0 - 1) 0

  abbrev n : ℕ
  n = get_or lens (o.level.0 - 1) 0

  pub open_index : o.level.0 - 1 < 64
  open_index = omega (arith, s.deep)

  pub open_inside : x + n ≤ length d
  open_inside = v.inside (o.level.0 - 1) (omega arith)

  module _ (at : ℕ) {r : ℕ} (e : r ≡ cond (closes_here d at x n) (n + 3) 0) where
    pub closing_fits : at < length d → Fits w64 (at + r)
    closing_fits l =
        let k : r ≤ 16777219 = rw e (cond_small (closes_here d at x n) (n + 3) 16777219 (omega (arith, open_inside))) in
        record { fits = omega arith }

    -- an end tag of the open element's name
    pub usual_finish : 0 < r → get_or d at 0 ≡ 0x3C → Usual d at (opened_of d starts lens o) (Finish n (at + r))
    usual_finish l b =
        let whole : true ≡ same_bytes (name_from d (at + 2) n) (name_from d x n) =
        sym (ap (λ (w : List ℕ). same_bytes w (name_from d x n)) (answer_name d at x n e l open_inside) ∙ same_refl (name_from d x n)) in
        told (λ first. sym (answer_item d at x n e l open_inside (v.named (o.level.0 - 1) (omega arith)) first b))
        (place_finish d starts lens o at {n = n} {e = at + r} refl
        (closes_same s (name_from d (at + 2) n) (λ q. omega arith) whole) refl)

-- a start tag with no attribute twice, at no deep level
module _ {d starts lens : List ℕ} {o : Open} (s : Names d starts lens o) (z : 1 ≤ o.level.0) (at : ℕ) (l : at < length d)
    (b : get_or d at 0 ≡ 0x3C) (n : length d - at ≡ 1 → ⊥) (deep : o.level.0 ≡ 64 → ⊥) where
  pub next_inside : at + 1 < length d
  next_inside = markup_next true d at l b n

  pub next_fits : length d ≤ 16777216 → Fits w64 (at + 1)
  next_fits k = record { fits = omega (arith, next_inside) }

  shallow : o.level.0 < 64
  shallow = ⊎_elim (λ q. absurd (deep q)) (λ q. q) (eq-or-lt_of_le s.deep)

  fine : (rooted : Bool) {twice : Bool} → twice ≡ false → Fine ≡ start_by o.level.0 rooted twice
  fine rooted {twice} q =
      start_formed o.level.0 rooted twice shallow
      (formed_yes {b = not (twice || (rooted && eqb o.level.0 0))}
      (rw (q, ne_eqb o.level.0 0 (λ y. omega arith), and-false rooted)))

  pub usual_start : 0x40 ≤ get_or d (at + 1) 0 → {i : Item} → i ≡ tag_at d at → {k h e : ℕ} {m twice : Bool} → i ≡ Start k h e m twice
      → not twice ≡ true → Usual d at (opened_of d starts lens o) (Start k h e m twice)
  usual_start f g {k} {h} {e} {m} {twice} q t =
      told
      (λ first. markup_start first d at l b n (λ y. omega arith) (λ y. omega arith) (λ y. omega arith) (sym q ∙ g))
      (place_start d starts lens o at {n = k} {h = h} {e = e} {m = m} {t = twice} refl (fine o.rooted (not-true twice t)))

pub ruleset usual_tags =
    (nothing_told, open_index, open_inside, closing_fits, usual_finish, next_inside, next_fits, usual_start)

-- ---- `usual`

pub before_end : (d : List ℕ) (at : ℕ) → at ≤ length d → (at ≡ length d → ⊥) → at < length d
before_end d at l ne = ⊎_elim (λ q. absurd (ne q)) (λ q. q) (eq-or-lt_of_le l)

-- text inside an element
pub usual_text : (d starts lens : List ℕ) (o : Open) (at : ℕ) → (o.level.0 ≡ 0 → ⊥) → at < length d → (get_or d at 0 ≡ 0x3C → ⊥)
    → (get_or d at 0 ≡ 0x26 → ⊥) → {r : Option ℕ} → r ≡ reading_at d at (text_of (drop at d)) → {e : ℕ} → r ≡ Some e
    → Usual d at (opened_of d starts lens o) (Text e)
usual_text d starts lens o at z l n m g {e} q =
    told
    (λ first. content_text first d at l n m g q)
    (place_text d starts lens o at refl (text_any o.level.0 (blank d at e) (omega arith)))

-- text whose end words tell
pub usual_words : (d starts lens : List ℕ) (o : Open) (at : ℕ) → (o.level.0 ≡ 0 → ⊥) → at < length d → (get_or d at 0 ≡ 0x3C → ⊥)
    → (get_or d at 0 ≡ 0x26 → ⊥) → {e : ℕ} → ToldMark 0x5D d at e → e < length d → (get_or d e 0 ≡ 0x5D → ⊥)
    → Usual d at (opened_of d starts lens o) (Text e)
usual_words d starts lens o at z l n m t h q =
    usual_text d starts lens o at z l n m (texting_markup (texting_start d at (t.is h)) h q) refl

pub ruleset usuals = (nothing_told, before_end, usual_text, usual_words)

-- ---- `next_item`

-- all but nothing
module _ {d : List ℕ} {at : ℕ} {s : Opened} {r : Item} (u : Usual d at s r) (k : r ≡ Nothing → ⊥) where
  told_both : ((first : Bool) → r ≡ item_at first d at) × (Fine ≡ placement d at r s)
  told_both = go u
    where
      go : Usual d at s r → ((first : Bool) → r ≡ item_at first d at) × (Fine ≡ placement d at r s)
      go (untold e) = absurd (k e)
      go (told f p) = (f, p)

  pub told_item : (first : Bool) → r ≡ item_at first d at
  told_item first = told_both.0 first

  pub told_placed : Fine ≡ placement d at r s
  told_placed = told_both.1

pub read_inside : (first : Bool) (d : List ℕ) (at : ℕ) {i : Item} → i ≡ item_at first d at → Inside d at i
read_inside first d at e = rw e (item_inside first d at)

pub ruleset next = (told_item, told_placed, read_inside)

-- ---- the names of the open elements

pub opens_none : (d starts lens : List ℕ) → Opens d starts lens 0
opens_none d starts lens = record { named = λ i l. absurd (omega arith); inside = λ i l. absurd (omega arith) }

module _ {d starts lens : List ℕ} {level : ℕ} (v : Opens d starts lens level) (a n : ℕ) where
  abbrev starts' : List ℕ
  starts' = set starts level a

  abbrev lens' : List ℕ
  lens' = set lens level n

  same : (i : ℕ) → i < level → (get_or starts' i 0 ≡ get_or starts i 0) × (get_or lens' i 0 ≡ get_or lens i 0)
  same i l = (get_or-set_other starts level i a 0 (λ q. omega arith), get_or-set_other lens level i n 0 (λ q. omega arith))

  -- at no deeper level
  pub opens_kept : (level' : ℕ) → level' ≤ level → Opens d starts' lens' level'
  opens_kept level' h =
      record {
        named = λ i l. rw ((same i (omega arith)).0, (same i (omega arith)).1) (v.named i (omega arith));
        inside = λ i l. rw ((same i (omega arith)).0, (same i (omega arith)).1) (v.inside i (omega arith));
      }

  -- one level deeper
  pub opens_more : level < length starts → level < length lens → NamedAt d a n → a + n ≤ length d → Opens d starts' lens' (level + 1)
  opens_more ls ll m h = record { named = name; inside = place }
    where
      both : (P : ℕ → ℕ → Type 0) → P a n → ((i : ℕ) → i < level → P (get_or starts i 0) (get_or lens i 0)) → (i : ℕ) → i < level + 1
          → P (get_or starts' i 0) (get_or lens' i 0)
      both P here there i l =
          let le : i ≤ level = omega arith in
          ⊎_elim
          (λ (q : i ≡ level). rw (q, get_or-set_same starts level a 0 ls, get_or-set_same lens level n 0 ll) here)
          (λ (q : i < level). rw ((same i q).0, (same i q).1) (there i q))
          (eq-or-lt_of_le le)

      name : (i : ℕ) → i < level + 1 → NamedAt d (get_or starts' i 0) (get_or lens' i 0)
      name = both (NamedAt d) m v.named

      place : (i : ℕ) → i < level + 1 → get_or starts' i 0 + get_or lens' i 0 ≤ length d
      place = both (λ x k. x + k ≤ length d) h v.inside
