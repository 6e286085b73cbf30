-- Tags as they mostly stand. In order: `name_end`, the run of ASCII name characters, by words, and the byte after it; `value_end`, the
-- next mark, by words; `usual_attribute`; `usual_tag`, whose loop gathers attributes as that of `gather` does; `next_tag`.
use mathlib.Core.Path.{◌≡◌, refl, sym, ap, ◌∙◌}
use mathlib.Core.Bool.{Bool, true, false, not, ◌&&◌, ◌||◌}
use mathlib.Core.List.{List, [], ◌∷◌}
use Prim.Native.Nat.{ℕ, ◌+◌, ◌-◌, ◌≤◌, ◌<◌}
use native.Mathlib.Omega.{arith}
use borrow.Author.Rules.{rules}
use borrow.Author.Tests.{eqb-true, not-false, le-leb}
use lib.Dec.{eqb, leb}
use lib.ListN.{length, get_or, drop, replicate}
use Rattle.xml.specs.Notation.{bytes}
use Rattle.xml.specs.Character.{begins, starts}
use Rattle.xml.specs.Productions.{is_name_start, is_space}
use Rattle.xml.proofs.Bools.{and_left}
use Rattle.utf8.specs.Place.{ends_at}
use Rattle.utf8.proofs.Place.{drop_step}
use Rattle.blocks.specs.Block.{until, Skips, First}
use Rattle.blocks.proofs.Until.{seek_start}
use Rattle.words.specs.Word.{is_no_name}
use Rattle.chars.specs.Name.{name_at, reading_at}
use Rattle.std.specs.Prelude.{Option, Some, None}
use Rattle.chars.specs.Space.{space_end}
use Rattle.chars.proofs.Runs.{run_start}
use Rattle.chars.proofs.Spaces.{spaces_end}
use Rattle.chars.proofs.Names.{Passing, words_start, words_on, words_end, start_low, name_ends}
use Rattle.readers.specs.Read.{space_of}
use Rattle.readers.specs.Plain.{is_mark}
use Rattle.readers.specs.Value.{quoted_of, value_of}
use Rattle.readers.specs.Named.{eq_of}
use Rattle.readers.specs.Answer.{Answers}
use Rattle.readers.proofs.Answers.{ends_inside, text_inside, byte_yes, byte_no}
use Rattle.instructions.proofs.Over.{space_none, eq_ends}
use Rattle.scans.proofs.Marks.{mark_found}
use Rattle.values.proofs.Pieces.{pieces_start, pieces_other, quoted_fault, quoted_ends, first_reading, second_reading}
use Rattle.tags.specs.Tag.{tag_at}
use Rattle.tags.specs.Kept.{Keeps, Noted, AttributesAre}
use Rattle.tags.specs.Usual.{ToldName, ToldMark, ToldAttribute, ToldTag}
use Rattle.tags.specs.declared.gather.Attribute.{Attribute}
use Rattle.tags.specs.declared.Item.{Item}
use Rattle.tags.specs.declared.Item.TheVariants.{Start, Malformed}
use Rattle.tags.proofs.Named.{piece_ahead, piece_inside}
use Rattle.tags.proofs.Gathers.{attribute_blankless, attribute_named}
use Rattle.tags.proofs.Gathers.{Gathering, gather_start, gather_none, gather_inside, gather_less, gather_more, gather_keeps}
use Rattle.tags.proofs.Tagging.{tag_inside, tag_add, tag_start, tag_empty, start_add, empty_add}

-- ---- `name_end`

pub name_untold : {d : List ℕ} {at : ℕ} → ToldName d at 0
name_untold = record { is = λ h. absurd (omega arith) }

-- a name starts at the place `at`, and from there up to i there are name characters
pub record Naming (d : List ℕ) (at i : ℕ) : Type 0 where
  pub begun : true ≡ starts is_name_start (drop at d)
  pub passing : Passing d at i

pub naming_start : {d : List ℕ} {at : ℕ} → at < length d → get_or d at 0 < 0x80 → {k : Bool} → k ≡ is_name_start (get_or d at 0)
    → not k ≡ false → Naming d at at
naming_start {d} {at} h l {k} e n = record { begun = sym (not-false k n) ∙ start_low d at h l e; passing = words_start h }

pub naming_inside : {d : List ℕ} {at i : ℕ} → Naming d at i → i ≤ length d
naming_inside v = v.passing.inside

module _ {d : List ℕ} {at i : ℕ} (v : Naming d at i) (l : i + 8 ≤ length d) {n : ℕ} (f : First (λ k. is_no_name (get_or d (i + k) 0)) 8 n)
  where
    pub naming_on : Naming d at (i + n)
    naming_on = record { begun = v.begun; passing = words_on v.passing l f }

    pub naming_ends : n < 8 → get_or d (i + n) 0 < 0x80 → ToldName d at (i + n)
    naming_ends h g =
        record { is = λ z. name_ends d at v.begun refl (words_end v.passing l f (λ e. omega arith) g) }

pub ruleset naming = (name_untold, naming_start, naming_inside)

-- ---- `value_end`

pub mark_untold : {q : ℕ} {d : List ℕ} {at : ℕ} → ToldMark q d at (length d)
mark_untold = record { is = λ h. absurd (omega arith) }

pub mark_told : {q : ℕ} {d : List ℕ} {at i n : ℕ} → Skips (is_mark q) d at i → i + 16 ≤ length d
    → First (λ k. is_mark q (get_or d (i + k) 0)) 16 n → n < 16 → ToldMark q d at (i + n)
mark_told v l f h = record { is = λ z. mark_found v l f h }

pub ruleset marked = (seek_start, mark_untold)

-- ---- `usual_attribute`

-- a value in quotes without a reference
module _ (d : List ℕ) (at q end : ℕ) (h : at < length d) (e : get_or d at 0 ≡ q)
    (f : end ≡ ends_at d (at + 1) (until (is_mark q) (drop (at + 1) d))) (l : end < length d) (g : get_or d end 0 ≡ q) where
  quoted : (q ≡ 0x26 → ⊥) → Answers d at (Some (end + 1)) (quoted_of q (drop at d))
  quoted n =
      quoted_ends q at (byte_yes d at q h e) refl
      (pieces_other (pieces_start (omega arith) f) l (λ z. n (sym g ∙ z)))
      (byte_yes d end q l g)

  value_ends : eqb q 0x22 || eqb q 0x27 ≡ true → Some (end + 1) ≡ reading_at d at (value_of (drop at d))
  unfolding value_of
  value_ends c = go (eqb q 0x22) refl c
    where
      single : q ≡ 0x27 → Answers d at (Some (end + 1)) (quoted_of 0x27 (drop at d))
      single z = rw z at (quoted (λ y. omega arith))

      go : (b : Bool) → eqb q 0x22 ≡ b → b || eqb q 0x27 ≡ true → Some (end + 1) ≡ reading_at d at (value_of (drop at d))
      go true y _ =
          let z = eqb-true q 0x22 y in
          first_reading (rw z at (quoted (λ x. omega arith))) (quoted_of 0x27 (drop at d)) refl
      go false y w =
          let z = eqb-true q 0x27 w in
          second_reading (quoted_fault 0x22 at (byte_no d at 0x22 h (λ x. omega arith)) refl) refl (single z)

-- no white space begins where another byte stands
unspaced : (d : List ℕ) (i b : ℕ) → i < length d → get_or d i 0 ≡ b → is_space b ≡ false → i ≡ space_end d i
unspaced d i b h e n = spaces_end run_start h refl (ap is_space e ∙ n)

-- either quote
quote_is : (b c : Bool) → not b && not c ≡ false → b || c ≡ true
quote_is true c e = refl
quote_is false true e = refl
quote_is false false e = sym e

pub quote_ascii : (q : ℕ) → not (eqb q 0x22) && not (eqb q 0x27) ≡ false → q < 0x80
quote_ascii q c = go (eqb q 0x22) refl (quote_is (eqb q 0x22) (eqb q 0x27) c)
  where
    go : (b : Bool) → eqb q 0x22 ≡ b → b || eqb q 0x27 ≡ true → q < 0x80
    go true y _ = let z = eqb-true q 0x22 y in omega arith
    go false y w = let z = eqb-true q 0x27 w in omega arith

quote_space : (q : ℕ) → eqb q 0x22 || eqb q 0x27 ≡ true → is_space q ≡ false
unfolding is_space
quote_space q c = go (eqb q 0x22) refl c
  where
    go : (b : Bool) → eqb q 0x22 ≡ b → b || eqb q 0x27 ≡ true → is_space q ≡ false
    go true y _ = rw (eqb-true q 0x22 y)
    go false y w = rw (eqb-true q 0x27 w)

equals_space : is_space 0x3D ≡ false
unfolding is_space
equals_space = refl

pub attribute_untold : {d : List ℕ} {at : ℕ} → ToldAttribute d at None
attribute_untold = record { is = λ a e. let y : ◌≡◌ {A = ℕ} 0 1 = cc in absurd (omega arith) }

module _ (d : List ℕ) (at : ℕ) {r : Option ℕ} (a : Answers d at r (space_of (drop at d))) {i : ℕ} (q : r ≡ Some i) {e : ℕ}
    (n : ToldName d i e) (p : e ≡ 0 → ⊥) where
  name_is : Some e ≡ name_at d i
  name_is = n.is (omega arith)

  pub name_within : e ≤ length d
  name_within = piece_inside d i name_is refl

  pub name_ahead : i ≤ e
  name_ahead = piece_ahead d i name_is refl

  module _ (l : 2 ≤ length d - e) (g : get_or d e 0 ≡ 0x3D)
      (c : not (eqb (get_or d (e + 1) 0) 0x22) && not (eqb (get_or d (e + 1) 0) 0x27) ≡ false) {z : ℕ}
      (f : ToldMark (get_or d (e + 1) 0) d (e + 2) z) (h : z < length d) (k : get_or d z 0 ≡ get_or d (e + 1) 0) where
    either : eqb (get_or d (e + 1) 0) 0x22 || eqb (get_or d (e + 1) 0) 0x27 ≡ true
    either = quote_is (eqb (get_or d (e + 1) 0) 0x22) (eqb (get_or d (e + 1) 0) 0x27) c

    equal : Answers d e (Some (e + 1)) (eq_of (drop e d))
    equal =
        eq_ends d e (unspaced d e 0x3D (omega arith) g equals_space) (omega arith) (byte_yes d e 0x3D (omega arith) g) refl
        (unspaced d (e + 1) (get_or d (e + 1) 0) (omega arith) refl (quote_space (get_or d (e + 1) 0) either))

    valued : Some (z + 1) ≡ reading_at d (e + 1) (value_of (drop (e + 1) d))
    valued =
        let two : e + 2 ≡ (e + 1) + 1 = omega arith in
        value_ends d (e + 1) (get_or d (e + 1) 0) z (omega arith) refl (rw two at (f.is h)) h k either

    pub attribute_told : ToldAttribute d at (Some (record { name = i; len = e - i; end = z + 1 }))
    attribute_told = record { is = λ _ y. attribute_named d at a q name_is refl equal refl valued refl }

pub ruleset attributed = (attribute_untold, quote_ascii, name_within, name_ahead, attribute_told, ends_inside)

-- ---- `usual_tag`

pub tag_untold : {d : List ℕ} {at : ℕ} → ToldTag d at Malformed
tag_untold = record { is = λ name head end empty twice e. let y : ◌≡◌ {A = ℕ} 0 1 = cc in absurd (omega arith) }

-- the tag is read up to i: its name, from the place at + 1 to e, and attributes, of which no name stands twice
pub record Walking (d : List ℕ) (at e name i count : ℕ) (starts lens : List ℕ) : Type 0 where
  pub begun : true ≡ begins (bytes "<") (drop at d)
  pub named : Some e ≡ name_at d (at + 1)
  pub name_is : name ≡ e - (at + 1)
  pub small : name ≤ 255
  pub few : count ≤ 32
  pub gathered : Gathering d e i count true false starts lens

module _ (d : List ℕ) (at : ℕ) {b : Bool} (t : b ≡ begins (bytes "<") (drop at d)) (o : not b ≡ false) {e : ℕ} (n : ToldName d (at + 1) e)
    (p : e ≡ 0 → ⊥) where
  pub walk_ahead : at + 1 ≤ e
  walk_ahead = piece_ahead d (at + 1) (n.is (omega arith)) refl

  pub walk_start : {name : ℕ} → name ≡ e - (at + 1) → name ≤ 255 → Walking d at e name e 0 (replicate 32 0) (replicate 32 0)
  walk_start q l =
      record {
        begun = sym (not-false b o) ∙ t;
        named = n.is (omega arith);
        name_is = q;
        small = l;
        few = omega arith;
        gathered = gather_start d e (piece_inside d (at + 1) (n.is (omega arith)) refl);
      }

module _ {d : List ℕ} {at e name i count : ℕ} {starts lens : List ℕ} (v : Walking d at e name i count starts lens) where
  pub walk_inside : i ≤ length d
  walk_inside = v.gathered.inside

  pub walk_keeps : Keeps d starts lens count
  walk_keeps = gather_keeps v.gathered

  -- one attribute more
  module _ {r : Option Attribute} (a : ToldAttribute d i r) {t : Attribute} (q : r ≡ Some t) where
    pub walk_within : t.name + t.len ≤ length d
    walk_within = gather_inside v.gathered (a.is _ q) q

    pub walk_less : length d - t.end < length d - i
    walk_less = gather_less v.gathered (a.is _ q) q

    pub walk_more : t.len ≤ 255 → count < 32 → {starts' lens' : List ℕ} {again : Bool}
        → Noted d starts lens count t.name t.len starts' lens' again → again ≡ false
        → Walking d at e name t.end (count + 1) starts' lens'
    walk_more l m n z =
        record {
          begun = v.begun;
          named = v.named;
          name_is = v.name_is;
          small = v.small;
          few = omega arith;
          gathered = rw (le-leb t.len 255 l, z) at (gather_more v.gathered (a.is _ q) q n);
        }

-- the end of the head: no attribute stands there
module _ {d : List ℕ} {e i count : ℕ} {starts lens : List ℕ} (v : Gathering d e i count true false starts lens) (b : ℕ) (h : i < length d)
    (g : get_or d i 0 ≡ b) (n : is_space b ≡ false) where
  head_here : i ≡ space_end d i
  head_here = unspaced d i b h g n

  all_gathered : AttributesAre d e (record { end = i; small = leb count 32 && true; twice = false })
  all_gathered = gather_none v (attribute_blankless d i (space_none d i head_here v.inside refl) refl) refl

first_byte : (d w : List ℕ) (i b : ℕ) → i < length d → begins (b ∷ w) (drop i d) ≡ true → get_or d i 0 ≡ b
first_byte d w i b h e = eqb-true (get_or d i 0) b (and_left (eqb (get_or d i 0) b) _ (rw (drop_step d i h) at e))

greater_space : is_space 0x3E ≡ false
unfolding is_space
greater_space = refl

slash_space : is_space 0x2F ≡ false
unfolding is_space
slash_space = refl

module _ {d : List ℕ} {at e name i count : ℕ} {starts lens : List ℕ} (v : Walking d at e name i count starts lens) {c : Bool}
    (g : c ≡ begins (bytes ">") (drop i d)) where
  fits : leb (e - (at + 1)) 255 && (leb count 32 && true) ≡ true
  fits = let l = v.small in let q = v.name_is in rw (le-leb (e - (at + 1)) 255 (omega arith), le-leb count 32 v.few)

  pub walk_ends : c ≡ true → ToldTag d at (Start name i (i + 1) false false)
  walk_ends y =
      let h = text_inside d i (bytes ">") g y (omega arith) in
      let f = first_byte d [] i 0x3E (omega arith) (sym g ∙ y) in
      record {
        is = λ _ _ _ _ _ _.
            rw v.name_is
            (tag_start d at v.begun refl v.named refl (all_gathered v.gathered 0x3E (omega arith) f greater_space)
            (head_here v.gathered 0x3E (omega arith) f greater_space) g y (sym (rw fits)));
      }

  pub walk_empty : c ≡ false → {c' : Bool} → c' ≡ begins (bytes "/>") (drop i d) → c' ≡ true
      → ToldTag d at (Start name i (i + 2) true false)
  walk_empty y g' y' =
      let h = text_inside d i (bytes "/>") g' y' (omega arith) in
      let f = first_byte d (0x3E ∷ []) i 0x2F (omega arith) (sym g' ∙ y') in
      record {
        is = λ _ _ _ _ _ _.
            rw v.name_is
            (tag_empty d at v.begun refl v.named refl (all_gathered v.gathered 0x2F (omega arith) f slash_space)
            (head_here v.gathered 0x2F (omega arith) f slash_space) g y g' y' (sym (rw fits)));
      }

pub ruleset usually = (
  tag_untold,
  tag_inside,
  tag_add,
  walk_ahead,
  walk_start,
  walk_inside,
  walk_keeps,
  walk_within,
  walk_less,
  walk_more,
  walk_ends,
  walk_empty,
  start_add,
  empty_add,
  rules,
)

-- ---- `next_tag`

pub tag_told : {d : List ℕ} {at : ℕ} {r : Item} → ToldTag d at r → {name head end : ℕ} {empty twice : Bool}
    → r ≡ Start name head end empty twice → r ≡ tag_at d at
tag_told t {name} {head} {end} {empty} {twice} e = t.is name head end empty twice e

pub ruleset told = (tag_told)
