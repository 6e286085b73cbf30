-- An item in its place, each way through the code: names by level; a start tag, an end tag, the end; whether an item may stand where it
-- stands; where it ends, what is kept of it, and what is open after it. What the pass over a document needs of these is in After.
use mathlib.Core.Path.{◌≡◌, refl, sym, ap, ap₂, ◌∙◌}
use mathlib.Core.Bool.{Bool, true, false, cond, not, ◌&&◌, ◌||◌}
use mathlib.Core.List.{List}
use Prim.Native.Nat.{ℕ, zero, suc, ◌+◌, ◌-◌, ◌^◌, ◌≤◌, ◌<◌}
use mir.Syntax.{w64}
use mir.Val.{Fits}
use native.Mathlib.Omega.{arith}
use borrow.Author.Rules.{rules}
use borrow.Author.Tests.{lt-ltb, le-ltb, le-leb, lt-leb, ne_eqb}
use lib.Dec.{eqb, leb, ltb}
use lib.ListN.{length, get_or, set}
use lib.Seq.{set_out}
use Rattle.xml.specs.Productions.{same}
use Rattle.chars.specs.Space.{space_end}
use Rattle.tags.specs.Kept.{name_from}
use Rattle.tags.specs.declared.Item.{Item}
use Rattle.tags.specs.declared.Item.TheVariants.{Declaration, Instruction, Comment, Section, Reference, Text, Start, Finish}
use Rattle.tags.specs.declared.Item.TheVariants.{Doctype, Malformed, TooLarge, Nothing}
use Rattle.items.specs.Inside.{Inside}
use Rattle.document.specs.Place.{some, formed, blank, closes, start_placement, over_placement, placement, end_of}
use Rattle.document.specs.Levels.{names_of, opened_of, Names, start_by, over_by, deeper, open_after, len_of}
use Rattle.document.specs.declared.Open.{Open}
use Rattle.document.specs.declared.Placement.{Placement}
use Rattle.document.specs.declared.Placement.TheVariants.{Fine, Fault, Over}
use Rattle.document.specs.declared.Why.TheVariants.{Doctype as ADoctype, Malformed as NotFormed, TooLarge as OverSize}

-- ---- names by level

module _ (d starts lens : List ℕ) where
  pub names_long : (k : ℕ) → length (names_of d starts lens k) ≡ k
  names_long zero = refl
  names_long (suc k) = ap suc (names_long k)

  names_some : (k : ℕ) → ltb 0 k ≡ some (names_of d starts lens k)
  names_some zero = refl
  names_some (suc k) = lt-ltb 0 (suc k) (omega arith)

  names_none : (k : ℕ) → eqb k 0 ≡ not (some (names_of d starts lens k))
  names_none zero = refl
  names_none (suc k) = ne_eqb (suc k) 0 (λ e. omega arith)

-- ---- `formed`, `deeper`, `len_of`

pub formed_yes : {b : Bool} → b ≡ true → Fine ≡ formed b
formed_yes q = sym (ap formed q)

pub formed_no : {b : Bool} → b ≡ false → Fault NotFormed ≡ formed b
formed_no q = sym (ap formed q)

pub deeper_empty : (l : ℕ) {b : Bool} → b ≡ true → l ≡ deeper b l
deeper_empty l q = sym (ap (λ (x : Bool). deeper x l) q)

pub deeper_more : (l : ℕ) {b : Bool} → b ≡ false → l + 1 ≡ deeper b l
deeper_more l q = sym (ap (λ (x : Bool). deeper x l) q)

pub ruleset by_flag = (formed_yes, formed_no, deeper_empty, deeper_more)

-- ---- `closes`

module _ {d starts lens : List ℕ} {o : Open} (s : Names d starts lens o) (n : List ℕ) where
  pub closes_none : o.level.0 ≡ 0 → false ≡ closes n (names_of d starts lens o.level.0)
  closes_none q = rw q

  module _ (ne : o.level.0 ≡ 0 → ⊥) where
    pub closes_inside : get_or starts (o.level.0 - 1) 0 + get_or lens (o.level.0 - 1) 0 ≤ length d
    closes_inside = s.inside (o.level.0 - 1) (omega arith)

    pub closes_same : {r : Bool} → r ≡ same n (name_from d (get_or starts (o.level.0 - 1) 0) (get_or lens (o.level.0 - 1) 0))
        → r ≡ closes n (names_of d starts lens o.level.0)
    closes_same h = h ∙ go o.level.0 ne
      where
        go : (l : ℕ) → (l ≡ 0 → ⊥)
            → same n (name_from d (get_or starts (l - 1) 0) (get_or lens (l - 1) 0)) ≡ closes n (names_of d starts lens l)
        go zero g = absurd (g refl)
        go (suc l) g =
            let z : suc l - 1 ≡ l = omega arith in
            ap (λ (k : ℕ). same n (name_from d (get_or starts k 0) (get_or lens k 0))) z

pub ruleset closing = (closes_none, closes_inside, closes_same)

-- ---- `start` and `over`

module _ (level : ℕ) (rooted twice : Bool) where
  pub start_deep : 64 ≤ level → Fault OverSize ≡ start_by level rooted twice
  start_deep l =
      sym (ap (λ (b : Bool). cond b (Fault OverSize) (formed (not (twice || (rooted && eqb level 0))))) (le-leb 64 level l))

  pub start_formed : level < 64 → {r : Placement} → r ≡ formed (not (twice || (rooted && eqb level 0))) → r ≡ start_by level rooted twice
  start_formed l h =
      h ∙ sym (ap (λ (b : Bool). cond b (Fault OverSize) (formed (not (twice || (rooted && eqb level 0))))) (lt-leb 64 level l))

module _ (level : ℕ) (rooted : Bool) where
  pub over_sound : rooted && eqb level 0 ≡ true → Over ≡ over_by level rooted
  over_sound q = sym (ap (λ (b : Bool). cond b Over (Fault NotFormed)) q)

  pub over_open : rooted && eqb level 0 ≡ false → Fault NotFormed ≡ over_by level rooted
  over_open q = sym (ap (λ (b : Bool). cond b Over (Fault NotFormed)) q)

pub ruleset by_level = (start_deep, start_formed, over_sound, over_open)

-- ---- `place`

module _ (d starts lens : List ℕ) (o : Open) where
  start_is : (twice : Bool) → start_by o.level.0 o.rooted twice ≡ start_placement twice (opened_of d starts lens o)
  start_is twice =
      ap₂ (λ (k : ℕ) (x : Bool). cond (leb 64 k) (Fault OverSize) (formed (not (twice || (o.rooted && x)))))
      (sym (names_long d starts lens o.level.0)) (names_none d starts lens o.level.0)

  over_is : over_by o.level.0 o.rooted ≡ over_placement (opened_of d starts lens o)
  over_is = ap (λ (x : Bool). cond (o.rooted && x) Over (Fault NotFormed)) (names_none d starts lens o.level.0)

  module _ (at : ℕ) {i j : Item} (q : i ≡ j) where
    of_kind : {r : Placement} → r ≡ placement d at j (opened_of d starts lens o) → r ≡ placement d at i (opened_of d starts lens o)
    of_kind h = h ∙ sym (ap (λ (k : Item). placement d at k (opened_of d starts lens o)) q)

  module _ (at : ℕ) {i : Item} where
    pub place_declaration : {e : ℕ} → i ≡ Declaration e → Fine ≡ placement d at i (opened_of d starts lens o)
    place_declaration q = of_kind at q refl

    pub place_instruction : {e : ℕ} → i ≡ Instruction e → Fine ≡ placement d at i (opened_of d starts lens o)
    place_instruction q = of_kind at q refl

    pub place_comment : {e : ℕ} → i ≡ Comment e → Fine ≡ placement d at i (opened_of d starts lens o)
    place_comment q = of_kind at q refl

    pub place_section : {e : ℕ} → i ≡ Section e → {r : Placement} → r ≡ formed (ltb 0 o.level.0)
        → r ≡ placement d at i (opened_of d starts lens o)
    place_section q h = of_kind at q (h ∙ ap formed (names_some d starts lens o.level.0))

    pub place_reference : {n e : ℕ} → i ≡ Reference n e → {r : Placement} → r ≡ formed (ltb 0 o.level.0)
        → r ≡ placement d at i (opened_of d starts lens o)
    place_reference q h = of_kind at q (h ∙ ap formed (names_some d starts lens o.level.0))

    pub place_text : {e : ℕ} → i ≡ Text e → {r : Placement} → r ≡ formed (ltb 0 o.level.0 || blank d at e)
        → r ≡ placement d at i (opened_of d starts lens o)
    place_text {e} q h =
        of_kind at q (h ∙ ap (λ (x : Bool). formed (x || blank d at e)) (names_some d starts lens o.level.0))

    pub place_start : {n h e : ℕ} {m t : Bool} → i ≡ Start n h e m t → {r : Placement} → r ≡ start_by o.level.0 o.rooted t
        → r ≡ placement d at i (opened_of d starts lens o)
    place_start {t = t} q g = of_kind at q (g ∙ start_is t)

    pub place_finish : {n e : ℕ} → i ≡ Finish n e → {b : Bool} → b ≡ closes (name_from d (at + 2) n) (names_of d starts lens o.level.0)
        → {r : Placement} → r ≡ formed b → r ≡ placement d at i (opened_of d starts lens o)
    place_finish q c h = of_kind at q (h ∙ ap formed c)

    pub place_doctype : i ≡ Doctype → Fault ADoctype ≡ placement d at i (opened_of d starts lens o)
    place_doctype q = of_kind at q refl

    pub place_malformed : i ≡ Malformed → Fault NotFormed ≡ placement d at i (opened_of d starts lens o)
    place_malformed q = of_kind at q refl

    pub place_large : i ≡ TooLarge → Fault OverSize ≡ placement d at i (opened_of d starts lens o)
    place_large q = of_kind at q refl

    pub place_nothing : i ≡ Nothing → {r : Placement} → r ≡ over_by o.level.0 o.rooted
        → r ≡ placement d at i (opened_of d starts lens o)
    place_nothing q h = of_kind at q (h ∙ over_is)

-- an end tag's name is inside the document
module _ (d : List ℕ) (at : ℕ) {i : Item} (h : Inside d at i) {n e : ℕ} (q : i ≡ Finish n e) where
  finish_ahead : (at + 2 + n < e) × (e ≤ length d)
  finish_ahead = rw q at h

  pub finish_name : at + 2 + n ≤ length d
  finish_name = let z = finish_ahead in omega arith

  pub finish_fits : length d < 2 ^ 64 → Fits w64 (at + 2)
  finish_fits l = record { fits = let z = finish_ahead in omega arith }

-- text: any inside the root, white space outside it
pub text_any : (level : ℕ) (b : Bool) → 0 < level → Fine ≡ formed (ltb 0 level || b)
text_any level b l = sym (rw (lt-ltb 0 level l))

pub text_blank : (d : List ℕ) (at e level : ℕ) {k : ℕ} → level ≤ 0 → k ≡ space_end d at → {r : Placement} → r ≡ formed (leb e k)
    → r ≡ formed (ltb 0 level || blank d at e)
unfolding blank
text_blank d at e level l s h = h ∙ rw (le-ltb 0 level l, s)

pub ruleset texts = (text_any, text_blank)

pub ruleset placing = (
  place_declaration,
  place_instruction,
  place_comment,
  place_section,
  place_reference,
  place_text,
  place_start,
  place_finish,
  place_doctype,
  place_malformed,
  place_large,
  place_nothing,
  finish_name,
  finish_fits,
  rules,
)

-- ---- what an arm for the other kinds knows: an item is no start tag or empty tag, or no end tag

abbrev pub Unstarted : Item → Type 0
Unstarted i = (n h e : ℕ) (m t : Bool) → i ≡ Start n h e m t → ⊥

abbrev pub Unfinished : Item → Type 0
Unfinished i = (n e : ℕ) → i ≡ Finish n e → ⊥

-- ---- `end_of`, `len_of`, `keep`

pub end_start : (at : ℕ) {i : Item} {n h e : ℕ} {m t : Bool} → i ≡ Start n h e m t → e ≡ end_of at i
end_start at q = sym (ap (end_of at) q)

pub len_start : {i : Item} {n h e : ℕ} {m t : Bool} → i ≡ Start n h e m t → n ≡ len_of i
len_start q = sym (ap len_of q)

pub len_other : (i : Item) → Unstarted i → 0 ≡ len_of i
len_other (Declaration e) k = refl
len_other (Instruction e) k = refl
len_other (Comment e) k = refl
len_other (Section e) k = refl
len_other (Reference n e) k = refl
len_other (Text e) k = refl
len_other (Start n h e m t) k = absurd (k n h e m t refl)
len_other (Finish n e) k = refl
len_other Doctype k = refl
len_other Malformed k = refl
len_other TooLarge k = refl
len_other Nothing k = refl

pub keep_start : (xs : List ℕ) (l : ℕ) {n k : ℕ} → n ≡ k → set xs l n ≡ set xs l k
keep_start xs l q = ap (set xs l) q

pub keep_deep : (xs : List ℕ) (l n : ℕ) → length xs ≡ 64 → 64 ≤ l → xs ≡ set xs l n
keep_deep xs l n e h = sym (set_out xs l n (omega arith))

pub ruleset keeping = (end_start, len_start, len_other, keep_start, keep_deep)

-- ---- `after`

module _ (o : Open) where
  pub after_start : {i : Item} {n h e : ℕ} {m t : Bool} → i ≡ Start n h e m t → {l : ℕ} → l ≡ deeper m o.level.0
      → record { level = record { 0 = l }; rooted = true } ≡ open_after i o
  after_start q z = ap (λ (l : ℕ). record { level = record { 0 = l }; rooted = true }) z ∙ sym (ap (λ (i : Item). open_after i o) q)

  pub after_finish : {i : Item} {n e : ℕ} → i ≡ Finish n e → {l : ℕ} → l ≡ o.level.0 - 1
      → record { level = record { 0 = l }; rooted = o.rooted } ≡ open_after i o
  after_finish q z = ap (λ (l : ℕ). record { level = record { 0 = l }; rooted = o.rooted }) z ∙ sym (ap (λ (i : Item). open_after i o) q)

  pub after_other : (i : Item) → Unstarted i → Unfinished i → o ≡ open_after i o
  after_other (Declaration e) k l = refl
  after_other (Instruction e) k l = refl
  after_other (Comment e) k l = refl
  after_other (Section e) k l = refl
  after_other (Reference n e) k l = refl
  after_other (Text e) k l = refl
  after_other (Start n h e m t) k l = absurd (k n h e m t refl)
  after_other (Finish n e) k l = absurd (l n e refl)
  after_other Doctype k l = refl
  after_other Malformed k l = refl
  after_other TooLarge k l = refl
  after_other Nothing k l = refl

pub ruleset going_on = (after_start, after_finish, after_other)
