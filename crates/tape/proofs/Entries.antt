-- A tag put at an entry comes back from there, and the entries before it stay.
use Rattle.document.proofs.Placing.{Unstarted, Unfinished}
use mathlib.Core.Path.{◌≡◌, refl, sym, ap, ◌∙◌}
use mathlib.Core.Bool.{Bool, true, false}
use mathlib.Core.List.{List}
use Prim.Native.Nat.{ℕ, zero, suc, ◌+◌, ◌*◌, ◌≤◌, ◌<◌}
use native.Mathlib.Omega.{arith}
use lib.ListN.{length, get_or, set, length-set}
use lib.Seq.{get_or-set_same, get_or-set_other}
use Rattle.tags.specs.declared.Item.{Item}
use Rattle.tags.specs.declared.Item.TheVariants.{Declaration, Instruction, Comment, Section, Reference, Text, Start, Finish}
use Rattle.tags.specs.declared.Item.TheVariants.{Doctype, Malformed, TooLarge, Nothing}
use Rattle.tape.specs.Tape.{shape, entry_at, begin_at, tag_kind, stored, tags_of, put_at, image_of}

-- five numbers from the place i on
module _ (t : List ℕ) (i a b c d e : ℕ) where
  abbrev t₁ : List ℕ
  t₁ = set t i a

  abbrev t₂ : List ℕ
  t₂ = set t₁ (i + 1) b

  abbrev t₃ : List ℕ
  t₃ = set t₂ (i + 2) c

  abbrev t₄ : List ℕ
  t₄ = set t₃ (i + 3) d

  abbrev kept : List ℕ
  kept = stored t i a b c d e

  one : length t₁ ≡ length t
  one = length-set t i a

  two : length t₂ ≡ length t
  two = length-set t₁ (i + 1) b ∙ one

  three : length t₃ ≡ length t
  three = length-set t₂ (i + 2) c ∙ two

  four : length t₄ ≡ length t
  four = length-set t₃ (i + 3) d ∙ three

  pub kept_long : length kept ≡ length t
  kept_long = length-set t₄ (i + 4) e ∙ four

  -- at any other place what was there
  pub kept_other : (j : ℕ) → j < i → get_or kept j 0 ≡ get_or t j 0
  kept_other j l =
      get_or-set_other t₄ (i + 4) j e 0 (λ q. omega arith)
      ∙ get_or-set_other t₃ (i + 3) j d 0 (λ q. omega arith)
      ∙ get_or-set_other t₂ (i + 2) j c 0 (λ q. omega arith)
      ∙ get_or-set_other t₁ (i + 1) j b 0 (λ q. omega arith)
      ∙ get_or-set_other t i j a 0 (λ q. omega arith)

  module _ (h : i + 5 ≤ length t) where
    pub kept_0 : get_or kept i 0 ≡ a
    kept_0 =
        get_or-set_other t₄ (i + 4) i e 0 (λ q. omega arith)
        ∙ get_or-set_other t₃ (i + 3) i d 0 (λ q. omega arith)
        ∙ get_or-set_other t₂ (i + 2) i c 0 (λ q. omega arith)
        ∙ get_or-set_other t₁ (i + 1) i b 0 (λ q. omega arith)
        ∙ get_or-set_same t i a 0 (omega arith)

    pub kept_1 : get_or kept (i + 1) 0 ≡ b
    kept_1 =
        get_or-set_other t₄ (i + 4) (i + 1) e 0 (λ q. omega arith)
        ∙ get_or-set_other t₃ (i + 3) (i + 1) d 0 (λ q. omega arith)
        ∙ get_or-set_other t₂ (i + 2) (i + 1) c 0 (λ q. omega arith)
        ∙ get_or-set_same t₁ (i + 1) b 0 (omega (arith, one))

    pub kept_2 : get_or kept (i + 2) 0 ≡ c
    kept_2 =
        get_or-set_other t₄ (i + 4) (i + 2) e 0 (λ q. omega arith)
        ∙ get_or-set_other t₃ (i + 3) (i + 2) d 0 (λ q. omega arith)
        ∙ get_or-set_same t₂ (i + 2) c 0 (omega (arith, two))

    pub kept_3 : get_or kept (i + 3) 0 ≡ d
    kept_3 = get_or-set_other t₄ (i + 4) (i + 3) e 0 (λ q. omega arith) ∙ get_or-set_same t₃ (i + 3) d 0 (omega (arith, three))

    pub kept_4 : get_or kept (i + 4) 0 ≡ e
    kept_4 = get_or-set_same t₄ (i + 4) e 0 (omega (arith, four))

pub put_long : (t : List ℕ) (k at : ℕ) (i : Item) → length (put_at t k at i) ≡ length t
put_long t k at (Declaration e) = refl
put_long t k at (Instruction e) = refl
put_long t k at (Comment e) = refl
put_long t k at (Section e) = refl
put_long t k at (Reference c e) = refl
put_long t k at (Text e) = refl
put_long t k at (Start n h e m w) = kept_long t (k * 5) (tag_kind m) at e n h
put_long t k at (Finish n e) = kept_long t (k * 5) 0 at e n 0
put_long t k at Doctype = refl
put_long t k at Malformed = refl
put_long t k at TooLarge = refl
put_long t k at Nothing = refl

-- five numbers at an entry say the tag of their shape, and where it begins
module _ (t : List ℕ) (k a b c d e : ℕ) where
  shape_here : k * 5 + 5 ≤ length t → entry_at (stored t (k * 5) a b c d e) k ≡ shape a c d e
  unfolding entry_at
  shape_here h =
      rw (kept_0 t (k * 5) a b c d e h, kept_2 t (k * 5) a b c d e h, kept_3 t (k * 5) a b c d e h, kept_4 t (k * 5) a b c d e h) refl

  begin_here : k * 5 + 5 ≤ length t → begin_at (stored t (k * 5) a b c d e) k ≡ b
  unfolding begin_at
  begin_here h = kept_1 t (k * 5) a b c d e h

  shape_before : (j : ℕ) → j < k → entry_at (stored t (k * 5) a b c d e) j ≡ entry_at t j
  unfolding entry_at
  shape_before j l =
      rw (
        kept_other t (k * 5) a b c d e (j * 5) (omega arith),
        kept_other t (k * 5) a b c d e (j * 5 + 2) (omega arith),
        kept_other t (k * 5) a b c d e (j * 5 + 3) (omega arith),
        kept_other t (k * 5) a b c d e (j * 5 + 4) (omega arith),
      ) refl

  begin_before : (j : ℕ) → j < k → begin_at (stored t (k * 5) a b c d e) j ≡ begin_at t j
  unfolding begin_at
  begin_before j l = kept_other t (k * 5) a b c d e (j * 5 + 1) (omega arith)

-- an item that is no tag has no entry
apart : ◌≡◌ {A = ℕ} 0 1 → ⊥
apart q = omega arith

pub put_here : (t : List ℕ) (k at : ℕ) (i : Item) → k * 5 + 5 ≤ length t → tags_of i ≡ 1 → entry_at (put_at t k at i) k ≡ image_of i
unfolding shape
put_here t k at (Declaration e) z q = absurd (apart q)
put_here t k at (Instruction e) z q = absurd (apart q)
put_here t k at (Comment e) z q = absurd (apart q)
put_here t k at (Section e) z q = absurd (apart q)
put_here t k at (Reference c e) z q = absurd (apart q)
put_here t k at (Text e) z q = absurd (apart q)
put_here t k at (Start n h e true w) z q = shape_here t k 2 at e n h z
put_here t k at (Start n h e false w) z q = shape_here t k 1 at e n h z
put_here t k at (Finish n e) z q = shape_here t k 0 at e n 0 z
put_here t k at Doctype z q = absurd (apart q)
put_here t k at Malformed z q = absurd (apart q)
put_here t k at TooLarge z q = absurd (apart q)
put_here t k at Nothing z q = absurd (apart q)

pub put_begins : (t : List ℕ) (k at : ℕ) (i : Item) → k * 5 + 5 ≤ length t → tags_of i ≡ 1 → begin_at (put_at t k at i) k ≡ at
put_begins t k at (Declaration e) z q = absurd (apart q)
put_begins t k at (Instruction e) z q = absurd (apart q)
put_begins t k at (Comment e) z q = absurd (apart q)
put_begins t k at (Section e) z q = absurd (apart q)
put_begins t k at (Reference c e) z q = absurd (apart q)
put_begins t k at (Text e) z q = absurd (apart q)
put_begins t k at (Start n h e m w) z q = begin_here t k (tag_kind m) at e n h z
put_begins t k at (Finish n e) z q = begin_here t k 0 at e n 0 z
put_begins t k at Doctype z q = absurd (apart q)
put_begins t k at Malformed z q = absurd (apart q)
put_begins t k at TooLarge z q = absurd (apart q)
put_begins t k at Nothing z q = absurd (apart q)

-- the entries before stay
pub put_before : (t : List ℕ) (k at : ℕ) (i : Item) (j : ℕ) → j < k → entry_at (put_at t k at i) j ≡ entry_at t j
put_before t k at (Declaration e) j l = refl
put_before t k at (Instruction e) j l = refl
put_before t k at (Comment e) j l = refl
put_before t k at (Section e) j l = refl
put_before t k at (Reference c e) j l = refl
put_before t k at (Text e) j l = refl
put_before t k at (Start n h e m w) j l = shape_before t k (tag_kind m) at e n h j l
put_before t k at (Finish n e) j l = shape_before t k 0 at e n 0 j l
put_before t k at Doctype j l = refl
put_before t k at Malformed j l = refl
put_before t k at TooLarge j l = refl
put_before t k at Nothing j l = refl

pub put_began : (t : List ℕ) (k at : ℕ) (i : Item) (j : ℕ) → j < k → begin_at (put_at t k at i) j ≡ begin_at t j
put_began t k at (Declaration e) j l = refl
put_began t k at (Instruction e) j l = refl
put_began t k at (Comment e) j l = refl
put_began t k at (Section e) j l = refl
put_began t k at (Reference c e) j l = refl
put_began t k at (Text e) j l = refl
put_began t k at (Start n h e m w) j l = begin_before t k (tag_kind m) at e n h j l
put_began t k at (Finish n e) j l = begin_before t k 0 at e n 0 j l
put_began t k at Doctype j l = refl
put_began t k at Malformed j l = refl
put_began t k at TooLarge j l = refl
put_began t k at Nothing j l = refl

-- ---- the tag of four numbers, by the kind

module _ {k : ℕ} (e n h : ℕ) where
  pub shape_finish : k ≡ 0 → Finish n e ≡ shape k e n h
  unfolding shape
  shape_finish q = rw q refl

  pub shape_start : k ≡ 1 → Start n h e false false ≡ shape k e n h
  unfolding shape
  shape_start q = rw q refl

pub shape_empty : (k e n h : ℕ) → (k ≡ 0 → ⊥) → (k ≡ 1 → ⊥) → Start n h e true false ≡ shape k e n h
unfolding shape
shape_empty zero e n h p q = absurd (p refl)
shape_empty (suc zero) e n h p q = absurd (q refl)
shape_empty (suc (suc k)) e n h p q = refl

-- ---- the entry of an item, by what it is

-- the number of entries and the tape after it
abbrev Puts : List ℕ → ℕ → ℕ → Item → ℕ → List ℕ → Type 0
Puts t k at i k' t' = (k' ≡ k + tags_of i) × (t' ≡ put_at t k at i)

module _ (t : List ℕ) (k at : ℕ) {i : Item} where
  pub put_start : {n h e c : ℕ} {m w : Bool} {t' : List ℕ} → i ≡ Start n h e m w → c ≡ tag_kind m → t' ≡ stored t (k * 5) c at e n h
      → Puts t k at i (k + 1) t'
  put_start {n} {h} {e} q z s = (
    ap (λ (x : Item). k + tags_of x) (sym q),
    s ∙ ap (λ (x : ℕ). stored t (k * 5) x at e n h) z ∙ sym (ap (put_at t k at) q),
  )

  pub put_finish : {n e : ℕ} {t' : List ℕ} → i ≡ Finish n e → t' ≡ stored t (k * 5) 0 at e n 0 → Puts t k at i (k + 1) t'
  put_finish q s = (ap (λ (x : Item). k + tags_of x) (sym q), s ∙ sym (ap (put_at t k at) q))

none_more : (k : ℕ) → k ≡ k + 0
none_more k = omega arith

pub put_other : (t : List ℕ) (k at : ℕ) (i : Item) → Unstarted i → Unfinished i
    → Puts t k at i k t
put_other t k at (Declaration e) z y = (none_more k, refl)
put_other t k at (Instruction e) z y = (none_more k, refl)
put_other t k at (Comment e) z y = (none_more k, refl)
put_other t k at (Section e) z y = (none_more k, refl)
put_other t k at (Reference c e) z y = (none_more k, refl)
put_other t k at (Text e) z y = (none_more k, refl)
put_other t k at (Start n h e m w) z y = absurd (z n h e m w refl)
put_other t k at (Finish n e) z y = absurd (y n e refl)
put_other t k at Doctype z y = (none_more k, refl)
put_other t k at Malformed z y = (none_more k, refl)
put_other t k at TooLarge z y = (none_more k, refl)
put_other t k at Nothing z y = (none_more k, refl)

pub ruleset entries = (shape_finish, shape_start, shape_empty, put_start, put_finish, put_other)
