-- The ways out of the steps, as the code has them: `silent`, `finish`, `start`, `tag_step`, `other_step`.
-- Each hands the law of its way what the code knows of the bytes and of the numbers.
use Rattle.document.proofs.Placing.{Unfinished}
use mathlib.Core.Path.{◌≡◌, refl, sym, ◌∙◌}
use mathlib.Core.Bool.{Bool, true, false, false≢true}
use mathlib.Core.List.{List, []}
use mathlib.Core.Logic.{◌⊎◌, inl, inr, ⊎_elim}
use Prim.Native.Nat.{ℕ, zero, suc, ◌+◌, ◌-◌, ◌≤◌, ◌<◌}
use native.Mathlib.Omega.{arith}
use borrow.Author.Rules.{rules}
use lib.ListN.{length, get_or}
use Rattle.xml.specs.Forest.{start_tag, end_tag}
use Rattle.items.specs.Inside.{Inside}
use Rattle.tags.specs.declared.Item.{Item}
use Rattle.tags.specs.declared.Item.TheVariants.{Declaration, Instruction, Comment, Section, Reference, Text, Start, Finish}
use Rattle.tags.specs.declared.Item.TheVariants.{Doctype, Malformed, TooLarge, Nothing}
use Rattle.document.specs.Place.{end_of}
use Rattle.document.specs.Levels.{deeper}
use Rattle.matcher.specs.declared.Verdict.{Verdict}
use Rattle.matcher.specs.declared.Verdict.TheVariants.{Unselected}
use Rattle.trees.specs.Grown.{part}
use Rattle.trees.specs.Engine.{Engine, on_start, on_finish}
use Rattle.output.specs.Act.{on_tag, on_other, level_after}
use Rattle.output.specs.Levels.{name_at, Placed, Inked, entry_at, Stays, Silent, Moved, Moves, Ready}
use Rattle.output.specs.declared.Run.{Run}
use Rattle.notes.proofs.Replaying.{part_size}
use Rattle.output.proofs.Inking.{part_long}
use Rattle.output.proofs.Chains.{name_part}
use Rattle.output.proofs.Steps.{aside_step, end_none, end_level, end_entry}
use Rattle.output.proofs.Steps.{start_kept, start_marked, start_selected, start_root, start_waits}

-- ---- bytes of the document that are written

module _ {d g : List ℕ} {run : Run} (ready : Ready d g run 144115188075855872) where
  pub ink_near : run.len < 288230376151711744
  ink_near = omega (arith, ready.near)

  -- those of a kept entry, at its end
  pub entry_small : {kept at e : ℕ} → kept ≤ at + 1 → at ≤ e → e ≤ length d → length (part d (kept - 1) e) ≤ 16777216
  entry_small {kept} {at} {e} b h l = omega (arith, ready.small, part_long d (kept - 1) e (omega arith) l)

pub entry_from : {kept at e : ℕ} → kept ≤ at + 1 → at ≤ e → kept - 1 ≤ e
entry_from b h = omega arith

pub stays_same : {kept : ℕ} → Stays kept kept
stays_same = inr refl

pub stays_none : {kept : ℕ} → Stays kept 0
stays_none = inl refl

-- ---- a name kept at a level

-- the bytes of the name at an index, as the code lends them
abbrev pub lent : List ℕ → List ℕ → List ℕ → ℕ → List ℕ
lent d starts lens i = part d (get_or starts i 0) (get_or starts i 0 + get_or lens i 0)

module _ {d starts lens : List ℕ} {level : ℕ} (p : Placed d starts lens level) (small : length d ≤ 16777216) where
  pub level_below : {i : ℕ} → i < level → i < 64
  level_below h = omega (arith, p.deep)

  pub name_inside : {i : ℕ} → i < level → get_or starts i 0 + get_or lens i 0 ≤ length d
  name_inside {i} h = p.inside i h

  pub lent_long : {i : ℕ} → i < level → length (lent d starts lens i) ≤ 16777216
  lent_long {i} h = omega (arith, part_size d (get_or starts i 0) (get_or lens i 0) (p.inside i h), p.inside i h)

lent_is : (d starts lens : List ℕ) (i : ℕ) → lent d starts lens i ≡ name_at d starts lens i
unfolding name_at
lent_is d starts lens i = name_part d (get_or starts i 0) (get_or lens i 0)

-- ---- `silent`

-- what is told of an end
abbrev pub Told : ℕ → ℕ → ℕ → Bool → Type 0
Told reached kept level b = (b ≡ true → Silent reached kept level) × (b ≡ false → Silent reached kept level → ⊥)

module _ {reached kept level : ℕ} where
  told_silent : Silent reached kept level → Told reached kept level true
  told_silent s = (λ e. s, λ e x. absurd (false≢true (sym e)))

  told_loud : (Silent reached kept level → ⊥) → Told reached kept level false
  told_loud n = (λ e. absurd (false≢true e), λ e. n)

  pub silent_open : level ≤ reached → Told reached kept level false
  silent_open l = told_loud (λ s. omega (arith, s.0))

  pub silent_waits : reached < level → kept ≡ 0 → Told reached kept level true
  silent_waits h z = told_silent (h, inl z)

  pub silent_last : (kept ≡ 0 → ⊥) → level - reached ≡ 1 → Told reached kept level false
  silent_last n e = told_loud (λ s. ⊎_elim n (λ h. omega arith) s.1)

  pub silent_inner : reached < level → (level - reached ≡ 1 → ⊥) → Told reached kept level true
  silent_inner h n = told_silent (h, inr (omega arith))

-- ---- `finish`

module _ {d starts lens : List ℕ} {level : ℕ} (p : Placed d starts lens level) (small : length d ≤ 16777216)
    (z : level ≡ 0 → ⊥) where
  pub finish_index : level - 1 < 64
  finish_index = level_below p small (omega arith)

  pub finish_inside : get_or starts (level - 1) 0 + get_or lens (level - 1) 0 ≤ length d
  finish_inside = name_inside p small (omega arith)

  pub finish_level : {o g o' g' raw : List ℕ} {reached kept at e len count m r m' : ℕ} → reached ≤ level → level ≤ reached
      → Inked d o g len m (end_tag (lent d starts lens (level - 1))) r m' o' g'
      → Moved d starts lens level reached kept at len count m o g (on_finish raw) 1 (level - 1) (level - 1) 0 e r count m' o' g'
  finish_level h g w =
      let q = lent_is d starts lens (level - 1) in
      end_level h g z (rw q at w) (rw q at (lent_long p small {i = level - 1} (omega arith)))

-- not open in the output, where something is written: the end of a kept entry
module _ {reached kept level : ℕ} (n : Silent reached kept level → ⊥) (h : reached < level) where
  pub entry_there : kept ≡ 0 → ⊥
  entry_there z = n (h, inl z)

  pub entry_last : level ≤ reached + 1
  entry_last =
      let out : reached + 1 < level → ⊥ = λ l. n (h, inr l) in
      omega (arith, out)

pub ruleset finishes = (
  ink_near,
  entry_small,
  entry_from,
  finish_index,
  finish_inside,
  end_none,
  finish_level,
  end_entry,
  stays_same,
  stays_none,
  rules,
)

-- ---- `start`

module _ {d starts lens : List ℕ} (level : ℕ) (p : Placed d starts lens (level + 1)) (small : length d ≤ 16777216) where
  pub start_chain : Placed d starts lens level
  start_chain =
      record {
        deep = omega (arith, p.deep);
        starts_long = p.starts_long;
        lens_long = p.lens_long;
        inside = λ i l. p.inside i (omega arith);
      }

  pub start_index : level < 64
  start_index = level_below p small (omega arith)

  pub start_inside : get_or starts level 0 + get_or lens level 0 ≤ length d
  start_inside = name_inside p small (omega arith)

  pub start_bare : (head : List ℕ) {o g o' g' raw : List ℕ} {reached kept at e len count m r m' : ℕ} {v : Verdict} → at ≤ e
      → reached ≤ level
      → kept ≡ 0 → v ≡ Unselected → level ≡ 0 → Inked d o g len m (start_tag (lent d starts lens level)) r m' o' g'
      → Moved d starts lens level reached kept at len count m o g (on_start v (name_at d starts lens level) head raw) 1 (level + 1) 1 0 e r
      count m' o' g'
  start_bare head l h k e z w =
      let q = lent_is d starts lens level in
      start_root l h head k e z (rw q at w) (rw q at (lent_long p small {i = level} (omega arith)))

pub chain_near : {len a : ℕ} → len < 144115188075855872 → a ≤ len + 1073741952 → a < 288230376151711744
chain_near near far = omega arith

pub chain_room : {d o g s o₁ g₁ : List ℕ} {len m a b : ℕ} → Inked d o g len m s a b o₁ g₁ → length g ≤ 16777216 → length g₁ ≤ 16777216
chain_room w h = omega (arith, w.noted.same)

-- a tag: it is ahead, the bytes of its head, and the place behind its `<`
module _ (d : List ℕ) (small : length d ≤ 16777216) {at h e : ℕ} (a : at ≤ h) (b : h ≤ e) (l : e ≤ length d) where
  pub tag_ahead : at ≤ e
  tag_ahead = omega arith

  pub head_small : length (part d at h) ≤ 16777216
  head_small = omega (arith, part_long d at h a (omega arith))

  pub entry_begins : at + 1 ≤ 18446744073709551615
  entry_begins = omega arith

pub ruleset starting = (
  tag_ahead,
  head_small,
  entry_begins,
  start_chain,
  start_index,
  start_inside,
  start_kept,
  start_marked,
  start_selected,
  start_bare,
  start_waits,
  chain_near,
  chain_room,
  ink_near,
  rules,
)

-- ---- `tag_step`

module _ {d g : List ℕ} {run : Run} (ready : Ready d g run 72057594037927936) where
  pub ready_first : Ready d g run 144115188075855872
  ready_first =
      record {
        small = ready.small;
        log_small = ready.log_small;
        near = omega (arith, ready.near);
        few = omega (arith, ready.few);
      }

  pub ready_then : {starts lens o : List ℕ} {level at : ℕ} {f : Engine → Engine} {level' e : ℕ} {next : Run} {o' g' : List ℕ}
      → Moves d starts lens level at run o g f 1 level' e next o' g' → Ready d g' next 144115188075855872
  ready_then m =
      record {
        small = ready.small;
        log_small = omega (arith, ready.log_small, m.room);
        near = omega (arith, ready.near, m.far);
        few = omega (arith, ready.few, m.few);
      }

part_none : (d : List ℕ) (a : ℕ) → part d a a ≡ []
part_none d a =
    let q : a - a ≡ 0 = omega arith in
    rw q

-- an entry that is left, or stays
entry_stays : (kept at : ℕ) {kept' kept'' : ℕ} → (kept' ≡ 0) ⊎ (kept' ≡ entry_at kept at) → Stays kept' kept''
    → (kept'' ≡ 0) ⊎ (kept'' ≡ entry_at kept at)
entry_stays kept at p (inl z) = inl z
entry_stays kept at (inl z) (inr q) = inl (q ∙ z)
entry_stays kept at (inr z) (inr q) = inr (q ∙ z)

-- it begins behind no item that is ahead
entry_behind : (kept at : ℕ) {kept' e : ℕ} → (kept' ≡ 0) ⊎ (kept' ≡ entry_at kept at) → kept ≤ at + 1 → at ≤ e → kept' ≤ e + 1
entry_behind kept at (inl z) b l = omega (arith, z)
entry_behind zero at (inr z) b l = omega (arith, z)
entry_behind (suc from) at (inr z) b l = omega (arith, z)

module _ {d starts lens o g o₁ g₁ : List ℕ} {level at e : ℕ} {run next : Run} (v : Verdict) {n : List ℕ} (h : List ℕ) {r : List ℕ}
    (m : Moves d starts lens level at run o g (on_start v n h r) 1 (level + 1) e next o₁ g₁) where
  pub tag_behind : {b : ℕ} → run.kept ≤ at + 1 → at ≤ b → b ≤ e → next.kept ≤ e + 1
  tag_behind k l l' = entry_behind run.kept at m.entry k (omega arith)

  pub tag_opens : {empty : Bool} → empty ≡ false
      → Moves d starts lens level at run o g (on_tag v n h r empty) 2 (deeper empty level) e next o₁ g₁
  tag_opens q =
      rw q
      (record {
        moves = m.moves;
        entry = m.entry;
        order = m.order;
        far = omega (arith, m.far);
        few = omega (arith, m.few);
        same = m.same;
        room = m.room;
      })

  pub tag_ends : {empty : Bool} {last : Run} {o₂ g₂ : List ℕ} → empty ≡ true
      → Moves d starts lens (level + 1) e next o₁ g₁ (on_finish (part d e e)) 1 (level + 1 - 1) e last o₂ g₂
      → Stays next.kept last.kept
      → Moves d starts lens level at run o g (on_tag v n h r empty) 2 (deeper empty level) e last o₂ g₂
  tag_ends {last = last} {o₂} {g₂} q f k =
      let z : level + 1 - 1 ≡ level = omega arith in
      let f' : Moves d starts lens (level + 1) e next o₁ g₁ (on_finish []) 1 level e last o₂ g₂ = rw (part_none d e, z) at f in
      rw q
      (record {
        moves = λ o₀ x t. f'.moves o₀ (on_start v n h r x) (m.moves o₀ x t);
        entry = entry_stays run.kept at m.entry k;
        order = f'.order;
        far = omega (arith, m.far, f'.far);
        few = omega (arith, m.few, f'.few);
        same = f'.same ∙ m.same;
        room = f'.room ∙ m.room;
      })

pub ruleset tagging = (ready_first, ready_then, tag_behind, tag_opens, tag_ends)

-- ---- `other_step`

-- an item, or a fault, ends no earlier than it begins
pub end_ahead : (d : List ℕ) (at : ℕ) (i : Item) → Inside d at i → at ≤ length d → (at ≤ end_of at i) × (end_of at i ≤ length d)
end_ahead d at (Declaration e) h l = (omega (arith, h.0), h.1)
end_ahead d at (Instruction e) h l = (omega (arith, h.0), h.1)
end_ahead d at (Comment e) h l = (omega (arith, h.0), h.1)
end_ahead d at (Section e) h l = (omega (arith, h.0), h.1)
end_ahead d at (Reference n e) h l = (omega (arith, h.0), h.1)
end_ahead d at (Text e) h l = (omega (arith, h.0), h.1)
end_ahead d at (Start n b e m t) h l = (omega (arith, h.0, h.1), h.2)
end_ahead d at (Finish n e) h l = (omega (arith, h.0), h.1)
end_ahead d at Doctype h l = (omega arith, l)
end_ahead d at Malformed h l = (omega arith, l)
end_ahead d at TooLarge h l = (omega arith, l)
end_ahead d at Nothing h l = (omega arith, l)

module _ (d : List ℕ) (at : ℕ) (i : Item) (e : ℕ) (h : Inside d at i) where
  finish_places : {n : ℕ} → i ≡ Finish n e → (at ≤ e) × (e ≤ length d)
  finish_places {n} q =
      let z : (at + 2 + n < e) × (e ≤ length d) = rw q at h in
      (omega (arith, z.0), z.1)

  pub finish_from : {n : ℕ} → i ≡ Finish n e → at ≤ e
  finish_from q = (finish_places q).0

  pub finish_to : {n : ℕ} → i ≡ Finish n e → e ≤ length d
  finish_to q = (finish_places q).1

-- all but end tags
module _ {d starts lens o g : List ℕ} {level : ℕ} (at : ℕ) {run : Run} (h : run.reached.0 ≤ level) where
  pub other_step : (i : Item) → Unfinished i → Inside d at i → at ≤ length d
      → Moves d starts lens level at run o g (on_other d at i) 1 (level_after i level) (end_of at i) run o g
  other_step i k n l = go i k (end_ahead d at i n l).0
    where
      go : (i : Item) → Unfinished i → at ≤ end_of at i
          → Moves d starts lens level at run o g (on_other d at i) 1 (level_after i level) (end_of at i) run o g
      go (Declaration e) k l = aside_step h l
      go (Instruction e) k l = aside_step h l
      go (Comment e) k l = aside_step h l
      go (Section e) k l = aside_step h l
      go (Reference n e) k l = aside_step h l
      go (Text e) k l = aside_step h l
      go (Start n b e u t) k l = aside_step h l
      go (Finish n e) k l = absurd (k n e refl)
      go Doctype k l = aside_step h l
      go Malformed k l = aside_step h l
      go TooLarge k l = aside_step h l
      go Nothing k l = aside_step h l

  pub finish_step : (i : Item) (n e : ℕ) {r : Run} {o' g' : List ℕ} → i ≡ Finish n e
      → Moves d starts lens level at run o g (on_finish (part d at e)) 1 (level - 1) e r o' g'
      → Moves d starts lens level at run o g (on_other d at i) 1 (level_after i level) (end_of at i) r o' g'
  finish_step i n e q m = rw q m

pub ruleset others = (ready_first, finish_from, finish_to, other_step, finish_step)
