-- What is written of an element, as the code has it: one law for each way out. Those of the start tags that waited are in the crate output
-- for text that is also noted; a log without room, in which the first note is left out, says nothing, so they are cited with it.
use mathlib.Core.Path.{◌≡◌, refl, sym, ap, ◌∙◌}
use mathlib.Core.Bool.{Bool, true, false, cond, true≢false, ◌||◌}
use mathlib.Core.List.{List, [], ◌∷◌}
use Prim.Native.Nat.{ℕ, ◌+◌, ◌-◌, ◌≤◌, ◌<◌}
use native.Mathlib.Omega.{arith}
use mir.Syntax.{w64}
use mir.Val.{Fits}
use lib.Dec.{ltb}
use lib.ListN.{length, get_or}
use Rattle.xml.specs.Forest.{start_tag, end_tag}
use Rattle.writer.specs.Wrote.{Wrote}
use Rattle.notes.specs.Notes.{Noted}
use Rattle.notes.proofs.Replaying.{part_size}
use Rattle.trees.specs.Cut.{one}
use Rattle.trees.specs.Grown.{part}
use Rattle.trees.specs.Engine.{chain, on_start, on_finish, on_aside}
use Rattle.output.specs.Levels.{name_at, span, Placed, Inked}
use Rattle.output.proofs.Inking.{part_long}
use Rattle.output.proofs.Chains.{Chaining, chain_start, chain_level, chain_fits, chain_inside, chain_room, chain_step}
use Rattle.output.proofs.Chains.{chain_whole, chain_far, name_part}
use Rattle.writer.proofs.Laying.{wrote_more}
use Rattle.descent.specs.Lines.{verdict_by}
use Rattle.descent.specs.Ink.{Moved, Ready, Reached, is_marked}
use Rattle.descent.specs.declared.select.Verdict.{Verdict as Said}
use Rattle.descent.specs.declared.select.Verdict.TheVariants as said
use Rattle.descent.specs.declared.ink.Run.{Run}
use Rattle.descent.proofs.Steps.{aside_kept, aside_dropped, end_level, end_kept, end_waits}
use Rattle.descent.proofs.Steps.{start_kept, start_marked, start_selected, start_root, start_waits}

-- ---- a log without room

noted_nothing : {d s : List ℕ} → Noted d [] 1 s 1 []
noted_nothing =
    record { fewer = λ h. h; adds = λ h. absurd (omega arith); within = λ h w. absurd (omega arith); same = refl }

pub inked : {d o s o' : List ℕ} {len r : ℕ} → Wrote o len s r o' → Inked d o [] len 1 s r 1 o' []
inked w = record { wrote = w; noted = noted_nothing }

-- ---- `raw`

module _ (d : List ℕ) {at e : ℕ} (small : length d ≤ 16777216) (a : at ≤ e) (l : e ≤ length d) where
  pub raw_small : length (part d at e) ≤ 16777216
  raw_small = omega (arith, part_long d at e a l)

-- ---- `open_chain`

abbrev pub Chained : List ℕ → List ℕ → List ℕ → List ℕ → ℕ → ℕ → ℕ → ℕ → ℕ → List ℕ → Type 0
Chained d starts lens o len₀ lo hi k len o' = Chaining d starts lens o [] len₀ 1 lo hi k len 1 o' []

module _ {d starts lens o o₁ : List ℕ} {len₀ lo hi k len : ℕ} (v : Chained d starts lens o len₀ lo hi k len o₁)
    (p : Placed d starts lens hi) (small : length d ≤ 16777216) where
  pub chained_on : k < hi → {o₂ : List ℕ} {r : ℕ}
      → Wrote o₁ len (start_tag (part d (get_or starts k 0) (get_or starts k 0 + get_or lens k 0))) r o₂
      → Chained d starts lens o len₀ lo hi (k + 1) r o₂
  chained_on l w = chain_step v p small l (inked w)

  pub chained_room : len₀ < 144115188075855872 → k < hi
      → len + length (part d (get_or starts k 0) (get_or starts k 0 + get_or lens k 0)) + 2 ≤ 18446744073709551615
  chained_room q l =
      omega (arith, chain_room v p small q, part_size d (get_or starts k 0) (get_or lens k 0) (p.inside k l), p.inside k l)

  pub chained_end : hi ≤ k → Wrote o len₀ (chain (span (name_at d starts lens) lo (hi - lo))) len o₁
  chained_end h = (chain_whole v p small h).wrote

  pub chained_far : hi ≤ k → len ≤ len₀ + 1073741952
  chained_far h = chain_far v p small h

pub ruleset chained = (
  chain_start,
  chain_level,
  chain_fits,
  chain_inside,
  chained_on,
  chained_room,
  chained_end,
  chained_far,
)

-- ---- `aside`

module _ {d starts lens o : List ℕ} {level reached : ℕ} {kept : Bool} {len count : ℕ} where
  pub aside_stays : {o' raw : List ℕ} {r : ℕ} → kept ≡ true → reached ≤ level → Wrote o len raw r o' → length raw ≤ 16777216
      → Moved d starts lens level reached kept len count o (on_aside raw) level reached kept r count o'
  aside_stays e h w b = rw e (aside_kept h refl w b)

  pub aside_goes : {raw : List ℕ} → kept ≡ false → reached ≤ level
      → Moved d starts lens level reached kept len count o (on_aside raw) level reached kept len count o
  aside_goes {raw} e h = rw e (aside_dropped h refl raw)

module _ {d : List ℕ} {run : Run} (ready : Ready d run) where
  pub ink_near : run.len < 288230376151711744
  ink_near = omega (arith, ready.near)

pub ruleset asides = (ink_near, raw_small, aside_stays, aside_goes)

-- ---- `finish`

-- the name at a level, as the code lends it
abbrev lent : List ℕ → List ℕ → List ℕ → ℕ → List ℕ
lent d starts lens i = part d (get_or starts i 0) (get_or starts i 0 + get_or lens i 0)

lent_is : (d starts lens : List ℕ) (i : ℕ) → lent d starts lens i ≡ name_at d starts lens i
unfolding name_at
lent_is d starts lens i = name_part d (get_or starts i 0) (get_or lens i 0)

-- the end of an element at a level makes this of the state
abbrev Finished : List ℕ → List ℕ → List ℕ → ℕ → ℕ → Bool → ℕ → ℕ → List ℕ → List ℕ → ℕ → ℕ → List ℕ → Type 0
Finished d starts lens level reached kept len count o raw reached' r o' =
    Moved d starts lens (level + 1) reached kept len count o (on_finish raw) level reached'
    (cond kept (ltb (reached + 1) (level + 1)) false) r count o'

module _ {d starts lens : List ℕ} (level : ℕ) (p : Placed d starts lens (level + 1)) where
  pub own_index : level < 64
  own_index = omega (arith, p.deep)

  pub own_inside : get_or starts level 0 + get_or lens level 0 ≤ length d
  own_inside = p.inside level (omega arith)

  pub own_fits : length d ≤ 16777216 → Fits w64 (get_or starts level 0 + get_or lens level 0)
  own_fits small = record { fits = omega (arith, own_inside) }

  pub own_room : {len : ℕ} → length d ≤ 16777216 → len < 144115188075855872
      → len + length (lent d starts lens level) + 3 ≤ 18446744073709551615
  own_room small near = omega (arith, part_size d (get_or starts level 0) (get_or lens level 0) own_inside, own_inside)

  own_small : length d ≤ 16777216 → length (name_at d starts lens level) ≤ 16777216
  own_small small =
      rw (← lent_is d starts lens level)
      (omega (arith, part_size d (get_or starts level 0) (get_or lens level 0) own_inside, own_inside))

  module _ {o : List ℕ} {reached : ℕ} {kept : Bool} {len count : ℕ} where
    pub finish_kept : {raw o' : List ℕ} {r : ℕ} → kept ≡ true → (kept ≡ true → reached < level + 1)
        → Wrote o len raw r o' → length raw ≤ 16777216
        → Finished d starts lens level reached kept len count o raw reached r o'
    finish_kept {raw} {o'} {r} e h w b =
        let z : level + 1 - 1 ≡ level = omega arith in
        let m : Moved d starts lens (level + 1) reached true len count o (on_finish raw) (level + 1 - 1) reached
        (ltb (reached + 1) (level + 1)) r count o' = end_kept refl (h e) refl w b in
        rw e (rw z at m)

    pub finish_level : {raw o' : List ℕ} {r : ℕ} → kept ≡ false → reached ≤ level + 1 → level < reached → length d ≤ 16777216
        → Wrote o len (end_tag (lent d starts lens level)) r o'
        → Finished d starts lens level reached kept len count o raw level r o'
    finish_level {raw} {o'} {r} e h l small w =
        let z : level + 1 - 1 ≡ level = omega arith in
        let w' : Wrote o len (end_tag (name_at d starts lens (level + 1 - 1))) r o' = rw (z, ← lent_is d starts lens level) w in
        let b : length (name_at d starts lens (level + 1 - 1)) ≤ 16777216 = rw z (own_small small) in
        let m : Moved d starts lens (level + 1) reached false len count o (on_finish raw) (level + 1 - 1) (level + 1 - 1) false r count o' =
        end_level h (omega arith) (λ y. omega arith) w' b in
        rw e (rw z at m)

    pub finish_waits : {raw : List ℕ} → kept ≡ false → reached ≤ level
        → Finished d starts lens level reached kept len count o raw reached len o
    finish_waits {raw} e h =
        let z : level + 1 - 1 ≡ level = omega arith in
        let m : Moved d starts lens (level + 1) reached false len count o (on_finish raw) (level + 1 - 1) reached false len count o =
        end_waits refl (omega arith) in
        rw e (rw z at m)

pub stays_out : {kept : Bool} {a b : ℕ} → kept ≡ false → kept ≡ true → a ≡ b
stays_out e q = absurd (true≢false (sym q ∙ e))

pub ruleset finishes = (
  ink_near,
  raw_small,
  own_index,
  own_inside,
  own_fits,
  own_room,
  finish_kept,
  finish_level,
  finish_waits,
  stays_out,
)

-- ---- `start`

pub chain_placed : {d starts lens : List ℕ} (level : ℕ) → Placed d starts lens (level + 1) → Placed d starts lens level
chain_placed level p =
    record {
      deep = omega (arith, p.deep);
      starts_long = p.starts_long;
      lens_long = p.lens_long;
      inside = λ i l. p.inside i (omega arith);
    }

pub root_placed : {d starts lens : List ℕ} (level : ℕ) → Placed d starts lens (level + 1) → Placed d starts lens 1
root_placed level p =
    record {
      deep = omega arith;
      starts_long = p.starts_long;
      lens_long = p.lens_long;
      inside = λ i l. p.inside i (omega arith);
    }

pub chain_near : {len a : ℕ} → len < 144115188075855872 → a ≤ len + 1073741952 → a < 288230376151711744
chain_near near far = omega arith

-- the start of an element at a level, by the verdict on it
abbrev Started : List ℕ → List ℕ → List ℕ → ℕ → ℕ → Bool → ℕ → ℕ → List ℕ → Said → List ℕ → List ℕ → ℕ → ℕ → ℕ → List ℕ → Type 0
Started d starts lens level reached kept len count o v head raw reached' r count' o' =
    Moved d starts lens level reached kept len count o (on_start (verdict_by v) (name_at d starts lens level) head raw)
    (level + 1) reached' (kept || is_marked v) r count' o'

module _ {d starts lens o : List ℕ} {level reached : ℕ} {kept : Bool} {len count : ℕ} (h : reached ≤ level) (v : Said) where
  pub tag_kept : (head : List ℕ) {raw o' : List ℕ} {r n : ℕ} → kept ≡ true → Wrote o len raw r o' → length raw ≤ 16777216
      → (n ≡ one (verdict_by v)) × (n ≤ 1) → Started d starts lens level reached kept len count o v head raw reached r (count + n) o'
  tag_kept head e w b en = rw e (start_kept h _ head refl w b en.0 en.1)

  pub tag_marked : (head : List ℕ) {raw o₁ o' : List ℕ} {a r : ℕ} → kept ≡ false → v ≡ said.Marked
      → Wrote o len (chain (span (name_at d starts lens) reached (level - reached))) a o₁ → a ≤ len + 1073741952
      → Wrote o₁ a raw r o' → length raw ≤ 16777216 → Started d starts lens level reached kept len count o v head raw level r (count + 1) o'
  tag_marked head e q u f w b = rw (e, q) (start_marked h head refl refl u f w b)

  pub tag_selected : {head raw o₁ o₂ o' : List ℕ} {a b r : ℕ} → kept ≡ false → v ≡ said.Selected
      → Wrote o len (chain (span (name_at d starts lens) reached (level - reached))) a o₁ → a ≤ len + 1073741952
      → Wrote o₁ a head b o₂ → Wrote o₂ b (62 ∷ []) r o' → length head ≤ 16777216
      → Started d starts lens level reached kept len count o v head raw (level + 1) r (count + 1) o'
  tag_selected e q u f w x b = rw (e, q) (start_selected h _ refl refl u f (wrote_more w x) b)

  pub tag_waits : (head : List ℕ) {raw : List ℕ} → kept ≡ false → v ≡ said.Unselected → (level ≡ 0 → ⊥)
      → Started d starts lens level reached kept len count o v head raw reached len count o
  tag_waits head e q z = rw (e, q) (start_waits h head refl refl z)

  pub tag_root : (head : List ℕ) {raw o' : List ℕ} {r : ℕ} → kept ≡ false → v ≡ said.Unselected → level ≡ 0
      → Placed d starts lens (level + 1)
      → length d ≤ 16777216 → Wrote o len (chain (span (name_at d starts lens) 0 (1 - 0))) r o'
      → Started d starts lens level reached kept len count o v head raw 1 r count o'
  tag_root head e q z p small w = rw (e, q) (start_root h head refl refl z (rw (sym z) at w) (own_small level p small))

-- the level opened in the output
module _ {kept : Bool} (v : Said) (level before : ℕ) where
  pub reach_kept : kept ≡ true → Reached kept v level before before
  reach_kept e = record { stays = λ q. refl; entry = λ q m. absurd (true≢false (sym e ∙ q)) }

  pub reach_marked : kept ≡ false → Reached kept v level before level
  reach_marked e = record { stays = λ q. absurd (true≢false (sym q ∙ e)); entry = λ q m. refl }

  pub reach_selected : {after : ℕ} → kept ≡ false → v ≡ said.Selected → Reached kept v level before after
  reach_selected e q =
      record { stays = λ y. absurd (true≢false (sym y ∙ e)); entry = λ y m. absurd (true≢false (sym m ∙ ap is_marked q)) }

  pub reach_unselected : {after : ℕ} → kept ≡ false → v ≡ said.Unselected → Reached kept v level before after
  reach_unselected e q =
      record { stays = λ y. absurd (true≢false (sym y ∙ e)); entry = λ y m. absurd (true≢false (sym m ∙ ap is_marked q)) }

pub put_near : {o o' s : List ℕ} {len a r : ℕ} → Wrote o a s r o' → length s ≤ 16777216 → len < 144115188075855872
    → a ≤ len + 1073741952 → r + 1 ≤ 18446744073709551615
put_near w b near far = omega (arith, w.long)

-- a tag's bytes, and those of its head
module _ (d : List ℕ) (small : length d ≤ 16777216) {at h e : ℕ} (a : at ≤ h) (b : h ≤ e) (l : e ≤ length d) where
  pub tag_small : length (part d at e) ≤ 16777216
  tag_small = omega (arith, part_long d at e (omega arith) l)

  pub head_small : length (part d at h) ≤ 16777216
  head_small = omega (arith, part_long d at h a (omega arith))

pub ruleset starting = (
  chain_placed,
  root_placed,
  chain_near,
  put_near,
  tag_small,
  head_small,
  tag_kept,
  tag_marked,
  tag_selected,
  tag_waits,
  tag_root,
  reach_kept,
  reach_marked,
  reach_selected,
  reach_unselected,
  ink_near,
)
