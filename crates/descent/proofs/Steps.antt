-- The steps of an item that is no tag, of an end and of a start, where every byte is laid at once: one law for each way out.
-- Each says what the way makes of whatever engine the code's state stands for.
use mathlib.Core.Path.{◌≡◌, refl, sym, ◌∙◌}
use mathlib.Core.Bool.{Bool, true, false}
use mathlib.Core.List.{List, [], ◌∷◌, ◌++◌}
use Prim.Native.Nat.{ℕ, ◌+◌, ◌-◌, ◌≤◌, ◌<◌}
use native.Mathlib.Omega.{arith}
use borrow.Author.Tests.{lt-ltb}
use lib.Dec.{ltb}
use lib.ListN.{length, length-append}
use Rattle.xml.specs.Forest.{start_tag, end_tag}
use Rattle.matcher.specs.declared.Verdict.{Verdict}
use Rattle.matcher.specs.declared.Verdict.TheVariants.{Unselected, Selected, Marked}
use Rattle.writer.specs.Wrote.{Wrote}
use Rattle.writer.proofs.Laying.{wrote_more, wrote_long}
use Rattle.trees.specs.Cut.{one}
use Rattle.trees.specs.Engine.{Engine, engine, chain, open_of, on_start, on_finish, on_aside}
use Rattle.output.specs.Levels.{name_at, span}
use Rattle.output.proofs.Spans.{span_more, span_less, span_none, span_whole, span_last, span_next, some_left, some_span}
use Rattle.output.proofs.Steps.{laid_more}
use Rattle.descent.specs.Ink.{Stands, Moved}

-- what is open in the input
open_is : {d starts lens o₀ o : List ℕ} {level reached : ℕ} {kept : Bool} {len count : ℕ} {e : Engine}
    → Stands d starts lens o₀ level reached kept len count o e → reached ≤ level → open_of e ≡ span (name_at d starts lens) 0 level
open_is {d} {starts} {lens} {level = level} {reached} {e = engine k p q x c} t h =
    rw (t.pend_is, t.done_is) (sym (span_whole (name_at d starts lens) reached level h))

-- ---- an item that is no tag

module _ {d starts lens o : List ℕ} {level reached : ℕ} {kept : Bool} {len count : ℕ} (h : reached ≤ level) where
  pub aside_kept : {o' raw : List ℕ} {r : ℕ} → kept ≡ true → Wrote o len raw r o' → length raw ≤ 16777216
      → Moved d starts lens level reached kept len count o (on_aside raw) level reached true r count o'
  aside_kept {o'} {raw} {r} ek w b =
      record {
        moves = go;
        order = h;
        far = omega (arith, w.long);
        few = omega arith;
        same = wrote_long w;
      }
    where
      go : (o₀ : List ℕ) (e : Engine) → Stands d starts lens o₀ level reached kept len count o e
          → Stands d starts lens o₀ level reached true r count o' (on_aside raw e)
      go o₀ (engine k p q x c) t =
          rw (t.kept_is ∙ ek)
          (record {
            kept_is = refl;
            pend_is = t.pend_is;
            done_is = t.done_is;
            num_is = t.num_is;
            text = laid_more t.text w;
          })

  pub aside_dropped : kept ≡ false → (raw : List ℕ)
      → Moved d starts lens level reached kept len count o (on_aside raw) level reached kept len count o
  aside_dropped ek raw =
      record {
        moves = go;
        order = h;
        far = omega arith;
        few = omega arith;
        same = refl;
      }
    where
      go : (o₀ : List ℕ) (e : Engine) → Stands d starts lens o₀ level reached kept len count o e
          → Stands d starts lens o₀ level reached kept len count o (on_aside raw e)
      go o₀ (engine k p q x c) t =
          rw (t.kept_is ∙ ek)
          (record {
            kept_is = sym ek;
            pend_is = t.pend_is;
            done_is = t.done_is;
            num_is = t.num_is;
            text = t.text;
          })

-- ---- an end

module _ {d starts lens o : List ℕ} {level reached : ℕ} {kept : Bool} {len count : ℕ} where
  -- open in the output too
  pub end_level : {o' raw : List ℕ} {r : ℕ} → reached ≤ level → level ≤ reached → (level ≡ 0 → ⊥)
      → Wrote o len (end_tag (name_at d starts lens (level - 1))) r o' → length (name_at d starts lens (level - 1)) ≤ 16777216
      → Moved d starts lens level reached kept len count o (on_finish raw) (level - 1) (level - 1) kept r count o'
  end_level {o'} {raw} {r} h l z w b =
      record {
        moves = go;
        order = omega arith;
        far = omega (arith, w.long, length-append (name_at d starts lens (level - 1)) (62 ∷ []));
        few = omega arith;
        same = wrote_long w;
      }
    where
      go : (o₀ : List ℕ) (e : Engine) → Stands d starts lens o₀ level reached kept len count o e
          → Stands d starts lens o₀ (level - 1) (level - 1) kept r count o' (on_finish raw e)
      go o₀ (engine k p q x c) t =
          let a : reached ≡ level = omega arith in
          let ep : p ≡ [] = t.pend_is ∙ span_none (name_at d starts lens) reached level l in
          let eq : q ≡ name_at d starts lens (level - 1) ∷ span (name_at d starts lens) 0 (level - 1) =
          t.done_is ∙ rw a (span_last (name_at d starts lens) level (omega arith)) in
          rw (ep, eq)
          (record {
            kept_is = t.kept_is;
            pend_is = sym (span_none (name_at d starts lens) (level - 1) (level - 1) (omega arith));
            done_is = refl;
            num_is = t.num_is;
            text = laid_more t.text w;
          })

  -- in a kept entry, or the entry's own
  pub end_kept : {o' raw : List ℕ} {r : ℕ} {inner : Bool} → kept ≡ true → reached < level → inner ≡ ltb (reached + 1) level
      → Wrote o len raw r o' → length raw ≤ 16777216
      → Moved d starts lens level reached kept len count o (on_finish raw) (level - 1) reached inner r count o'
  end_kept {o'} {raw} {r} {inner} ek h i w b =
      record {
        moves = go;
        order = omega arith;
        far = omega (arith, w.long);
        few = omega arith;
        same = wrote_long w;
      }
    where
      go : (o₀ : List ℕ) (e : Engine) → Stands d starts lens o₀ level reached kept len count o e
          → Stands d starts lens o₀ (level - 1) reached inner r count o' (on_finish raw e)
      go o₀ (engine k p q x c) t =
          rw (t.pend_is ∙ span_less (name_at d starts lens) reached level h, t.kept_is ∙ ek)
          (record {
            kept_is = some_left (name_at d starts lens) reached level ∙ sym i;
            pend_is = refl;
            done_is = t.done_is;
            num_is = t.num_is;
            text = laid_more t.text w;
          })

  -- it waited, and is dropped
  pub end_waits : {raw : List ℕ} → kept ≡ false → reached < level
      → Moved d starts lens level reached kept len count o (on_finish raw) (level - 1) reached kept len count o
  end_waits {raw} ek h =
      record {
        moves = go;
        order = omega arith;
        far = omega arith;
        few = omega arith;
        same = refl;
      }
    where
      go : (o₀ : List ℕ) (e : Engine) → Stands d starts lens o₀ level reached kept len count o e
          → Stands d starts lens o₀ (level - 1) reached kept len count o (on_finish raw e)
      go o₀ (engine k p q x c) t =
          rw (t.pend_is ∙ span_less (name_at d starts lens) reached level h, t.kept_is ∙ ek)
          (record {
            kept_is = sym ek;
            pend_is = refl;
            done_is = t.done_is;
            num_is = t.num_is;
            text = t.text;
          })

-- ---- a start

module _ {d starts lens o : List ℕ} {level reached : ℕ} {kept : Bool} {len count : ℕ} (h : reached ≤ level) where
  pub start_kept : (v : Verdict) (head : List ℕ) {raw o' : List ℕ} {r n : ℕ} → kept ≡ true → Wrote o len raw r o'
      → length raw ≤ 16777216 → n ≡ one v → n ≤ 1
      → Moved d starts lens level reached kept len count o
      (on_start v (name_at d starts lens level) head raw) (level + 1) reached true r (count + n) o'
  start_kept v head {raw} {o'} {r} {n} ek w b en l =
      record {
        moves = go;
        order = omega arith;
        far = omega (arith, w.long);
        few = omega arith;
        same = wrote_long w;
      }
    where
      go : (o₀ : List ℕ) (e : Engine) → Stands d starts lens o₀ level reached kept len count o e
          → Stands d starts lens o₀ (level + 1) reached true r (count + n) o' (on_start v (name_at d starts lens level) head raw e)
      go o₀ (engine k p q x c) t =
          rw (t.kept_is ∙ ek)
          (record {
            kept_is = refl;
            pend_is = rw t.pend_is (sym (span_more (name_at d starts lens) reached level h));
            done_is = t.done_is;
            num_is = rw (t.num_is, en);
            text = laid_more t.text w;
          })

  pub start_marked : {v : Verdict} (head : List ℕ) {raw o₁ o' : List ℕ} {a r : ℕ} → kept ≡ false → v ≡ Marked
      → Wrote o len (chain (span (name_at d starts lens) reached (level - reached))) a o₁ → a ≤ len + 1073741952
      → Wrote o₁ a raw r o' → length raw ≤ 16777216
      → Moved d starts lens level reached kept len count o
      (on_start v (name_at d starts lens level) head raw) (level + 1) level true r (count + 1) o'
  start_marked {v} head {raw} {o₁} {o'} {a} {r} ek ev u ua w l =
      record {
        moves = go;
        order = omega arith;
        far = omega (arith, w.long);
        few = omega arith;
        same = wrote_long w ∙ wrote_long u;
      }
    where
      go : (o₀ : List ℕ) (e : Engine) → Stands d starts lens o₀ level reached kept len count o e
          → Stands d starts lens o₀ (level + 1) level true r (count + 1) o' (on_start v (name_at d starts lens level) head raw e)
      go o₀ (engine k p q x c) t =
          rw (t.kept_is ∙ ek, ev)
          (record {
            kept_is = refl;
            pend_is =
                sym (span_more (name_at d starts lens) level level (omega arith)
                ∙ rw (span_none (name_at d starts lens) level level (omega arith)));
            done_is = rw (t.pend_is, t.done_is) (sym (span_whole (name_at d starts lens) reached level h));
            num_is = rw t.num_is;
            text = rw t.pend_is (laid_more t.text (wrote_more u w));
          })

  pub start_selected : {v : Verdict} (head : List ℕ) {raw o₁ o' : List ℕ} {a r : ℕ} → kept ≡ false → v ≡ Selected
      → Wrote o len (chain (span (name_at d starts lens) reached (level - reached))) a o₁ → a ≤ len + 1073741952
      → Wrote o₁ a (head ++ (62 ∷ [])) r o' → length head ≤ 16777216
      → Moved d starts lens level reached kept len count o
      (on_start v (name_at d starts lens level) head raw) (level + 1) (level + 1) false r (count + 1) o'
  start_selected {v} head {raw} {o₁} {o'} {a} {r} ek ev u ua w l =
      record {
        moves = go;
        order = omega arith;
        far = omega (arith, w.long, length-append head (62 ∷ []));
        few = omega arith;
        same = wrote_long w ∙ wrote_long u;
      }
    where
      go : (o₀ : List ℕ) (e : Engine) → Stands d starts lens o₀ level reached kept len count o e
          → Stands d starts lens o₀ (level + 1) (level + 1) false r (count + 1) o' (on_start v (name_at d starts lens level) head raw e)
      go o₀ (engine k p q x c) t =
          rw (t.kept_is ∙ ek, ev)
          (record {
            kept_is = refl;
            pend_is = sym (span_none (name_at d starts lens) (level + 1) (level + 1) (omega arith));
            done_is =
                rw (t.pend_is, t.done_is, ← span_whole (name_at d starts lens) reached level h)
                (sym (span_next (name_at d starts lens) level));
            num_is = rw t.num_is;
            text = rw t.pend_is (laid_more t.text (wrote_more u w));
          })

  pub start_root : {v : Verdict} (head : List ℕ) {raw o' : List ℕ} {r : ℕ} → kept ≡ false → v ≡ Unselected → level ≡ 0
      → Wrote o len (start_tag (name_at d starts lens level)) r o' → length (name_at d starts lens level) ≤ 16777216
      → Moved d starts lens level reached kept len count o
      (on_start v (name_at d starts lens level) head raw) (level + 1) 1 false r count o'
  start_root {v} head {raw} {o'} {r} ek ev z w b =
      record {
        moves = go;
        order = omega arith;
        far = omega (arith, w.long, length-append (name_at d starts lens level) (62 ∷ []));
        few = omega arith;
        same = wrote_long w;
      }
    where
      go : (o₀ : List ℕ) (e : Engine) → Stands d starts lens o₀ level reached kept len count o e
          → Stands d starts lens o₀ (level + 1) 1 false r count o' (on_start v (name_at d starts lens level) head raw e)
      go o₀ (engine k p q x c) t =
          let ep : p ≡ [] = t.pend_is ∙ span_none (name_at d starts lens) reached level (omega arith) in
          let y : reached ≡ 0 = omega arith in
          let eq : q ≡ [] = t.done_is ∙ rw y in
          rw (t.kept_is ∙ ek, ev, ep, eq)
          (record {
            kept_is = refl;
            pend_is = rw z;
            done_is = rw z;
            num_is = t.num_is;
            text = laid_more t.text w;
          })

  pub start_waits : {v : Verdict} (head : List ℕ) {raw : List ℕ} → kept ≡ false → v ≡ Unselected → (level ≡ 0 → ⊥)
      → Moved d starts lens level reached kept len count o
      (on_start v (name_at d starts lens level) head raw) (level + 1) reached kept len count o
  start_waits {v} head {raw} ek ev z =
      record { moves = go; order = omega arith; far = omega arith; few = omega arith; same = refl }
    where
      go : (o₀ : List ℕ) (e : Engine) → Stands d starts lens o₀ level reached kept len count o e
          → Stands d starts lens o₀ (level + 1) reached kept len count o (on_start v (name_at d starts lens level) head raw e)
      go o₀ (engine k p q x c) t =
          rw (t.kept_is ∙ ek, ev, open_is t h ∙ refl, some_span (name_at d starts lens) level, lt-ltb 0 level (omega arith))
          (record {
            kept_is = sym ek;
            pend_is = rw t.pend_is (sym (span_more (name_at d starts lens) reached level h));
            done_is = t.done_is;
            num_is = t.num_is;
            text = t.text;
          })
