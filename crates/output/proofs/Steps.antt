-- The steps of an item that is no tag, of an end and of a start: one law for each way out.
-- Each says what the way makes of whatever engine the code's state stands for.
use mathlib.Core.Path.{◌≡◌, refl, sym, ap, ◌∙◌}
use mathlib.Core.Bool.{Bool, true, false, cond}
use mathlib.Core.Logic.{◌⊎◌, inl, inr, ⊎_elim}
use mathlib.Core.List.{List, [], ◌∷◌, ◌++◌, append_assoc, append-nil}
use Prim.Native.Nat.{ℕ, zero, suc, ◌+◌, ◌-◌, ◌≤◌, ◌<◌}
use native.Mathlib.Numerals.{add-one}
use native.Mathlib.Omega.{arith}
use borrow.Author.Tests.{lt-ltb, le-ltb}
use lib.ListN.{length, length-append}
use Rattle.xml.specs.Forest.{start_tag, end_tag}
use Rattle.matcher.specs.declared.Verdict.{Verdict}
use Rattle.matcher.specs.declared.Verdict.TheVariants.{Unselected, Selected, Marked}
use Rattle.writer.specs.Wrote.{Wrote}
use Rattle.writer.proofs.Laying.{wrote_more, wrote_long, sets_more}
use Rattle.notes.proofs.Making.{noted_more, stood_more, part_join}
use Rattle.trees.specs.Cut.{one}
use Rattle.trees.specs.Grown.{part}
use Rattle.trees.specs.Engine.{Engine, engine, chain, open_of, on_start, on_finish, on_aside}
use Rattle.output.specs.Levels.{name_at, span, Laid, Inked, within, owed, entry_at, Silent, Stands, Moved}
use Rattle.output.proofs.Spans.{span_more, span_less, span_none, span_whole, span_last, span_next, some_left, some_span}

-- ---- what is laid, and what is due

pub laid_more : {o₀ o o' w s : List ℕ} {len r : ℕ} → Laid o₀ len o w → Wrote o len s r o' → Laid o₀ r o' (w ++ s)
laid_more {o₀} {w = w} {s} t u =
    let q : 0 + length w ≡ length w = omega arith in
    record {
      long = omega (arith, length-append w s, t.long, u.long);
      laid = u.laid ∙ rw (t.laid, ← t.long) (rw q at (sets_more w s o₀ 0));
    }

-- outside a kept entry nothing is due; inside one, every byte read
owed_none : (d : List ℕ) (at : ℕ) {kept : ℕ} → kept ≡ 0 → owed d kept at ≡ []
owed_none d at z = ap (λ (k : ℕ). owed d k at) z

owed_more : (d : List ℕ) (kept at e : ℕ) → (kept ≡ 0 → ⊥) → kept ≤ at + 1 → at ≤ e → owed d kept at ++ part d at e ≡ owed d kept e
owed_more d zero at e n b l = absurd (n refl)
owed_more d (suc from) at e n b l = part_join d from at e (omega arith) l

owed_from : (d : List ℕ) (kept e : ℕ) → (kept ≡ 0 → ⊥) → owed d kept e ≡ part d (kept - 1) e
owed_from d zero e n = absurd (n refl)
owed_from d (suc from) e n =
    let q : suc from - 1 ≡ from = omega arith in
    rw q

-- what is written, where x was: nothing more, or s
module _ (d said : List ℕ) (kept at : ℕ) {x : List ℕ} (q : x ≡ said ++ owed d kept at) where
  pub out_laid : kept ≡ 0 → x ≡ said
  out_laid z = q ∙ ap (λ (w : List ℕ). said ++ w) (owed_none d at z) ∙ append-nil said

  out_same : kept ≡ 0 → (e : ℕ) → x ≡ said ++ owed d kept e
  out_same z e = q ∙ ap (λ (w : List ℕ). said ++ w) (owed_none d at z ∙ sym (owed_none d e z))

  out_more : kept ≡ 0 → (s : List ℕ) → x ++ s ≡ (said ++ s) ++ []
  out_more z s = ap (λ (w : List ℕ). w ++ s) (out_laid z) ∙ sym (append-nil (said ++ s))

  out_due : (kept ≡ 0 → ⊥) → kept ≤ at + 1 → (e : ℕ) → at ≤ e → x ++ part d at e ≡ said ++ owed d kept e
  out_due n b e l =
      ap (λ (w : List ℕ). w ++ part d at e) q
      ∙ append_assoc said (owed d kept at) (part d at e)
      ∙ ap (λ (w : List ℕ). said ++ w) (owed_more d kept at e n b l)

  -- the entry is laid at its end
  out_entry : (kept ≡ 0 → ⊥) → kept ≤ at + 1 → (e : ℕ) → at ≤ e → x ++ part d at e ≡ (said ++ part d (kept - 1) e) ++ []
  out_entry n b e l =
      out_due n b e l
      ∙ ap (λ (w : List ℕ). said ++ w) (owed_from d kept e n)
      ∙ sym (append-nil (said ++ part d (kept - 1) e))

  -- it begins with the bytes of an item, after the start tags s
  out_begun : kept ≡ 0 → (s r : List ℕ) → x ++ (s ++ r) ≡ (said ++ s) ++ r
  out_begun z s r = ap (λ (w : List ℕ). w ++ (s ++ r)) (out_laid z) ∙ sym (append_assoc said s r)

-- what is open in the input
pub open_is : {d starts lens o₀ o g : List ℕ} {level reached kept at len count m : ℕ} {e : Engine}
    → Stands d starts lens o₀ level reached kept at len count m o g e → reached ≤ level → open_of e ≡ span (name_at d starts lens) 0 level
open_is {d} {starts} {lens} {level = level} {reached} {e = engine k p q x c} t h =
    rw (t.pend_is, t.done_is) (sym (span_whole (name_at d starts lens) reached level h))

-- inside a kept entry, and outside
kept_true : (b : Bool) (kept : ℕ) → b ≡ within kept → (kept ≡ 0 → ⊥) → b ≡ true
kept_true b zero e n = absurd (n refl)
kept_true b (suc from) e n = e

kept_false : (b : Bool) {kept : ℕ} → b ≡ within kept → kept ≡ 0 → b ≡ false
kept_false b e z = e ∙ ap within z

apart : true ≡ false → ⊥
apart e = omega (arith, ap (λ (b : Bool). cond {A = ℕ} b 1 0) e)

kept_some : (kept : ℕ) → true ≡ within kept → kept ≡ 0 → ⊥
kept_some kept e z = apart (e ∙ ap within z)

pub kept_none : (kept : ℕ) → false ≡ within kept → kept ≡ 0
kept_none zero e = refl
kept_none (suc from) e = absurd (apart (sym e))

no_entry : {reached level kept : ℕ} → (kept ≡ 0) ⊎ (reached < level) → level ≤ reached → kept ≡ 0
no_entry (inl z) l = z
no_entry (inr h) l = absurd (omega arith)

same_entry : (kept at : ℕ) → (kept ≡ 0) ⊎ (kept ≡ entry_at kept at)
same_entry zero at = inl refl
same_entry (suc from) at = inr refl

begun_entry : {kept : ℕ} (at : ℕ) → kept ≡ 0 → (at + 1 ≡ 0) ⊎ (at + 1 ≡ entry_at kept at)
begun_entry at z = inr (sym (ap (λ (k : ℕ). entry_at k at) z))

-- ---- an item that is no tag

module _ {d starts lens o g : List ℕ} {level reached kept at len count m : ℕ} (h : reached ≤ level) where
  pub aside_step : {e : ℕ} → at ≤ e
      → Moved d starts lens level reached kept at len count m o g (on_aside (part d at e)) 1 level reached kept e len count m o g
  aside_step {e} l =
      record {
        moves = go;
        entry = same_entry kept at;
        order = h;
        far = omega arith;
        few = omega arith;
        same = refl;
        room = refl;
      }
    where
      go : (o₀ : List ℕ) (y : Engine) → Stands d starts lens o₀ level reached kept at len count m o g y
          → Stands d starts lens o₀ level reached kept e len count m o g (on_aside (part d at e) y)
      go o₀ (engine true p q x c) t =
          record {
            kept_is = t.kept_is;
            inner = t.inner;
            behind = omega (arith, t.behind);
            pend_is = t.pend_is;
            done_is = t.done_is;
            num_is = t.num_is;
            said = t.said;
            out_is = out_due d t.said kept at t.out_is (kept_some kept t.kept_is) t.behind e l;
            text = t.text;
            notes = t.notes;
          }
      go o₀ (engine false p q x c) t =
          record {
            kept_is = t.kept_is;
            inner = t.inner;
            behind = omega (arith, t.behind);
            pend_is = t.pend_is;
            done_is = t.done_is;
            num_is = t.num_is;
            said = t.said;
            out_is = out_same d t.said kept at t.out_is (kept_none kept t.kept_is) e;
            text = t.text;
            notes = t.notes;
          }

-- ---- an end

module _ {d starts lens o g : List ℕ} {level reached kept at len count m : ℕ} where
  -- nothing is open
  pub end_none : {e : ℕ} → at ≤ e → reached ≤ level → level ≡ 0
      → Moved d starts lens level reached kept at len count m o g (on_finish (part d at e)) 1 (level - 1) reached kept e len count m o g
  end_none {e} l h z =
      record {
        moves = go;
        entry = same_entry kept at;
        order = omega arith;
        far = omega arith;
        few = omega arith;
        same = refl;
        room = refl;
      }
    where
      go : (o₀ : List ℕ) (y : Engine) → Stands d starts lens o₀ level reached kept at len count m o g y
          → Stands d starts lens o₀ (level - 1) reached kept e len count m o g (on_finish (part d at e) y)
      go o₀ (engine k p q x c) t =
          let y : reached ≡ 0 = omega arith in
          let ek : kept ≡ 0 = no_entry t.inner (omega arith) in
          let ep : p ≡ [] = t.pend_is ∙ span_none (name_at d starts lens) reached level (omega arith) in
          let eq : q ≡ [] = t.done_is ∙ rw y in
          rw (ep, eq)
          (record {
            kept_is = t.kept_is;
            inner = inl ek;
            behind = omega (arith, ek);
            pend_is = sym (span_none (name_at d starts lens) reached (level - 1) (omega arith));
            done_is = rw y;
            num_is = t.num_is;
            said = t.said;
            out_is = out_same d t.said kept at t.out_is ek e;
            text = t.text;
            notes = t.notes;
          })

  -- open in the output too
  pub end_level : {e : ℕ} {o' g' raw : List ℕ} {r m' : ℕ} → reached ≤ level → level ≤ reached → (level ≡ 0 → ⊥)
      → Inked d o g len m (end_tag (name_at d starts lens (level - 1))) r m' o' g' → length (name_at d starts lens (level - 1)) ≤ 16777216
      → Moved d starts lens level reached kept at len count m o g (on_finish raw) 1 (level - 1) (level - 1) 0 e r count m' o' g'
  end_level {e} {o'} {g'} {raw} {r} {m'} h l z w b =
      record {
        moves = go;
        entry = inl refl;
        order = omega arith;
        far = omega (arith, w.wrote.long, length-append (name_at d starts lens (level - 1)) (62 ∷ []));
        few = omega arith;
        same = wrote_long w.wrote;
        room = w.noted.same;
      }
    where
      go : (o₀ : List ℕ) (y : Engine) → Stands d starts lens o₀ level reached kept at len count m o g y
          → Stands d starts lens o₀ (level - 1) (level - 1) 0 e r count m' o' g' (on_finish raw y)
      go o₀ (engine k p q x c) t =
          let a : reached ≡ level = omega arith in
          let ek : kept ≡ 0 = no_entry t.inner l in
          let ep : p ≡ [] = t.pend_is ∙ span_none (name_at d starts lens) reached level l in
          let eq : q ≡ name_at d starts lens (level - 1) ∷ span (name_at d starts lens) 0 (level - 1) =
          t.done_is ∙ rw a (span_last (name_at d starts lens) level (omega arith)) in
          rw (ep, eq)
          (record {
            kept_is = kept_false k t.kept_is ek;
            inner = inl refl;
            behind = omega arith;
            pend_is = sym (span_none (name_at d starts lens) (level - 1) (level - 1) (omega arith));
            done_is = refl;
            num_is = t.num_is;
            said = t.said ++ end_tag (name_at d starts lens (level - 1));
            out_is = out_more d t.said kept at t.out_is ek (end_tag (name_at d starts lens (level - 1)));
            text = laid_more t.text w.wrote;
            notes = stood_more t.notes w.noted;
          })

  -- inside a kept entry
  pub end_inner : {e : ℕ} → at ≤ e → (kept ≡ 0 → ⊥) → reached + 1 < level
      → Moved d starts lens level reached kept at len count m o g (on_finish (part d at e)) 1 (level - 1) reached kept e len count m o g
  end_inner {e} l ek h =
      record {
        moves = go;
        entry = same_entry kept at;
        order = omega arith;
        far = omega arith;
        few = omega arith;
        same = refl;
        room = refl;
      }
    where
      go : (o₀ : List ℕ) (y : Engine) → Stands d starts lens o₀ level reached kept at len count m o g y
          → Stands d starts lens o₀ (level - 1) reached kept e len count m o g (on_finish (part d at e) y)
      go o₀ (engine k p q x c) t =
          let ew : true ≡ within kept = sym (kept_true k kept t.kept_is ek) ∙ t.kept_is in
          rw (t.pend_is ∙ span_less (name_at d starts lens) reached level (omega arith), kept_true k kept t.kept_is ek)
          (record {
            kept_is = some_left (name_at d starts lens) reached level ∙ lt-ltb (reached + 1) level h ∙ ew;
            inner = inr (omega arith);
            behind = omega (arith, t.behind);
            pend_is = refl;
            done_is = t.done_is;
            num_is = t.num_is;
            said = t.said;
            out_is = out_due d t.said kept at t.out_is ek t.behind e l;
            text = t.text;
            notes = t.notes;
          })

  -- the entry's own
  pub end_entry : {e : ℕ} {o' g' : List ℕ} {r m' : ℕ} → at ≤ e → (kept ≡ 0 → ⊥) → reached < level → level ≤ reached + 1
      → Inked d o g len m (part d (kept - 1) e) r m' o' g' → length (part d (kept - 1) e) ≤ 16777216
      → Moved d starts lens level reached kept at len count m o g (on_finish (part d at e)) 1 (level - 1) reached 0 e r count m' o' g'
  end_entry {e} {o'} {g'} {r} {m'} l ek h i w b =
      record {
        moves = go;
        entry = inl refl;
        order = omega arith;
        far = omega (arith, w.wrote.long);
        few = omega arith;
        same = wrote_long w.wrote;
        room = w.noted.same;
      }
    where
      go : (o₀ : List ℕ) (y : Engine) → Stands d starts lens o₀ level reached kept at len count m o g y
          → Stands d starts lens o₀ (level - 1) reached 0 e r count m' o' g' (on_finish (part d at e) y)
      go o₀ (engine k p q x c) t =
          rw (t.pend_is ∙ span_less (name_at d starts lens) reached level h, kept_true k kept t.kept_is ek)
          (record {
            kept_is = some_left (name_at d starts lens) reached level ∙ le-ltb (reached + 1) level i;
            inner = inl refl;
            behind = omega arith;
            pend_is = refl;
            done_is = t.done_is;
            num_is = t.num_is;
            said = t.said ++ part d (kept - 1) e;
            out_is = out_entry d t.said kept at t.out_is ek t.behind e l;
            text = laid_more t.text w.wrote;
            notes = stood_more t.notes w.noted;
          })

  -- it waited, and is dropped
  pub end_waits : {e : ℕ} → at ≤ e → kept ≡ 0 → reached < level
      → Moved d starts lens level reached kept at len count m o g (on_finish (part d at e)) 1 (level - 1) reached kept e len count m o g
  end_waits {e} l ek h =
      record {
        moves = go;
        entry = same_entry kept at;
        order = omega arith;
        far = omega arith;
        few = omega arith;
        same = refl;
        room = refl;
      }
    where
      go : (o₀ : List ℕ) (y : Engine) → Stands d starts lens o₀ level reached kept at len count m o g y
          → Stands d starts lens o₀ (level - 1) reached kept e len count m o g (on_finish (part d at e) y)
      go o₀ (engine k p q x c) t =
          rw (t.pend_is ∙ span_less (name_at d starts lens) reached level h, kept_false k t.kept_is ek)
          (record {
            kept_is = sym (ap within ek);
            inner = inl ek;
            behind = omega (arith, ek);
            pend_is = refl;
            done_is = t.done_is;
            num_is = t.num_is;
            said = t.said;
            out_is = out_same d t.said kept at t.out_is ek e;
            text = t.text;
            notes = t.notes;
          })

  -- nothing is written
  pub end_silent : {e : ℕ} → at ≤ e → Silent reached kept level
      → Moved d starts lens level reached kept at len count m o g (on_finish (part d at e)) 1 (level - 1) reached kept e len count m o g
  end_silent {e} l s = ⊎_elim (λ z. end_waits l z s.0) (inner kept refl) s.1
    where
      inner : (k : ℕ) → kept ≡ k → reached + 1 < level
          → Moved d starts lens level reached kept at len count m o g (on_finish (part d at e)) 1 (level - 1) reached kept e len count m o g
      inner zero z h = end_waits l z s.0
      inner (suc from) z h = end_inner l (λ q. omega arith) h

-- ---- a start

module _ {d starts lens o g : List ℕ} {level reached kept at len count m : ℕ} {e : ℕ} (l : at ≤ e) (h : reached ≤ level) where
  pub start_kept : (v : Verdict) (head : List ℕ) {n : ℕ} → (kept ≡ 0 → ⊥) → n ≡ one v → n ≤ 1
      → Moved d starts lens level reached kept at len count m o g
      (on_start v (name_at d starts lens level) head (part d at e)) 1 (level + 1) reached kept e len (count + n) m o g
  start_kept v head {n} ek en b =
      record {
        moves = go;
        entry = same_entry kept at;
        order = omega arith;
        far = omega arith;
        few = omega arith;
        same = refl;
        room = refl;
      }
    where
      go : (o₀ : List ℕ) (y : Engine) → Stands d starts lens o₀ level reached kept at len count m o g y
          → Stands d starts lens o₀ (level + 1) reached kept e len (count + n) m o g
          (on_start v (name_at d starts lens level) head (part d at e) y)
      go o₀ (engine k p q x c) t =
          let ew : true ≡ within kept = sym (kept_true k kept t.kept_is ek) ∙ t.kept_is in
          rw (kept_true k kept t.kept_is ek)
          (record {
            kept_is = ew;
            inner = inr (omega arith);
            behind = omega (arith, t.behind);
            pend_is = rw t.pend_is (sym (span_more (name_at d starts lens) reached level h));
            done_is = t.done_is;
            num_is = rw (t.num_is, en);
            said = t.said;
            out_is = out_due d t.said kept at t.out_is ek t.behind e l;
            text = t.text;
            notes = t.notes;
          })

  pub start_marked : {v : Verdict} (head : List ℕ) {o' g' : List ℕ} {r m' : ℕ} → kept ≡ 0 → v ≡ Marked
      → Inked d o g len m (chain (span (name_at d starts lens) reached (level - reached))) r m' o' g' → r ≤ len + 1073741952
      → Moved d starts lens level reached kept at len count m o g
      (on_start v (name_at d starts lens level) head (part d at e)) 1 (level + 1) level (at + 1) e r (count + 1) m' o' g'
  start_marked {v} head {o'} {g'} {r} {m'} ek ev u ua =
      record {
        moves = go;
        entry = begun_entry at ek;
        order = omega arith;
        far = omega arith;
        few = omega arith;
        same = wrote_long u.wrote;
        room = u.noted.same;
      }
    where
      waiting : List ℕ
      waiting = chain (span (name_at d starts lens) reached (level - reached))

      go : (o₀ : List ℕ) (y : Engine) → Stands d starts lens o₀ level reached kept at len count m o g y
          → Stands d starts lens o₀ (level + 1) level (at + 1) e r (count + 1) m' o' g'
          (on_start v (name_at d starts lens level) head (part d at e) y)
      go o₀ (engine k p q x c) t =
          rw (kept_false k t.kept_is ek, ev)
          (record {
            kept_is = sym (ap within (add-one at));
            inner = inr (omega arith);
            behind = omega arith;
            pend_is =
                sym (span_more (name_at d starts lens) level level (omega arith)
                ∙ rw (span_none (name_at d starts lens) level level (omega arith)));
            done_is = rw (t.pend_is, t.done_is) (sym (span_whole (name_at d starts lens) reached level h));
            num_is = rw t.num_is;
            said = t.said ++ waiting;
            out_is = rw (t.pend_is, add-one at) (out_begun d t.said kept at t.out_is ek waiting (part d at e));
            text = laid_more t.text u.wrote;
            notes = stood_more t.notes u.noted;
          })

  pub start_selected : {v : Verdict} (head : List ℕ) {raw o₁ g₁ o' g' : List ℕ} {a b r m' : ℕ} → kept ≡ 0 → v ≡ Selected
      → Inked d o g len m (chain (span (name_at d starts lens) reached (level - reached))) a b o₁ g₁ → a ≤ len + 1073741952
      → Inked d o₁ g₁ a b (head ++ (62 ∷ [])) r m' o' g' → length head ≤ 16777216
      → Moved d starts lens level reached kept at len count m o g
      (on_start v (name_at d starts lens level) head raw) 1 (level + 1) (level + 1) 0 e r (count + 1) m' o' g'
  start_selected {v} head {raw} {o₁} {g₁} {o'} {g'} {a} {b} {r} {m'} ek ev u ua w s =
      record {
        moves = go;
        entry = inl refl;
        order = omega arith;
        far = omega (arith, w.wrote.long, length-append head (62 ∷ []));
        few = omega arith;
        same = wrote_long w.wrote ∙ wrote_long u.wrote;
        room = w.noted.same ∙ u.noted.same;
      }
    where
      waiting : List ℕ
      waiting = chain (span (name_at d starts lens) reached (level - reached))

      go : (o₀ : List ℕ) (y : Engine) → Stands d starts lens o₀ level reached kept at len count m o g y
          → Stands d starts lens o₀ (level + 1) (level + 1) 0 e r (count + 1) m' o' g'
          (on_start v (name_at d starts lens level) head raw y)
      go o₀ (engine k p q x c) t =
          rw (kept_false k t.kept_is ek, ev)
          (record {
            kept_is = refl;
            inner = inl refl;
            behind = omega arith;
            pend_is = sym (span_none (name_at d starts lens) (level + 1) (level + 1) (omega arith));
            done_is =
                rw (t.pend_is, t.done_is, ← span_whole (name_at d starts lens) reached level h)
                (sym (span_next (name_at d starts lens) level));
            num_is = rw t.num_is;
            said = t.said ++ (waiting ++ (head ++ (62 ∷ [])));
            out_is = rw t.pend_is (out_more d t.said kept at t.out_is ek (waiting ++ (head ++ (62 ∷ []))));
            text = laid_more t.text (wrote_more u.wrote w.wrote);
            notes = stood_more t.notes (noted_more u.noted w.noted);
          })

  pub start_root : {v : Verdict} (head : List ℕ) {raw o' g' : List ℕ} {r m' : ℕ} → kept ≡ 0 → v ≡ Unselected → level ≡ 0
      → Inked d o g len m (start_tag (name_at d starts lens level)) r m' o' g' → length (name_at d starts lens level) ≤ 16777216
      → Moved d starts lens level reached kept at len count m o g
      (on_start v (name_at d starts lens level) head raw) 1 (level + 1) 1 0 e r count m' o' g'
  start_root {v} head {raw} {o'} {g'} {r} {m'} ek ev z w b =
      record {
        moves = go;
        entry = inl refl;
        order = omega arith;
        far = omega (arith, w.wrote.long, length-append (name_at d starts lens level) (62 ∷ []));
        few = omega arith;
        same = wrote_long w.wrote;
        room = w.noted.same;
      }
    where
      go : (o₀ : List ℕ) (y : Engine) → Stands d starts lens o₀ level reached kept at len count m o g y
          → Stands d starts lens o₀ (level + 1) 1 0 e r count m' o' g' (on_start v (name_at d starts lens level) head raw y)
      go o₀ (engine k p q x c) t =
          let ep : p ≡ [] = t.pend_is ∙ span_none (name_at d starts lens) reached level (omega arith) in
          let y : reached ≡ 0 = omega arith in
          let eq : q ≡ [] = t.done_is ∙ rw y in
          rw (kept_false k t.kept_is ek, ev, ep, eq)
          (record {
            kept_is = refl;
            inner = inl refl;
            behind = omega arith;
            pend_is = rw z;
            done_is = rw z;
            num_is = t.num_is;
            said = t.said ++ start_tag (name_at d starts lens level);
            out_is = out_more d t.said kept at t.out_is ek (start_tag (name_at d starts lens level));
            text = laid_more t.text w.wrote;
            notes = stood_more t.notes w.noted;
          })

  pub start_waits : {v : Verdict} (head : List ℕ) {raw : List ℕ} → kept ≡ 0 → v ≡ Unselected → (level ≡ 0 → ⊥)
      → Moved d starts lens level reached kept at len count m o g
      (on_start v (name_at d starts lens level) head raw) 1 (level + 1) reached kept e len count m o g
  start_waits {v} head {raw} ek ev z =
      record {
        moves = go;
        entry = same_entry kept at;
        order = omega arith;
        far = omega arith;
        few = omega arith;
        same = refl;
        room = refl;
      }
    where
      go : (o₀ : List ℕ) (y : Engine) → Stands d starts lens o₀ level reached kept at len count m o g y
          → Stands d starts lens o₀ (level + 1) reached kept e len count m o g (on_start v (name_at d starts lens level) head raw y)
      go o₀ (engine k p q x c) t =
          rw (kept_false k t.kept_is ek, ev, open_is t h ∙ refl, some_span (name_at d starts lens) level, lt-ltb 0 level (omega arith))
          (record {
            kept_is = sym (ap within ek);
            inner = inl ek;
            behind = omega (arith, ek);
            pend_is = rw t.pend_is (sym (span_more (name_at d starts lens) reached level h));
            done_is = t.done_is;
            num_is = t.num_is;
            said = t.said;
            out_is = out_same d t.said kept at t.out_is ek e;
            text = t.text;
            notes = t.notes;
          })
