-- Two results that a step may hand back by its contract are alike, where the state stands for an engine: the run is the same but for the
-- number of notes, and so is every byte of the buffer; the notes stand for the same text, unless some were left out. A pass begins with a
-- state that stands for an engine, and its steps keep it so. Of other states a contract says less.
-- The theorems on `Run::none` and on the two steps are over the contracts that the toolchain makes of the source.
use mathlib.Core.Path.{◌≡◌, refl, sym, ap, ◌∙◌}
use mathlib.Core.Bool.{Bool}
use mathlib.Core.List.{List, ◌++◌, append_cancel_right}
use mathlib.Core.Logic.{◌⊎◌, inl, inr}
use Prim.Native.Nat.{ℕ, zero, suc, ◌≤◌}
use lib.ListN.{length}
use lib.Seq.{sets}
use Rattle.contracts.specs.One.{OneResult}
use Rattle.xml.specs.Forest.{Name}
use Rattle.notes.specs.Notes.{text_of}
use Rattle.notes.specs.Alike.{Alike}
use Rattle.trees.specs.Engine.{Engine}
use Rattle.output.specs.Levels.{name_at, span, within, owed, entry_at, Stands, Moves}
use Rattle.output.specs.declared.Run.{Run}
use Rattle.output.proofs.Steps.{kept_none}
use Rattle.output.proofs.Run.none.Reads as none
use Rattle.output.proofs.step.tag_step.Reads as tag_step
use Rattle.output.proofs.step.other_step.Reads as other_step

-- `Run::none`
pub none_one : OneResult none.Asked none.Learnt
none_one κs a z z' e e' x p q = p ∙ sym q

span_long : (f : ℕ → Name) (lo k : ℕ) → length (span f lo k) ≡ k
span_long f lo zero = refl
span_long f lo (suc k) = ap suc (span_long f lo k)

-- what a state that stands for an engine is, but for its notes
pub record Same (d : List ℕ) (r : Run) (o g : List ℕ) (r' : Run) (o' g' : List ℕ) : Type 0 where
  pub reached : r.reached.0 ≡ r'.reached.0
  pub kept : r.kept ≡ r'.kept
  pub long : r.len ≡ r'.len
  pub count : r.count ≡ r'.count
  pub buffer : o ≡ o'
  pub noted : r.noted ≤ length g → r'.noted ≤ length g' → text_of d g r.noted ≡ text_of d g' r'.noted

-- both are inside a kept entry or neither is, and it is the same one
kept_one : (kept at : ℕ) {b : Bool} {k k' : ℕ} → b ≡ within k → b ≡ within k'
    → (k ≡ 0) ⊎ (k ≡ entry_at kept at) → (k' ≡ 0) ⊎ (k' ≡ entry_at kept at) → k ≡ k'
kept_one kept at p q (inl z) (inl z') = z ∙ sym z'
kept_one kept at p q (inr z) (inr z') = z ∙ sym z'
kept_one kept at {k = k} {k'} p q (inl z) (inr z') = z ∙ sym (kept_none k' (sym (ap within z) ∙ sym p ∙ q))
kept_one kept at {k = k} {k'} p q (inr z) (inl z') = kept_none k (sym (ap within z') ∙ sym q ∙ p) ∙ sym z'

module _ {d starts lens o₀ : List ℕ} {level at : ℕ} {e : Engine} where
  pub same_engine : (r r' : Run) {o g o' g' : List ℕ} → r.kept ≡ r'.kept
      → Stands d starts lens o₀ level r.reached.0 r.kept at r.len r.count r.noted o g e
      → Stands d starts lens o₀ level r'.reached.0 r'.kept at r'.len r'.count r'.noted o' g' e → Same d r o g r' o' g'
  same_engine r r' k s t =
      let w : s.said ≡ t.said =
      append_cancel_right s.said t.said (owed d r'.kept at)
      (ap (λ (y : ℕ). s.said ++ owed d y at) (sym k) ∙ sym s.out_is ∙ t.out_is) in
      record {
        reached =
            sym (span_long (name_at d starts lens) 0 r.reached.0)
            ∙ ap length (sym s.done_is ∙ t.done_is)
            ∙ span_long (name_at d starts lens) 0 r'.reached.0;
        kept = k;
        long = sym s.text.long ∙ ap length w ∙ t.text.long;
        count = sym s.num_is ∙ t.num_is;
        buffer = s.text.laid ∙ ap (sets o₀ 0) w ∙ sym t.text.laid;
        noted = λ a b. s.notes.text a ∙ w ∙ sym (t.notes.text b);
      }

-- both steps' contracts have one form
pub step_one : (d starts lens o₀ : List ℕ) (level at : ℕ) (run : Run) (o g : List ℕ) (e : Engine)
    → Stands d starts lens o₀ level run.reached.0 run.kept at run.len run.count run.noted o g e
    → (f : Engine → Engine) (steps level' at' : ℕ) (r r' : Run) (o₁ g₁ o₂ g₂ : List ℕ)
    → Moves d starts lens level at run o g f steps level' at' r o₁ g₁
    → Moves d starts lens level at run o g f steps level' at' r' o₂ g₂ → Same d r o₁ g₁ r' o₂ g₂
step_one d starts lens o₀ level at run o g e s f steps level' at' r r' o₁ g₁ o₂ g₂ p q =
    let x = p.moves o₀ e s in
    let y = q.moves o₀ e s in
    same_engine r r' (kept_one run.kept at x.kept_is y.kept_is p.entry q.entry) x y

-- What the two steps are handed, in the same order: the run, the level, the document, the places and lengths of the names, the buffer, the
-- log; then, behind the verdict of the one, the place. It stands for the engine m, where the buffer began as o₀.
abbrev standing : Engine → List ℕ → (run : Run) (level : ℕ) (d starts lens o g : List ℕ) (at : ℕ) → Type 0
standing m o₀ run level d starts lens o g at =
    Stands d starts lens o₀ level run.reached.0 run.kept at run.len run.count run.noted o g m

module _ (m : Engine) (o₀ : List ℕ) where
  -- `step::tag_step`
  pub tag_step_one : Alike
      (λ κs a. tag_step.Asked κs a × standing m o₀ a.0 a.1.0.0 a.1.1.0.now
      a.1.1.1.0.now a.1.1.1.1.0.now a.1.1.1.1.1.0.now a.1.1.1.1.1.1.0.now
      a.1.1.1.1.1.1.1.1.0)
      tag_step.Learnt
      (λ κs a z e z' e'. Same a.1.1.0.now z e.1.1.1.1.1.0.now e.1.1.1.1.1.1.0.now
      z' e'.1.1.1.1.1.0.now e'.1.1.1.1.1.1.0.now)
  tag_step_one κs a z z' e e' x = step_one _ _ _ o₀ _ _ a.0 _ _ m x.1 _ _ _ _ z z' _ _ _ _

  -- `step::other_step`
  pub other_step_one : Alike
      (λ κs a. other_step.Asked κs a × standing m o₀ a.0 a.1.0.0 a.1.1.0.now
      a.1.1.1.0.now a.1.1.1.1.0.now a.1.1.1.1.1.0.now a.1.1.1.1.1.1.0.now a.1.1.1.1.1.1.1.0)
      other_step.Learnt
      (λ κs a z e z' e'. Same a.1.1.0.now z e.1.1.1.1.1.0.now e.1.1.1.1.1.1.0.now
      z' e'.1.1.1.1.1.0.now e'.1.1.1.1.1.1.0.now)
  other_step_one κs a z z' e e' x = step_one _ _ _ o₀ _ _ a.0 _ _ m x.1 _ _ _ _ z z' _ _ _ _
