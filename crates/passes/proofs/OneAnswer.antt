-- Two results that the contract of `pass` allows are alike: the outcome but for the number of notes; and where it is no fault, every byte
-- of the buffer, and what the notes stand for, unless some were left out. After a fault nothing is said of the buffer and of the log.
-- `next_item` has one result, and so has `judged` for the state below names and the row of a name: of other states its contract says less.
-- The theorems are over the contracts that the toolchain makes of the source.
use mathlib.Core.Path.{◌≡◌, sym, ap, ap₂, ◌∙◌}
use mathlib.Core.Bool.{Bool, cond, false≢true}
use mathlib.Core.List.{List, [], ◌∷◌, ◌++◌}
use Prim.Native.Nat.{ℕ, ◌≤◌}
use lib.ListN.{length}
use lib.Seq.{sets}
use Rattle.std.specs.Prelude.{Result, Ok, Err}
use Rattle.contracts.specs.One.{OneResult}
use Rattle.xml.specs.Forest.{Name}
use Rattle.paths.specs.Judge.{list_answer, list_paths}
use Rattle.attributes.specs.Attribute.{Attribute}
use Rattle.tags.specs.declared.Item.{Item}
use Rattle.document.specs.Place.{placement}
use Rattle.document.specs.Levels.{opened_of}
use Rattle.document.specs.declared.Placement.{Placement}
use Rattle.matcher.specs.Says.{verdict_of}
use Rattle.matcher.specs.Fit.{fit_for, fit_at}
use Rattle.matcher.specs.State.{state_of}
use Rattle.matcher.specs.declared.Verdict.{Verdict}
use Rattle.matcher.specs.declared.fit.Fit.{Fit}
use Rattle.matcher.specs.declared.state.MatchState.{MatchState}
use Rattle.matcher.proofs.Meaning.{verdict_told, unselected_told, untested_told}
use Rattle.document.specs.Judge.{scanned}
use Rattle.document.specs.declared.ItemError.{ItemError}
use Rattle.document.specs.declared.Why.{Why}
use Rattle.notes.specs.Notes.{Stood, text_of}
use Rattle.notes.specs.Alike.{Alike}
use Rattle.trees.specs.Written.{cut_of, count_of, tests_of}
use Rattle.passes.specs.Passed.{judged_by, Told, PassedBy}
use Rattle.passes.specs.ByTests.{ByTests, unselected, untested, tested}
use Rattle.passes.specs.declared.Next.{Next}
use Rattle.passes.specs.declared.Measured.{Measured}
use Rattle.passes.proofs.pass.Reads as pass
use Rattle.passes.proofs.next_item.Reads as next_item
use Rattle.passes.proofs.judged.Reads as judged

-- what is handed back, but for the number of notes; and that number
abbrev pub unnoted : Result Measured ItemError → Result Measured ItemError
unnoted (Ok m) = Ok (record { length = m.length; selected = m.selected; tests = m.tests; noted = 0 })
unnoted (Err e) = Err e

abbrev pub notes_of : Result Measured ItemError → ℕ
notes_of (Ok m) = m.noted
notes_of (Err e) = 0

-- two outcomes with the buffer and the log after them
pub record Same (d : List ℕ) (r : Result Measured ItemError) (o g : List ℕ) (r' : Result Measured ItemError) (o' g' : List ℕ) : Type 0 where
  pub outcome : unnoted r ≡ unnoted r'
  pub buffer : o ≡ o'
  pub noted : notes_of r ≤ length g → notes_of r' ≤ length g' → text_of d g (notes_of r) ≡ text_of d g' (notes_of r')

pub outcome_one : (counts : Bool) (list d o : List ℕ) (r r' : Result Measured ItemError) (o₁ g₁ o₂ g₂ : List ℕ)
    → PassedBy counts list d o r o₁ g₁
    → PassedBy counts list d o r' o₂ g₂
    → unnoted r ≡ unnoted r'
outcome_one counts list d o r r' o₁ g₁ o₂ g₂ p q = go r r' (p.judged ∙ sym q.judged) p.told q.told
  where
    go : (x y : Result Measured ItemError) → judged_by x ≡ judged_by y
        → Told d (cut_of list d) (count_of list d) (cond counts (tests_of list d) 0) o x o₁ g₁
        → Told d (cut_of list d) (count_of list d) (cond counts (tests_of list d) 0) o y o₂ g₂ → unnoted x ≡ unnoted y
    go (Ok m) (Ok m') e s t = rw (s.0, s.1, s.2, t.0, t.1, t.2)
    go (Ok m) (Err v) e s t = absurd (false≢true cc)
    go (Err w) (Ok m) e s t = absurd (false≢true cc)
    go (Err w) (Err v) e s t =
        let y : w.why ≡ v.why = cc in
        let z : w.at ≡ v.at = cc in
        ap₂ (λ (x : Why) (k : ℕ). Err (record { why = x; at = k })) y z

-- where the document is sound
pub sound_one : (counts : Bool) (list d o : List ℕ) (r r' : Result Measured ItemError) (o₁ g₁ o₂ g₂ : List ℕ)
    → PassedBy counts list d o r o₁ g₁
    → PassedBy counts list d o r' o₂ g₂
    → scanned d ≡ Ok tt → Same d r o₁ g₁ r' o₂ g₂
sound_one counts list d o r r' o₁ g₁ o₂ g₂ p q sound =
    let a = says r o₁ g₁ (p.judged ∙ sound) p.told in
    let b = says r' o₂ g₂ (q.judged ∙ sound) q.told in
    record {
      outcome = outcome_one counts list d o r r' o₁ g₁ o₂ g₂ p q;
      buffer = a.0 ∙ sym b.0;
      noted = λ h k. a.1.text h ∙ sym (b.1.text k);
    }
  where
    says : (x : Result Measured ItemError) (b g : List ℕ) → judged_by x ≡ Ok tt
        → Told d (cut_of list d) (count_of list d) (cond counts (tests_of list d) 0) o x b g
        → (b ≡ sets o 0 (cut_of list d)) × Stood d g (notes_of x) (cut_of list d)
    says (Ok m) b g e s = (s.3, s.4)
    says (Err w) b g e s = absurd (false≢true cc)

-- `pass`
pub pass_one : Alike pass.Asked pass.Learnt (λ κs a z e z' e'. unnoted z ≡ unnoted z')
pass_one κs a z z' e e' x = outcome_one _ _ _ _ z z' _ _ _ _

pub buffer_one : Alike (λ κs a. pass.Asked κs a × (scanned a.1.1.1.1.0.now ≡ Ok tt)) pass.Learnt
    (λ κs a z e z' e'. Same a.1.1.1.1.0.now z e.1.1.1.1.1.0.now e.1.1.1.1.1.1.0.now
    z' e'.1.1.1.1.1.0.now e'.1.1.1.1.1.1.0.now)
buffer_one κs a z z' e e' x p q = sound_one _ _ _ _ z z' _ _ _ _ p q x.1

-- `next_item`
next_made : {z z' : Next} → z.item ≡ z'.item → z.placed ≡ z'.placed → z ≡ z'
next_made p q = ap₂ (λ (i : Item) (w : Placement). record { item = i; placed = w }) p q

pub next_item_one : OneResult next_item.Asked next_item.Learnt
next_item_one κs a z z' e e' x p q =
    let d = a.1.0.now in
    let s = opened_of d a.1.1.0.now a.1.1.1.0.now a.1.1.1.1.0 in
    let i = p.0 ∙ sym q.0 in
    next_made i (p.1 ∙ ap (λ (j : Item). placement d a.1.1.1.1.1.0 j s) i ∙ sym q.1)

-- `judged`
judged_told : (list : List ℕ) → list_answer list ≡ Ok tt → (names : List Name) (n : Name) (xs : List Attribute) {m : MatchState}
    {f : Fit} → m ≡ state_of (list_paths list) names → f ≡ fit_for (list_paths list) n → {w : Verdict} → ByTests (list_paths list) xs m f w
    → w ≡ verdict_of (list_paths list) (names ++ n ∷ []) xs
judged_told list sound names n xs em ef t = go (rw (em, ef) at t)
  where
    go : {w : Verdict} → ByTests (list_paths list) xs (state_of (list_paths list) names) (fit_for (list_paths list) n) w
        → w ≡ verdict_of (list_paths list) (names ++ n ∷ []) xs
    go (unselected ew eu) = ew ∙ unselected_told list sound names n xs (sym ew ∙ eu)
    go (untested ew u) = ew ∙ untested_told list sound names n xs u
    go (tested ew) = ew ∙ verdict_told list sound names n xs

pub judged_one : (names : List Name) (n : Name)
    → OneResult
    (λ κs a. judged.Asked κs a × (a.1.1.1.1.1.0 ≡ state_of (list_paths a.1.0.now) names)
    × (fit_at a.1.1.0.now a.1.1.1.1.1.1.0 ≡ fit_for (list_paths a.1.0.now) n))
    judged.Learnt
judged_one names n κs a z z' e e' x p q =
    let list = a.1.0.now in
    judged_told list x.0.0.sound names n _ x.1 x.2 p ∙ sym (judged_told list x.0.0.sound names n _ x.1 x.2 q)
