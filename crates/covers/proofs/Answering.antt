-- The answer computed is the one that is said, `says`, and no other is, `says_only`.
-- Each goes by the answers on the two lists.
use mathlib.Core.Path.{◌≡◌, refl, sym, ◌∙◌}
use mathlib.Core.Bool.{Bool, true, false, true≢false}
use mathlib.Core.List.{List}
use Prim.Native.Nat.{ℕ}
use Rattle.std.specs.Prelude.{Result, Ok, Err}
use Rattle.paths.specs.Judge.{list_answer, list_paths}
use Rattle.paths.specs.declared.ListError.{ListError}
use Rattle.covers.specs.Cover.{Covered}
use Rattle.covers.specs.Test.{covered}
use Rattle.covers.specs.Answer.{Says, narrow_refused, wide_refused, yes, no, refusal_or, cover_answer}
use Rattle.covers.specs.declared.Which.TheVariants.{Narrow, Wide}
use Rattle.covers.specs.declared.CoverError.{CoverError}
use Rattle.covers.proofs.Deciding.{covered_iff}

module _ (narrow wide : List ℕ) where
  both_sound : list_answer narrow ≡ Ok tt → list_answer wide ≡ Ok tt → (b : Bool) → covered (list_paths narrow) (list_paths wide) ≡ b
      → Says narrow wide (Ok b)
  both_sound p q true e = yes p q ((covered_iff (list_paths narrow) (list_paths wide)).1 e)
  both_sound p q false e = no p q (λ h. true≢false (sym ((covered_iff (list_paths narrow) (list_paths wide)).0 h) ∙ e))

  pub says : Says narrow wide (cover_answer narrow wide)
  unfolding cover_answer
  says = first (list_answer narrow) refl
    where
      second : list_answer narrow ≡ Ok tt → (a : Result (Unit {0}) ListError) → list_answer wide ≡ a
          → Says narrow wide (refusal_or Wide a (Ok (covered (list_paths narrow) (list_paths wide))))
      second p (Ok tt) q = both_sound p q (covered (list_paths narrow) (list_paths wide)) refl
      second p (Err e) q = wide_refused p q

      first : (a : Result (Unit {0}) ListError) → list_answer narrow ≡ a
          → Says narrow wide (refusal_or Narrow a (refusal_or Wide (list_answer wide)
          (Ok (covered (list_paths narrow) (list_paths wide)))))
      first (Ok tt) p = second p (list_answer wide) refl
      first (Err e) p = narrow_refused p

  not_covered : (b : Bool) → covered (list_paths narrow) (list_paths wide) ≡ b → (Covered (list_paths narrow) (list_paths wide) → ⊥)
      → b ≡ false
  not_covered true e h = absurd (h ((covered_iff (list_paths narrow) (list_paths wide)).1 e))
  not_covered false e h = refl

  pub says_only : (a : Result Bool CoverError) → Says narrow wide a → a ≡ cover_answer narrow wide
  unfolding cover_answer
  says_only _ (narrow_refused p) = rw p
  says_only _ (wide_refused p q) = rw (p, q)
  says_only _ (yes p q c) = rw (p, q, (covered_iff (list_paths narrow) (list_paths wide)).0 c) refl
  says_only _ (no p q c) = rw (p, q, not_covered (covered (list_paths narrow) (list_paths wide)) refl c) refl

  -- where the answer is yes, both lists are sound, and every narrow path is covered
  pub said_yes : cover_answer narrow wide ≡ Ok true
      → (list_answer narrow ≡ Ok tt) × (list_answer wide ≡ Ok tt) × Covered (list_paths narrow) (list_paths wide)
  said_yes e = go (rw e at says)
    where
      go : Says narrow wide (Ok true)
          → (list_answer narrow ≡ Ok tt) × (list_answer wide ≡ Ok tt) × Covered (list_paths narrow) (list_paths wide)
      go (yes p q c) = (p, q, c)
