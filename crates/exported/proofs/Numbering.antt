-- A case of an answer gives its number: of the check of characters one law for each, of a cut one, of a document alone one, and of their
-- refusals. The rules under which the exported functions are proved stand last.
use mathlib.Core.Path.{◌≡◌, sym, ap, ◌∙◌}
use mathlib.Core.List.{List}
use Prim.Native.Nat.{ℕ}
use lib.ListN.{length}
use Rattle.std.specs.Prelude.{Result, Ok, Err, ⊤}
use Rattle.chars.specs.Check.{check_of}
use Rattle.chars.specs.declared.whole.CharError.{CharError}
use Rattle.document.specs.Judge.{document_number, document_second, judge_of}
use Rattle.document.specs.declared.DocumentError.{DocumentError}
use Rattle.cutter.specs.Answer.{cut_number, cut_second}
use Rattle.cutter.specs.declared.answer.Cut.{Cut}
use Rattle.refusals.specs.declared.CutError.{CutError}
use Rattle.exported.specs.Numbers.{sound_of, characters_end, refusal_of, judged_of, numbers_of}
use Rattle.exported.specs.declared.Numbers.{Numbers}
use Rattle.exported.specs.declared.FourNumbers.{FourNumbers}

module _ (d : List ℕ) {r : Result Unit CharError} (q : r ≡ check_of d) where
  pub check_all : r ≡ Ok tt → length d ≡ characters_end d
  unfolding characters_end
  check_all h = ap (sound_of (length d)) (sym h ∙ q)

  pub check_bad : {o : ℕ} → r ≡ Err (record { valid_up_to = o }) → o ≡ characters_end d
  unfolding characters_end
  check_bad h = ap (sound_of (length d)) (sym h ∙ q)

-- the numbers of a case are those of the answer that is this case
pub numbers_case : {a b : Result Cut CutError} {r : FourNumbers} → a ≡ b → r ≡ numbers_of b → r ≡ numbers_of a
numbers_case h q = q ∙ sym (ap numbers_of h)

-- ---- a document alone, and its refusal

pub judged_case : (d : List ℕ) {j k : Result ⊤ DocumentError} {r : Numbers} → j ≡ judge_of d → j ≡ k → r ≡ judged_of k
    → r ≡ judged_of (judge_of d)
judged_case d e h q = q ∙ ap judged_of (sym h ∙ e)

pub document_case : {a b : DocumentError} {r : Numbers} → a ≡ b → r ≡ refusal_of (document_number b) (document_second b)
    → r ≡ refusal_of (document_number a) (document_second a)
document_case h q = q ∙ sym (ap (λ (x : DocumentError). refusal_of (document_number x) (document_second x)) h)

pub cut_case : {a b : CutError} {r : Numbers} → a ≡ b → r ≡ refusal_of (cut_number b) (cut_second b)
    → r ≡ refusal_of (cut_number a) (cut_second a)
cut_case h q = q ∙ sym (ap (λ (x : CutError). refusal_of (cut_number x) (cut_second x)) h)

pub ruleset judging = (judged_case, document_case, cut_case)

pub ruleset numbering = (check_all, check_bad, numbers_case)
