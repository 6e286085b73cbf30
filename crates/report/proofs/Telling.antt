-- Laws of what is told: a line of a word and two numbers, laid text by text; under 0 the cut stands at the front of the room, and its
-- length is the second number; the three ways out of `tell`; and what stands at the front of a buffer that is long enough.
use mathlib.Core.Path.{◌≡◌, refl, sym, ap, ◌∙◌}
use mathlib.Core.Bool.{Bool, true, false, cond}
use mathlib.Core.List.{List, [], ◌∷◌, ◌++◌}
use Prim.Native.Nat.{ℕ, ◌+◌, ◌≤◌, ◌<◌}
use native.Mathlib.Omega.{arith}
use borrow.Author.Tests.{lt-ltb, le-ltb, eq-eqb, ne_eqb, ltb-false}
use lib.Dec.{ltb}
use lib.ListN.{length, take, drop}
use lib.Seq.{take_at}
use Rattle.std.specs.Prelude.{Result, Ok, Err, ⊤}
use Rattle.xml.specs.Notation.{bytes}
use Rattle.paths.specs.Judge.{list_answer}
use Rattle.paths.specs.declared.ListError.{ListError}
use Rattle.paths.specs.declared.ListError.TheVariants as list
use Rattle.document.specs.Judge.{judge_of}
use Rattle.document.specs.declared.Why.TheVariants as why
use Rattle.document.specs.declared.DocumentError.{DocumentError}
use Rattle.document.specs.declared.DocumentError.TheVariants as document
use Rattle.trees.specs.Written.{cut_of, count_of, tests_of}
use Rattle.cutter.specs.Answer.{by_list, by_document, by_room, answer_of, after, bytes_after, number_of, second_of, third_of}
use Rattle.cutter.specs.declared.answer.Cut.{Cut}
use Rattle.refusals.specs.declared.CutError.{CutError}
use Rattle.refusals.specs.declared.CutError.TheVariants as errors
use Rattle.exported.specs.Numbers.{numbers_of}
use Rattle.exported.specs.declared.FourNumbers.{FourNumbers}
use Rattle.writer.specs.Wrote.{Wrote}
use Rattle.writer.proofs.Laying.{wrote_more, laid_whole}
use Rattle.report.specs.Decimal.{decimal}
use Rattle.report.specs.Printed.{spaced, newline, kept_of, refused_of, told_of, printed}
use Rattle.report.proofs.Decimals.{decimal_short}

-- ---- a line

module _ {o o₁ o₂ : List ℕ} {at a r : ℕ} (n : ℕ) (p : Wrote o at (32 ∷ []) a o₁) (q : Wrote o₁ a (decimal n) r o₂) where
  pub wrote_spaced : Wrote o at (spaced n) r o₂
  wrote_spaced = wrote_more p q

  pub spaced_short : n < 18446744073709551616 → r ≤ at + 21
  spaced_short h = omega (arith, p.long, q.long, decimal_short n h)

pub ruleset spacing = (wrote_spaced, spaced_short)

-- s and t are the two numbers, with a space before each
module _ {o o₁ o₂ o₃ o₄ w s t : List ℕ} {a b e r : ℕ} (p : Wrote o 0 w a o₁) (q : Wrote o₁ a s b o₂) (u : Wrote o₂ b t e o₃)
    (v : Wrote o₃ e newline r o₄) where
  pub wrote_line : Wrote o 0 (w ++ s ++ t ++ newline) r o₄
  wrote_line = wrote_more (wrote_more (wrote_more p q) u) v

  pub line_short : length w ≤ 7 → b ≤ a + 21 → e ≤ b + 21 → r ≤ 50
  line_short h k l = omega (arith, p.long, v.long)

-- s is the line and w the cut
module _ {o o₁ o₂ o₃ s w : List ℕ} {a b r : ℕ} (p : Wrote o 0 s a o₁) (q : Wrote o₁ a w b o₂) (u : Wrote o₂ b newline r o₃) where
  pub wrote_kept : Wrote o 0 (s ++ w ++ newline) r o₃
  wrote_kept = wrote_more (wrote_more p q) u

  pub kept_short : a ≤ 50 → length w ≤ 65536 → r ≤ 65600
  kept_short k h = omega (arith, q.long, u.long)

pub ruleset keeping = (wrote_kept, kept_short)

-- ---- the cut in the room

-- under 0 the second number is the cut's length, there is room for it, and it stands at the front
abbrev Stands : List ℕ → List ℕ → Result Cut CutError → Type 0
Stands w o a = number_of a ≡ 0 → (second_of a ≡ length w) × (length w ≤ length o) × (after a w o ≡ w ++ drop (length w) o)

room_stands : (w o : List ℕ) (c t : ℕ) → Stands w o (by_room (length o) w c t)
room_stands w o c t = go (ltb (length o) (length w)) refl
  where
    go : (x : Bool) → ltb (length o) (length w) ≡ x
        → Stands w o (cond x (Err (errors.Short (length w))) (Ok (record { length = length w; selected = c; tests = t })))
    go true e h = absurd (omega arith)
    go false e h = (refl, ltb-false (length o) (length w) e, refl)

document_stands : (w o : List ℕ) (j : Result ⊤ DocumentError) (a : Result Cut CutError) → Stands w o a → Stands w o (by_document j a)
document_stands w o (Ok _) a h = h
document_stands w o (Err document.TooLong) a h = λ z. absurd (omega arith)
document_stands w o (Err (document.OtherEncoding k)) a h = λ z. absurd (omega arith)
document_stands w o (Err (document.NotChar k)) a h = λ z. absurd (omega arith)
document_stands w o (Err (document.At why.Doctype k)) a h = λ z. absurd (omega arith)
document_stands w o (Err (document.At why.Malformed k)) a h = λ z. absurd (omega arith)
document_stands w o (Err (document.At why.TooLarge k)) a h = λ z. absurd (omega arith)

list_stands : (w o : List ℕ) (l : Result ⊤ ListError) (a : Result Cut CutError) → Stands w o a → Stands w o (by_list l a)
list_stands w o (Ok _) a h = h
list_stands w o (Err list.TooLong) a h = λ z. absurd (omega arith)
list_stands w o (Err (list.Malformed n)) a h = λ z. absurd (omega arith)
list_stands w o (Err (list.TooLarge n)) a h = λ z. absurd (omega arith)

answer_stands : (list d o : List ℕ) → Stands (cut_of list d) o (answer_of list d (length o))
unfolding answer_of
answer_stands list d o =
    let w = cut_of list d in
    list_stands w o (list_answer list) (by_document (judge_of d) (by_room (length o) w (count_of list d) (tests_of list d)))
    (document_stands w o (judge_of d) (by_room (length o) w (count_of list d) (tests_of list d)) (room_stands w o (count_of list d)
    (tests_of list d)))

-- the same of the numbers and the bytes that `choughbell_cut` gives
module _ (list d o : List ℕ) {r : FourNumbers} {o' : List ℕ} (q : r ≡ numbers_of (answer_of list d (length o)))
    (b : o' ≡ bytes_after list d o)
    (z : r.number ≡ 0) where
  stands : (second_of (answer_of list d (length o)) ≡ length (cut_of list d)) × (length (cut_of list d) ≤ length o)
      × (after (answer_of list d (length o)) (cut_of list d) o ≡ cut_of list d ++ drop (length (cut_of list d)) o)
  stands = answer_stands list d o (sym (ap (λ (x : FourNumbers). x.number) q) ∙ z)

  pub second_is : r.second ≡ length (cut_of list d)
  second_is = ap (λ (x : FourNumbers). x.second) q ∙ stands.0

  pub second_fits : r.second ≤ length o
  second_fits = omega (arith, second_is, stands.1)

  pub front_is : take r.second o' ≡ cut_of list d
  unfolding bytes_after
  front_is = rw (second_is, b, stands.2) (take_at (cut_of list d) _ (length (cut_of list d)) refl)

-- ---- the three ways out

told_is : (list input : List ℕ) → length input ≤ 32768 → told_of (answer_of list input 65536) (cut_of list input) ≡ printed list input
unfolding printed
told_is list input short = rw (le-ltb 32768 (length input) short)

module _ (list input : List ℕ) where
  pub tell_long : {o o' : List ℕ} {r : ℕ} → 32768 < length input → Wrote o 0 (bytes "too long" ++ newline) r o'
      → Wrote o 0 (printed list input) r o'
  unfolding printed
  tell_long l w = rw (lt-ltb 32768 (length input) l) w

  -- s is the room before, s' after
  module _ (short : length input ≤ 32768) (s : List ℕ) {s' : List ℕ} (room : length s ≡ 65536) {n : FourNumbers}
      (q : n ≡ numbers_of (answer_of list input (length s))) (b : s' ≡ bytes_after list input s) where
    answer_is : n ≡ numbers_of (answer_of list input 65536)
    answer_is = rw room at q

    pub tell_kept : n.number ≡ 0 → {w o o' : List ℕ} {r : ℕ} → w ≡ take n.second s' → Wrote o 0 (kept_of n.third w) r o'
        → Wrote o 0 (printed list input) r o'
    tell_kept z {w} e h =
        let x : w ≡ cut_of list input = e ∙ front_is list input s q b z in
        let y : number_of (answer_of list input 65536) ≡ 0 = sym (ap (λ (m : FourNumbers). m.number) answer_is) ∙ z in
        let k : n.third ≡ third_of (answer_of list input 65536) = ap (λ (m : FourNumbers). m.third) answer_is in
        rw (← told_is list input short, eq-eqb _ _ y, ← k, ← x) h

    pub tell_refused : (n.number ≡ 0 → ⊥) → {o o' : List ℕ} {r : ℕ} → Wrote o 0 (refused_of n.number n.second) r o'
        → Wrote o 0 (printed list input) r o'
    tell_refused z h =
        let y : n.number ≡ number_of (answer_of list input 65536) = ap (λ (m : FourNumbers). m.number) answer_is in
        let k : n.second ≡ second_of (answer_of list input 65536) = ap (λ (m : FourNumbers). m.second) answer_is in
        rw (← told_is list input short, ne_eqb (number_of (answer_of list input 65536)) 0 (λ e. z (y ∙ e)), ← y, ← k) h

-- ---- a text laid at the front of a buffer that is long enough
pub front_laid : {o o' w : List ℕ} {r : ℕ} → Wrote o 0 w r o' → r ≤ 65600 → 65600 ≤ length o → take r o' ≡ w
front_laid {o} {w = w} {r} p l h =
    let e : length w ≡ r = omega (arith, p.long) in
    rw (p.laid, laid_whole w o (omega arith)) (take_at w (drop (length w) o) r e)

pub ruleset telling = (tell_long)
