-- `cut`, and the functions under it: one law for each way out, about the answer and about the buffer.
-- A document's length, the encoding that it declares and its characters; one that is measured, and written where there is
-- room; the list.
use mathlib.Core.Path.{◌≡◌, refl, sym, ap, ◌∙◌}
use mathlib.Core.Bool.{Bool, true, false, cond}
use mathlib.Core.List.{List}
use Prim.Native.Nat.{ℕ, ◌-◌, ◌≤◌, ◌<◌}
use native.Mathlib.Omega.{arith}
use borrow.Author.Tests.{lt-ltb, le-ltb}
use lib.Dec.{ltb}
use lib.ListN.{length, take, drop, length-drop}
use lib.Seq.{sets, length-take-le}
use Rattle.std.specs.Prelude.{Result, Ok, Err, ⊤}
use Rattle.paths.specs.Judge.{list_answer}
use Rattle.paths.specs.declared.ListError.{ListError}
use Rattle.chars.specs.Check.{check_of}
use Rattle.std.specs.Prelude.{Result, Ok, Err}
use Rattle.chars.specs.declared.whole.CharError.{CharError}
use Rattle.readers.specs.Named.{other_encoding}
use Rattle.document.specs.Judge.{start_of, scanned, judge_of}
use Rattle.document.specs.declared.ItemError.{ItemError}
use Rattle.document.specs.declared.DocumentError.{DocumentError}
use Rattle.document.specs.declared.DocumentError.TheVariants as judged
use Rattle.document.proofs.Judging.{judged_long, judged_other, judged_items, judged_char}
use Rattle.writer.specs.Wrote.{Wrote}
use Rattle.writer.proofs.Laying.{laid_whole}
use Rattle.notes.specs.Notes.{text_of, Within, Stood}
use Rattle.trees.specs.Written.{cut_of, count_of, tests_of}
use Rattle.cutter.specs.Answer.{by_list, by_document, by_room, answer_by, answer_of, after, bytes_by, bytes_after}
use Rattle.passes.specs.Passed.{judged_by, Told, PassedBy, Passed}
use Rattle.cutter.specs.declared.answer.Cut.{Cut}
use Rattle.refusals.specs.declared.CutError.{CutError}
use Rattle.refusals.specs.declared.CutError.TheVariants as errors
use Rattle.passes.specs.declared.Measured.{Measured}

-- ---- the answer and the buffer, together

-- r is the answer a, and the buffer o with the cut w is o'
pub record Answers (a : Result Cut CutError) (w o : List ℕ) (r : Result Cut CutError) (o' : List ℕ) : Type 0 where
  pub is : r ≡ a
  pub bytes : o' ≡ after a w o

abbrev pub AnswersBy : List ℕ → List ℕ → List ℕ → Result Cut CutError → List ℕ → Type 0
AnswersBy list d o = Answers (answer_by list d (length o)) (cut_of list d) o

abbrev pub AnswersOf : List ℕ → List ℕ → List ℕ → Result Cut CutError → List ℕ → Type 0
AnswersOf list d o = Answers (answer_of list d (length o)) (cut_of list d) o

-- the two promises of a contract, by a sound list and by any
module _ (list d o : List ℕ) {r : Result Cut CutError} {o' : List ℕ} where
  pub both_by : AnswersBy list d o r o' → (r ≡ answer_by list d (length o)) × (o' ≡ bytes_by list d o)
  unfolding bytes_by
  both_by a = (a.is, a.bytes)

  pub both : AnswersOf list d o r o' → (r ≡ answer_of list d (length o)) × (o' ≡ bytes_after list d o)
  unfolding bytes_after
  both a = (a.is, a.bytes)

-- an answer under which the buffer stays
abbrev Keeps : Result Cut CutError → Type 0
Keeps r = (w o : List ℕ) → after r w o ≡ o

stays : {a r : Result Cut CutError} (w o : List ℕ) → Keeps r → r ≡ a → Answers a w o r o
stays w o k e = record { is = e; bytes = sym (k w o) ∙ ap (λ (x : Result Cut CutError). after x w o) e }

-- ---- a sound list

module _ (list d o : List ℕ) where
  -- what is left to the document
  by_document_lem : {j : Result ⊤ DocumentError} → j ≡ judge_of d
      → by_document j (by_room (length o) (cut_of list d) (count_of list d) (tests_of list d)) ≡ answer_by list d (length o)
  by_document_lem e =
      ap (λ (x : Result ⊤ DocumentError). by_document x (by_room (length o) (cut_of list d) (count_of list d) (tests_of list d))) e

  pub by_long : 16777216 < length d → AnswersBy list d o (Err (errors.Document judged.TooLong)) o
  by_long l = stays (cut_of list d) o (λ w o. refl) (by_document_lem (judged_long d l))

  pub by_other : length d ≤ 16777216 → {k : ℕ} → k ≡ start_of d → {b : Bool} → b ≡ other_encoding (drop k d) → b ≡ true
      → AnswersBy list d o (Err (errors.Document (judged.OtherEncoding k))) o
  by_other l e q h = stays (cut_of list d) o (λ w o. refl) (by_document_lem (judged_other d l e q h))

  pub by_char : length d ≤ 16777216 → other_encoding (drop (start_of d) d) ≡ false → {c : Result Unit CharError}
      → c ≡ check_of d → {k : ℕ} → c ≡ Err (record { valid_up_to = k })
      → AnswersBy list d o (Err (errors.Document (judged.NotChar k))) o
  by_char l n e q = stays (cut_of list d) o (λ w o. refl) (by_document_lem (judged_char d l n e q))

-- ---- and a document of characters

-- the notes are inside it, if none was left out
pub noted_within : {list d s s' g : List ℕ} {m : Result Measured ItemError} → Passed list d s m s' g → {x : Measured} → m ≡ Ok x
    → x.noted ≤ length g → Within d g x.noted
noted_within {list} {d} {s} {s'} {g} p {x} q f =
    let z : Told d (cut_of list d) (count_of list d) (tests_of list d) s (Ok x) s' g = rw q at p.told in
    z.4.inside f

module _ (list d o : List ℕ) (small : length d ≤ 16777216) (utf8 : other_encoding (drop (start_of d) d) ≡ false) (chars : check_of d
    ≡ Ok tt) {s s' g : List ℕ} {m : Result Measured ItemError} (p : Passed list d s m s' g) where
  judged_is : judged_by m ≡ judge_of d
  judged_is = judged_items d small utf8 (sym chars) refl p.judged

  pub written_fault : {f : ItemError} → m ≡ Err f → AnswersBy list d o (Err (errors.Document (judged.At f.why f.at))) o
  written_fault q = stays (cut_of list d) o (λ w o. refl) (by_document_lem list d o (sym (ap judged_by q) ∙ judged_is))

  module _ {x : Measured} (q : m ≡ Ok x) where
    told : (x.length ≡ length (cut_of list d)) × (x.selected ≡ count_of list d) × (x.tests ≡ tests_of list d)
        × (s' ≡ sets s 0 (cut_of list d)) × Stood d g x.noted (cut_of list d)
    told = rw q at p.told

    room_is : {b : Bool} → ltb (length o) (length (cut_of list d)) ≡ b
        → cond b (Err (errors.Short (length (cut_of list d))))
        (Ok (record { length = length (cut_of list d); selected = count_of list d; tests = tests_of list d }))
        ≡ answer_by list d (length o)
    room_is e =
        ap
        (λ (y : Bool). cond y (Err (errors.Short (length (cut_of list d))))
        (Ok (record { length = length (cut_of list d); selected = count_of list d; tests = tests_of list d })))
        (sym e)
        ∙ by_document_lem list d o (sym (ap judged_by q) ∙ judged_is)

    pub written_short : length o < x.length → AnswersBy list d o (Err (errors.Short x.length)) o
    written_short l =
        let z = told.0 in
        rw z (stays (cut_of list d) o (λ w o. refl) (room_is (lt-ltb (length o) (length (cut_of list d)) (omega (arith, z)))))

    -- the cut is laid
    pub laid_answers : x.length ≤ length o → {o' : List ℕ} → o' ≡ sets o 0 (cut_of list d)
        → AnswersBy list d o (Ok (record { length = x.length; selected = x.selected; tests = x.tests })) o'
    laid_answers l y =
        let z = told.0 in
        let e = room_is (le-ltb (length o) (length (cut_of list d)) (omega (arith, z))) in
        rw (z, told.1, told.2)
        (record {
          is = e;
          bytes = y ∙ laid_whole (cut_of list d) o (omega (arith, z)) ∙ ap (λ (r : Result Cut CutError). after r (cut_of list d) o) e;
        })

    -- by the notes, if none was left out
    pub written_noted : x.length ≤ length o → x.noted ≤ length g → {r : ℕ} {o' : List ℕ} → Wrote o 0 (text_of d g x.noted) r o'
        → AnswersBy list d o (Ok (record { length = x.length; selected = x.selected; tests = x.tests })) o'
    written_noted l f w = laid_answers l (w.laid ∙ ap (sets o 0) (told.4.text f))

    -- by a second pass, in which no name tests are counted
    pub written_whole : x.length ≤ length o → {m₂ : Result Measured ItemError} {o' g' : List ℕ} → PassedBy false list d o m₂ o' g'
        → AnswersBy list d o (Ok (record { length = x.length; selected = x.selected; tests = x.tests })) o'
    written_whole l {m₂} {o'} {g'} p₂ = laid_answers l (laid m₂ p₂.judged p₂.told)
      where
        laid : (y : Result Measured ItemError) → judged_by y ≡ scanned d → Told d (cut_of list d) (count_of list d) 0 o y o' g'
            → o' ≡ sets o 0 (cut_of list d)
        laid (Ok n) e t = t.3
        laid (Err f) e t =
            let y : Err (judged.At f.why f.at) ≡ Ok tt = e ∙ sym p.judged ∙ ap judged_by q in
            cc

-- the part of a log that is used
pub used_short : (g : List ℕ) (n : ℕ) → (n ≤ length g) × (n ≤ 16777216) → length (take (n - 0) (drop 0 g)) ≤ 16777216
used_short g n h =
    let some : n - 0 ≤ length (drop 0 g) = omega (arith, length-drop 0 g, h.0) in
    omega (arith, length-take-le (n - 0) (drop 0 g) some, h.1)

-- ---- any list

module _ (list d o : List ℕ) {a : Result ⊤ ListError} (e : a ≡ list_answer list) where
  list_is : (x : Result ⊤ ListError) → a ≡ x → {r : Result Cut CutError} → by_list x (answer_by list d (length o)) ≡ r
      → r ≡ answer_of list d (length o)
  unfolding answer_of
  list_is x q h = sym h ∙ ap (λ (y : Result ⊤ ListError). by_list y (answer_by list d (length o))) (sym q ∙ e)

  pub cut_sound : a ≡ Ok tt → {r : Result Cut CutError} {o' : List ℕ} → r ≡ answer_by list d (length o) → o' ≡ bytes_by list d o
      → AnswersOf list d o r o'
  unfolding bytes_by
  cut_sound q f g =
      let z : answer_by list d (length o) ≡ answer_of list d (length o) = list_is (Ok tt) q refl in
      record { is = f ∙ z; bytes = g ∙ ap (λ (x : Result Cut CutError). after x (cut_of list d) o) z }

  pub cut_refused : {x : ListError} → a ≡ Err x → AnswersOf list d o (Err (errors.List x)) o
  cut_refused {x} q = stays (cut_of list d) o (λ w o. refl) (list_is (Err x) q refl)
