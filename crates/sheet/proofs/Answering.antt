-- `rows`, and the functions under it: one law for each way out, about the answer and about the buffer. In order: whether an element has a
-- record; a document's length, the encoding that it declares and its characters; one that is measured, and written where there is room;
-- the list.
use mathlib.Core.Path.{◌≡◌, refl, sym, ap, ◌∙◌}
use mathlib.Core.Bool.{Bool, true, false, cond}
use mathlib.Core.List.{List, []}
use Prim.Native.Nat.{ℕ, ◌+◌, ◌≤◌, ◌<◌}
use native.Mathlib.Omega.{arith}
use borrow.Author.Tests.{lt-ltb, le-ltb}
use lib.Dec.{ltb}
use lib.ListN.{length, drop}
use lib.Seq.{sets}
use Rattle.std.specs.Prelude.{Result, Ok, Err, ⊤}
use Rattle.xml.specs.Forest.{Name}
use Rattle.paths.specs.Judge.{list_answer}
use Rattle.paths.specs.declared.ListError.{ListError}
use Rattle.chars.specs.Check.{check_of}
use Rattle.std.specs.Prelude.{Result, Ok, Err}
use Rattle.chars.specs.declared.whole.CharError.{CharError}
use Rattle.readers.specs.Named.{other_encoding}
use Rattle.document.specs.Judge.{start_of, scanned, judge_of}
use Rattle.document.specs.declared.ItemError.{ItemError}
use Rattle.document.specs.declared.DocumentError.{DocumentError}
use Rattle.document.specs.declared.DocumentError.TheVariants as judged
use Rattle.document.proofs.Judging.{judged_long, judged_other, judged_items, judged_char}
use Rattle.matcher.specs.declared.Verdict.{Verdict}
use Rattle.matcher.specs.declared.Verdict.TheVariants.{Unselected, Selected, Marked}
use Rattle.writer.specs.Wrote.{Wrote}
use Rattle.writer.proofs.Laying.{wrote_none, laid_whole}
use Rattle.trees.specs.Cut.{is_selected, one}
use Rattle.trees.specs.Written.{count_of}
use Rattle.rows.specs.Field.{record_of}
use Rattle.rows.specs.Table.{record_by, table_of}
use Rattle.cutter.specs.Answer.{by_list, by_document}
use Rattle.sheet.specs.Answer.{by_room, answer_by, answer_of, after, bytes_by, bytes_after}
use Rattle.sheet.specs.Passed.{Started, judged_by, Told, Passed}
use Rattle.sheet.specs.declared.Table.{Table}
use Rattle.refusals.specs.declared.CutError.{CutError}
use Rattle.refusals.specs.declared.CutError.TheVariants as errors
use Rattle.sheet.specs.declared.Run.{Run}

-- ---- `start`: the record of an element that is selected, and none of another

record_one : (w : Verdict) (up : List Name) (s : List ℕ) → is_selected w ≡ true → (record_by w up s ≡ record_of up s) × (one w ≡ 1)
record_one Unselected up s e = (cc, cc)
record_one Selected up s e = (refl, refl)
record_one Marked up s e = (refl, refl)

record_none : (w : Verdict) (up : List Name) (s : List ℕ) → is_selected w ≡ false → (record_by w up s ≡ []) × (one w ≡ 0)
record_none Unselected up s e = (refl, refl)
record_none Selected up s e = (cc, cc)
record_none Marked up s e = (cc, cc)

module _ {w : Verdict} {up : List Name} {s : List ℕ} {b : Bool} (e : b ≡ is_selected w) {run r : Run} where
  pub started_one : b ≡ true → {o o' : List ℕ} {to : ℕ} → Wrote o run.to (record_of up s) to o' × (to ≤ run.to + 268435456)
      → r.to ≡ to → r.count ≡ run.count + 1 → Started w up s o run r o'
  started_one q {o} {o'} {to} l et ec =
      let z = record_one w up s (sym e ∙ q) in
      record { wrote = rw (z.0, et) l.0; near = omega (arith, et, l.1); num = omega (arith, ec, z.1) }

  pub started_none : b ≡ false → {o : List ℕ} → r ≡ run → Started w up s o run r o
  started_none q er =
      let z = record_none w up s (sym e ∙ q) in
      rw er (record { wrote = rw z.0 wrote_none; near = omega arith; num = omega (arith, z.1) })

-- ---- the answer and the buffer, together

-- r is the answer a, and the buffer o with the table w is o'
pub record Answers (a : Result Table CutError) (w o : List ℕ) (r : Result Table CutError) (o' : List ℕ) : Type 0 where
  pub is : r ≡ a
  pub bytes : o' ≡ after a w o

abbrev pub AnswersBy : List ℕ → List ℕ → List ℕ → Result Table CutError → List ℕ → Type 0
AnswersBy list d o = Answers (answer_by list d (length o)) (table_of list d) o

abbrev pub AnswersOf : List ℕ → List ℕ → List ℕ → Result Table CutError → List ℕ → Type 0
AnswersOf list d o = Answers (answer_of list d (length o)) (table_of list d) o

-- the two promises of a contract, by a sound list and by any
module _ (list d o : List ℕ) {r : Result Table CutError} {o' : List ℕ} where
  pub both_by : AnswersBy list d o r o' → (r ≡ answer_by list d (length o)) × (o' ≡ bytes_by list d o)
  unfolding bytes_by
  both_by a = (a.is, a.bytes)

  pub both : AnswersOf list d o r o' → (r ≡ answer_of list d (length o)) × (o' ≡ bytes_after list d o)
  unfolding bytes_after
  both a = (a.is, a.bytes)

-- an answer under which the buffer stays
abbrev Keeps : Result Table CutError → Type 0
Keeps r = (w o : List ℕ) → after r w o ≡ o

stays : {a r : Result Table CutError} (w o : List ℕ) → Keeps r → r ≡ a → Answers a w o r o
stays w o k e = record { is = e; bytes = sym (k w o) ∙ ap (λ (x : Result Table CutError). after x w o) e }

-- ---- a sound list

module _ (list d o : List ℕ) where
  -- what is left to the document
  by_document_lem : {j : Result ⊤ DocumentError} → j ≡ judge_of d
      → by_document j (by_room (length o) (table_of list d) (count_of list d)) ≡ answer_by list d (length o)
  by_document_lem e = ap (λ (x : Result ⊤ DocumentError). by_document x (by_room (length o) (table_of list d) (count_of list d))) e

  pub by_long : 16777216 < length d → AnswersBy list d o (Err (errors.Document judged.TooLong)) o
  by_long l = stays (table_of list d) o (λ w o. refl) (by_document_lem (judged_long d l))

  pub by_other : length d ≤ 16777216 → {k : ℕ} → k ≡ start_of d → {b : Bool} → b ≡ other_encoding (drop k d) → b ≡ true
      → AnswersBy list d o (Err (errors.Document (judged.OtherEncoding k))) o
  by_other l e q h = stays (table_of list d) o (λ w o. refl) (by_document_lem (judged_other d l e q h))

  pub by_char : length d ≤ 16777216 → other_encoding (drop (start_of d) d) ≡ false → {c : Result Unit CharError}
      → c ≡ check_of d → {k : ℕ} → c ≡ Err (record { valid_up_to = k })
      → AnswersBy list d o (Err (errors.Document (judged.NotChar k))) o
  by_char l n e q = stays (table_of list d) o (λ w o. refl) (by_document_lem (judged_char d l n e q))

-- ---- and a document of characters

module _ (list d o : List ℕ) (small : length d ≤ 16777216) (utf8 : other_encoding (drop (start_of d) d) ≡ false) (chars : check_of d
    ≡ Ok tt) {s s' : List ℕ} {m : Result Table ItemError} (p : Passed list d s m s') where
  judged_is : judged_by m ≡ judge_of d
  judged_is = judged_items d small utf8 (sym chars) refl p.judged

  pub written_fault : {f : ItemError} → m ≡ Err f → AnswersBy list d o (Err (errors.Document (judged.At f.why f.at))) o
  written_fault q = stays (table_of list d) o (λ w o. refl) (by_document_lem list d o (sym (ap judged_by q) ∙ judged_is))

  module _ {x : Table} (q : m ≡ Ok x) where
    told : (x.length ≡ length (table_of list d)) × (x.selected ≡ count_of list d) × (s' ≡ sets s 0 (table_of list d))
    told = rw q at p.told

    room_is : {b : Bool} → ltb (length o) (length (table_of list d)) ≡ b
        → cond b (Err (errors.Short (length (table_of list d))))
        (Ok (record { length = length (table_of list d); selected = count_of list d }))
        ≡ answer_by list d (length o)
    room_is e =
        ap
        (λ (y : Bool). cond y (Err (errors.Short (length (table_of list d))))
        (Ok (record { length = length (table_of list d); selected = count_of list d })))
        (sym e)
        ∙ by_document_lem list d o (sym (ap judged_by q) ∙ judged_is)

    pub written_short : length o < x.length → AnswersBy list d o (Err (errors.Short x.length)) o
    written_short l =
        let z = told.0 in
        rw z (stays (table_of list d) o (λ w o. refl) (room_is (lt-ltb (length o) (length (table_of list d)) (omega (arith, z)))))

    -- by the same pass into the buffer
    pub written_whole : x.length ≤ length o → {m₂ : Result Table ItemError} {o' : List ℕ} → Passed list d o m₂ o'
        → AnswersBy list d o (Ok (record { length = x.length; selected = x.selected })) o'
    written_whole l {m₂} {o'} p₂ =
        let z = told.0 in
        let e = room_is (le-ltb (length o) (length (table_of list d)) (omega (arith, z))) in
        rw (z, told.1)
        (record {
          is = e;
          bytes =
              laid m₂ p₂.judged p₂.told
              ∙ laid_whole (table_of list d) o (omega (arith, z))
              ∙ ap (λ (r : Result Table CutError). after r (table_of list d) o) e;
        })
      where
        laid : (y : Result Table ItemError) → judged_by y ≡ scanned d → Told (table_of list d) (count_of list d) o y o'
            → o' ≡ sets o 0 (table_of list d)
        laid (Ok n) e t = t.2
        laid (Err f) e t =
            let y : Err (judged.At f.why f.at) ≡ Ok tt = e ∙ sym p.judged ∙ ap judged_by q in
            cc

-- ---- any list

module _ (list d o : List ℕ) {a : Result ⊤ ListError} (e : a ≡ list_answer list) where
  list_is : (x : Result ⊤ ListError) → a ≡ x → {r : Result Table CutError} → by_list x (answer_by list d (length o)) ≡ r
      → r ≡ answer_of list d (length o)
  unfolding answer_of
  list_is x q h = sym h ∙ ap (λ (y : Result ⊤ ListError). by_list y (answer_by list d (length o))) (sym q ∙ e)

  pub rows_sound : a ≡ Ok tt → {r : Result Table CutError} {o' : List ℕ} → r ≡ answer_by list d (length o) → o' ≡ bytes_by list d o
      → AnswersOf list d o r o'
  unfolding bytes_by
  rows_sound q f g =
      let z : answer_by list d (length o) ≡ answer_of list d (length o) = list_is (Ok tt) q refl in
      record { is = f ∙ z; bytes = g ∙ ap (λ (x : Result Table CutError). after x (table_of list d) o) z }

  pub rows_refused : {x : ListError} → a ≡ Err x → AnswersOf list d o (Err (errors.List x)) o
  rows_refused {x} q = stays (table_of list d) o (λ w o. refl) (list_is (Err x) q refl)
