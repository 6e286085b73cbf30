-- Each call has the one answer that document 01 says (specs/Answers.antt), and leaves the one buffer that it says. In order: how many are
-- selected; what is cut; the answer, both ways; the buffer, both ways; the place of every refusal.
use mathlib.Core.Path.{◌≡◌, refl, sym, ap, ap₂, ◌∙◌}
use mathlib.Core.Bool.{Bool, true, false, cond, false≢true}
use mathlib.Core.List.{List, [], ◌∷◌, ◌++◌, append-nil}
use mathlib.Core.Logic.{◌↔◌}
use Prim.Native.Nat.{ℕ, ◌+◌, ◌≤◌, ◌<◌}
use native.Mathlib.Nat.{zero-add}
use native.Mathlib.Omega.{arith}
use borrow.Author.Tests.{ltb-true, ltb-false, lt-ltb, le-ltb}
use lib.Dec.{ltb}
use lib.ListN.{length, drop, length-drop}
use Rattle.std.specs.Prelude.{Result, Ok, Err, ⊤}
use Rattle.xml.proofs.Encoding.{other_rule}
use Rattle.paths.specs.Path.{print_list}
use Rattle.paths.specs.Answer.{Says}
use Rattle.paths.specs.Answer as list_says
use Rattle.paths.specs.Judge.{list_answer, list_paths}
use Rattle.paths.specs.declared.ListError.{ListError}
use Rattle.paths.specs.declared.ListError.TheVariants as lists
use Rattle.paths.proofs.Meaning.{says, says_only, paths_print, print_once}
use Rattle.document.specs.Judge.{start_of, judge_of}
use Rattle.document.specs.declared.Why.{Why}
use Rattle.document.specs.declared.Why.TheVariants as why
use Rattle.document.specs.declared.DocumentError.{DocumentError}
use Rattle.document.specs.declared.DocumentError.TheVariants as judged
use Rattle.matcher.specs.Says.{BySome}
use Rattle.trees.specs.Grown.{forest_of}
use Rattle.trees.specs.Written.{cut_of, count_of, tests_of}
use Rattle.cutter.specs.Answer.{by_list, by_document, by_room, answer_of, bytes_after, number_of, second_of}
use Rattle.cutter.specs.declared.answer.Cut.{Cut}
use Rattle.refusals.specs.declared.CutError.{CutError}
use Rattle.refusals.specs.declared.CutError.TheVariants as errors
use Rattle.demands.specs.Elements.{Element, elements, how_many}
use Rattle.demands.specs.Judged.{DocumentSays}
use Rattle.demands.specs.Judged as document_says
use Rattle.matcher.specs.Tried.{Counted, none, this, other}
use Rattle.matcher.proofs.Tests.{counted_one}
use Rattle.demands.specs.Answers.{Cuts, AnswerSays, list_long, list_malformed, list_large, too_long}
use Rattle.demands.specs.Answers.{in_other_encoding, not_char, doctype, malformed, too_large, short, written, BufferSays, on_written}
use Rattle.demands.specs.Answers.{on_refused, Placed}
use Rattle.demands.proofs.Answered.{refused, written as cut_stands}
use Rattle.demands.proofs.Selected.{chosen, selected_iff, count_selected}
use Rattle.demands.proofs.Tried.{tests_counted}
use Rattle.demands.proofs.Accepted.{derived_forest}
use Rattle.demands.proofs.Under.{rule_written, written_only}
use Rattle.demands.proofs.Faults.{judge_says, judge_only, inside, runs_out_seven}

-- ---- how many are selected

module _ {A : Type 0} (P : A → Type 0) (f : A → Bool) (t : (x : A) → P x ↔ (f x ≡ true)) where
  many_counted : (xs : List A) → Counted P xs (how_many f xs)
  many_counted [] = none
  many_counted (x ∷ xs) = go (f x) refl (many_counted xs)
    where
      go : (b : Bool) → f x ≡ b → Counted P xs (how_many f xs) → Counted P (x ∷ xs) (cond b 1 0 + how_many f xs)
      go true e c = this ((t x).1 e) c
      go false e c = rw (zero-add (how_many f xs)) (other (λ p. false≢true (sym e ∙ (t x).0 p)) c)

  counted_many : {xs : List A} {n : ℕ} → Counted P xs n → n ≡ how_many f xs
  counted_many none = refl
  counted_many (this {x} {xs} p c) = rw ((t x).0 p) (ap (λ (k : ℕ). 1 + k) (counted_many c))
  counted_many (other {x} {xs} n c) = go (f x) refl (counted_many c)
    where
      go : {k : ℕ} (b : Bool) → f x ≡ b → k ≡ how_many f xs → k ≡ cond b 1 0 + how_many f xs
      go true e q = absurd (n ((t x).1 e))
      go false e q = q ∙ sym (zero-add (how_many f xs))

-- ---- what is cut

-- a list and a document that are accepted have a cut
pub cut_cuts : (list d : List ℕ) → list_answer list ≡ Ok tt → judge_of d ≡ Ok tt
    → Cuts list d (cut_of list d) (count_of list d) (tests_of list d)
cut_cuts list d p q = go (rw q at (judge_says d))
  where
    go : DocumentSays d (Ok tt) → Cuts list d (cut_of list d) (count_of list d) (tests_of list d)
    go (document_says.sound {f} a) =
        let (x, y, z) = paths_print list p in
        let e = derived_forest d a.chars a.derived in
        record {
          listed = rw p at (says list);
          paths = list_paths list;
          printed = record { prints = sym (append-nil (print_list (list_paths list)) ∙ x); good = y };
          forest = forest_of d;
          accepted = rw e at a;
          writes = rule_written list d;
          selected =
              rw (count_selected list d)
              (many_counted (λ (x : Element). BySome (list_paths list) x.names x.attributes) (chosen (list_paths list))
              (λ x. selected_iff (list_paths list) x.names x.attributes) (elements [] (forest_of d)));
          tested = tests_counted list d p;
        }

-- and one only
pub record CutIs (list d w : List ℕ) (c t : ℕ) : Type 0 where
  pub list_sound : list_answer list ≡ Ok tt
  pub document_sound : judge_of d ≡ Ok tt
  pub bytes_are : w ≡ cut_of list d
  pub count_is : c ≡ count_of list d
  pub tests_are : t ≡ tests_of list d

pub cuts_only : {list d w : List ℕ} {c t : ℕ} → Cuts list d w c t → CutIs list d w c t
cuts_only {list} {d} {w} {c} {t} x =
    let p = says_only list (Ok tt) x.listed in
    let (a, b, l) = paths_print list p in
    let e : x.paths ≡ list_paths list
    = print_once x.paths (list_paths list) x.printed.good b
    (sym (append-nil (print_list x.paths)) ∙ sym x.printed.prints ∙ sym a) in
    let g = derived_forest d x.accepted.chars x.accepted.derived in
    record {
      list_sound = p;
      document_sound = judge_only d (Ok tt) (document_says.sound x.accepted);
      bytes_are = written_only list d w (rw (e, g) at x.writes);
      count_is =
          counted_many (λ (x : Element). BySome (list_paths list) x.names x.attributes) (chosen (list_paths list))
          (λ x. selected_iff (list_paths list) x.names x.attributes) (rw (e, g) at x.selected)
          ∙ sym (count_selected list d);
      tests_are = counted_one (rw (e, g) at x.tested) (tests_counted list d p);
    }

-- ---- the answer

-- what is answered is what document 01 says of this list, document and room
pub says_answer : (list d : List ℕ) (room : ℕ) → AnswerSays list d room (answer_of list d room)
unfolding answer_of
says_answer list d room = by_list_lem (list_answer list) refl (says list)
  where
    by_room_lem : list_answer list ≡ Ok tt → judge_of d ≡ Ok tt → (b : Bool) → ltb room (length (cut_of list d)) ≡ b
        → AnswerSays list d room
        (cond b (Err (errors.Short (length (cut_of list d))))
        (Ok (record { length = length (cut_of list d); selected = count_of list d; tests = tests_of list d })))
    by_room_lem p q true e = short (cut_cuts list d p q) (ltb-true room (length (cut_of list d)) e)
    by_room_lem p q false e = written (cut_cuts list d p q) (ltb-false room (length (cut_of list d)) e)

    by_document_lem : list_answer list ≡ Ok tt → Says list (Ok tt) → (j : Result ⊤ DocumentError) → judge_of d ≡ j
        → DocumentSays d j
        → AnswerSays list d room (by_document j (by_room room (cut_of list d) (count_of list d) (tests_of list d)))
    by_document_lem p l (Ok _) q h = by_room_lem p q (ltb room (length (cut_of list d))) refl
    by_document_lem p l (Err judged.TooLong) q h = too_long l h
    by_document_lem p l (Err (judged.OtherEncoding o)) q h = in_other_encoding l h
    by_document_lem p l (Err (judged.NotChar o)) q h = not_char l h
    by_document_lem p l (Err (judged.At why.Doctype o)) q h = doctype l h
    by_document_lem p l (Err (judged.At why.Malformed o)) q h = malformed l h
    by_document_lem p l (Err (judged.At why.TooLarge o)) q h = too_large l h

    by_list_lem : (a : Result ⊤ ListError) → list_answer list ≡ a → Says list a
        → AnswerSays list d room (by_list a (by_document (judge_of d) (by_room room (cut_of list d) (count_of list d) (tests_of list d))))
    by_list_lem (Ok _) p l = by_document_lem p l (judge_of d) refl (judge_says d)
    by_list_lem (Err lists.TooLong) p l = list_long l
    by_list_lem (Err (lists.Malformed n)) p l = list_malformed l
    by_list_lem (Err (lists.TooLarge n)) p l = list_large l

-- and no other answer is
pub only_answer : (list d : List ℕ) (room : ℕ) (a : Result Cut CutError) → AnswerSays list d room a → answer_of list d room ≡ a
unfolding answer_of
only_answer list d room (Err (errors.List lists.TooLong)) (list_long l) = rw (says_only list (Err lists.TooLong) l) refl
only_answer list d room (Err (errors.List (lists.Malformed n))) (list_malformed l) = rw (says_only list (Err (lists.Malformed n)) l) refl
only_answer list d room (Err (errors.List (lists.TooLarge n))) (list_large l) = rw (says_only list (Err (lists.TooLarge n)) l) refl
only_answer list d room (Err (errors.Document judged.TooLong)) (too_long l h) =
    rw (says_only list (Ok tt) l, judge_only d (Err judged.TooLong) h) refl
only_answer list d room (Err (errors.Document (judged.OtherEncoding o))) (in_other_encoding l h) =
    rw (says_only list (Ok tt) l, judge_only d (Err (judged.OtherEncoding o)) h) refl
only_answer list d room (Err (errors.Document (judged.NotChar o))) (not_char l h) =
    rw (says_only list (Ok tt) l, judge_only d (Err (judged.NotChar o)) h) refl
only_answer list d room (Err (errors.Document (judged.At why.Doctype o))) (doctype l h) =
    rw (says_only list (Ok tt) l, judge_only d (Err (judged.At why.Doctype o)) h) refl
only_answer list d room (Err (errors.Document (judged.At why.Malformed o))) (malformed l h) =
    rw (says_only list (Ok tt) l, judge_only d (Err (judged.At why.Malformed o)) h) refl
only_answer list d room (Err (errors.Document (judged.At why.TooLarge o))) (too_large l h) =
    rw (says_only list (Ok tt) l, judge_only d (Err (judged.At why.TooLarge o)) h) refl
only_answer list d room (Err (errors.Short n)) (short {w} {c} x l) =
    let y = cuts_only x in
    let e = y.bytes_are in
    rw (y.list_sound, y.document_sound, lt-ltb room (length (cut_of list d)) (rw e at l), e) refl
only_answer list d room (Ok c) (written x l) =
    let y = cuts_only x in
    let e = y.bytes_are in
    rw (y.list_sound, y.document_sound, le-ltb room (length (cut_of list d)) (rw e at l), e, y.count_is, y.tests_are) refl

pub one_answer : {list d : List ℕ} {room : ℕ} {a b : Result Cut CutError} → AnswerSays list d room a → AnswerSays list d room b → a ≡ b
one_answer {list} {d} {room} {a} {b} x y = sym (only_answer list d room a x) ∙ only_answer list d room b y

-- ---- the buffer

module _ (list d o : List ℕ) where
  kept : (a : Result Cut CutError) → answer_of list d (length o) ≡ a → AnswerSays list d (length o) a → (number_of a ≡ 0 → ⊥)
      → BufferSays list d o (bytes_after list d o)
  kept a e h n = rw (refused list d o (rw e n)) (on_refused a h n)

  pub says_buffer : BufferSays list d o (bytes_after list d o)
  says_buffer = go (answer_of list d (length o)) refl (says_answer list d (length o))
    where
      go : (a : Result Cut CutError) → answer_of list d (length o) ≡ a → AnswerSays list d (length o) a
          → BufferSays list d o (bytes_after list d o)
      go (Ok c) e (written {w} x l) =
          let q : bytes_after list d o ≡ w ++ drop (length w) o
          = cut_stands list d o (ap number_of e)
          ∙ ap₂ (λ (v : List ℕ) (k : ℕ). v ++ drop k o) (sym (cuts_only x).bytes_are) (ap second_of e) in
          rw q (on_written x l)
      go (Err (errors.List lists.TooLong)) e h = kept (Err (errors.List lists.TooLong)) e h (λ z. omega arith)
      go (Err (errors.List (lists.Malformed n))) e h = kept (Err (errors.List (lists.Malformed n))) e h (λ z. omega arith)
      go (Err (errors.List (lists.TooLarge n))) e h = kept (Err (errors.List (lists.TooLarge n))) e h (λ z. omega arith)
      go (Err (errors.Document judged.TooLong)) e h = kept (Err (errors.Document judged.TooLong)) e h (λ z. omega arith)
      go (Err (errors.Document (judged.OtherEncoding n))) e h = kept (Err (errors.Document (judged.OtherEncoding n))) e h (λ z. omega arith)
      go (Err (errors.Document (judged.NotChar n))) e h = kept (Err (errors.Document (judged.NotChar n))) e h (λ z. omega arith)
      go (Err (errors.Document (judged.At why.Doctype n))) e h =
          kept (Err (errors.Document (judged.At why.Doctype n))) e h (λ z. omega arith)
      go (Err (errors.Document (judged.At why.Malformed n))) e h =
          kept (Err (errors.Document (judged.At why.Malformed n))) e h (λ z. omega arith)
      go (Err (errors.Document (judged.At why.TooLarge n))) e h =
          kept (Err (errors.Document (judged.At why.TooLarge n))) e h (λ z. omega arith)
      go (Err (errors.Short n)) e h = kept (Err (errors.Short n)) e h (λ z. omega arith)

  pub only_buffer : (o' : List ℕ) → BufferSays list d o o' → bytes_after list d o ≡ o'
  only_buffer o' (on_written {w} {c} {t} x l) =
      let e = only_answer list d (length o) (Ok (record { length = length w; selected = c; tests = t })) (written x l) in
      cut_stands list d o (ap number_of e)
      ∙ ap₂ (λ (v : List ℕ) (k : ℕ). v ++ drop k o) (sym (cuts_only x).bytes_are) (ap second_of e)
  only_buffer o' (on_refused a h n) = refused list d o (rw (only_answer list d (length o) a h) n)

-- ---- the place of every refusal

list_malformed_line : {list : List ℕ} {n : ℕ} → Says list (Err (lists.Malformed n)) → (1 ≤ n) × (n ≤ 32)
list_malformed_line (list_says.malformed l ps t b few some bad) = (omega arith, omega arith)

list_large_line : {list : List ℕ} {n : ℕ} → Says list (Err (lists.TooLarge n)) → (1 ≤ n) × (n ≤ 33)
list_large_line (list_says.large l ps t b few large) = (omega arith, omega arith)
list_large_line (list_says.past l ps t b full some) = (omega arith, omega arith)

char_inside : {d : List ℕ} {o : ℕ} → DocumentSays d (Err (judged.NotChar o)) → o < length d
char_inside (document_says.not_char l n h) = h.0

-- a declaration is not empty
other_inside : {d : List ℕ} {o : ℕ} → DocumentSays d (Err (judged.OtherEncoding o)) → o < length d
other_inside {d} (document_says.in_other_encoding l n) =
    let (t, (m, e, x)) = (other_rule (drop (start_of d) d)).0 n in
    omega (arith, length-drop (start_of d) d, ap length e)

fault_inside : {d : List ℕ} {w : Why} {o : ℕ} → DocumentSays d (Err (judged.At w o)) → o ≤ length d
fault_inside (document_says.at_fault l n c x) = inside c x

-- only 7 is answered where the items run out
fault_before : {d : List ℕ} {w : Why} {o : ℕ} → (w ≡ why.Malformed → ⊥) → DocumentSays d (Err (judged.At w o)) → o < length d
fault_before {d} {w} {o} n (document_says.at_fault l k c x) =
    let z = inside c x in
    let r : o ≡ length d → ⊥ = λ e. n (runs_out_seven c x e).1 in
    omega arith

-- "a number and a place": a line, an offset, or the length needed
pub placed : (list d : List ℕ) (room : ℕ) → Placed d room (answer_of list d room)
placed list d room = go (answer_of list d room) (says_answer list d room)
  where
    go : (a : Result Cut CutError) → AnswerSays list d room a → Placed d room a
    go (Err (errors.List lists.TooLong)) h = tt
    go (Err (errors.List (lists.Malformed n))) (list_malformed l) = list_malformed_line l
    go (Err (errors.List (lists.TooLarge n))) (list_large l) = list_large_line l
    go (Err (errors.Document judged.TooLong)) h = tt
    go (Err (errors.Document (judged.OtherEncoding o))) (in_other_encoding l h) = other_inside h
    go (Err (errors.Document (judged.NotChar o))) (not_char l h) = char_inside h
    go (Err (errors.Document (judged.At why.Doctype o))) (doctype l h) = fault_before (λ e. false≢true cc) h
    go (Err (errors.Document (judged.At why.Malformed o))) (malformed l h) = fault_inside h
    go (Err (errors.Document (judged.At why.TooLarge o))) (too_large l h) = fault_before (λ e. false≢true cc) h
    go (Err (errors.Short n)) (short x l) = l
    go (Ok c) (written x l) = l
