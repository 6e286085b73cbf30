-- The three demands of the request, each one theorem under its own name. They are about `answer_of` and `bytes_after`, which are the
-- contract of `cut`: two equations, for every list, document and buffer, and no `requires`. The words are those of specs/Answers.antt.
use mathlib.Core.Path.{◌≡◌, refl, sym, ap, ◌∙◌}
use mathlib.Core.List.{List, ◌++◌}
use mathlib.Core.Logic.{◌↔◌}
use Prim.Native.Nat.{ℕ, ◌≤◌}
use lib.ListN.{length, take, drop}
use Rattle.std.specs.Prelude.{true, Ok, Result}
use Rattle.xml.specs.Forest.{Forest}
use Rattle.paths.specs.Judge.{list_answer, list_paths}
use Rattle.trees.specs.Written.{cut_of, count_of, tests_of}
use Rattle.cutter.specs.Answer.{answer_of, bytes_after, number_of, second_of, third_of, fourth_of}
use Rattle.cutter.specs.declared.answer.Cut.{Cut as Written}
use Rattle.refusals.specs.declared.CutError.{CutError}
use Rattle.covers.specs.Cover.{Covered}
use Rattle.covers.specs.Answer.{cover_answer}
use Rattle.covers.proofs.Answering.{said_yes}
use Rattle.demands.specs.Within.{Within}
use Rattle.demands.specs.Judged.{Accepted}
use Rattle.demands.specs.Answers.{Cuts, AnswerSays, written, BufferSays, Placed}
use Rattle.demands.proofs.Answered.{numbered, refused, third, fourth, written as cut_stands}
use Rattle.demands.proofs.Refused.{Taken, taken_iff}
use Rattle.demands.proofs.Borne.{Borne, EachTag, document_borne}
use Rattle.demands.proofs.Narrow.{within_covered}
use Rattle.demands.proofs.Demand3.{cut_of_cut}
use Rattle.demands.proofs.Answers.{says_answer, only_answer, says_buffer, placed, cuts_only}

-- 1. "Every list, document and output buffer gets an answer. A bad list, a bad document or too little room is refused by a number and a
-- place, never left to the caller to check, and a refused call changes no byte of the output." Of a call on a buffer o, the answer a is
-- given and o' is left.
pub record Answered (list d o : List ℕ) (a : Result Written CutError) (o' : List ℕ) : Type 0 where
  pub says : AnswerSays list d (length o) a
  pub only : (b : Result Written CutError) → AnswerSays list d (length o) b → b ≡ a
  pub number : number_of a ≤ 10
  pub place : Placed d (length o) a
  pub third : (number_of a ≡ 0 → ⊥) → third_of a ≡ 0
  pub fourth : (number_of a ≡ 0 → ⊥) → fourth_of a ≡ 0
  pub bytes : (number_of a ≡ 0 → ⊥) → o' ≡ o
  pub buffer : BufferSays list d o o'

pub demand_1 : (list d o : List ℕ) → Answered list d o (answer_of list d (length o)) (bytes_after list d o)
demand_1 list d o =
    record {
      says = says_answer list d (length o);
      only = λ b h. sym (only_answer list d (length o) b h);
      number = numbered list d (length o);
      place = placed list d (length o);
      third = third (answer_of list d (length o));
      fourth = fourth (answer_of list d (length o));
      bytes = refused list d o;
      buffer = says_buffer list d o;
    }

-- 2. "A document is accepted exactly when it is in UTF-8 and keeps XML 1.0 (Fifth Edition) without a document type, within the stated
-- sizes. A path selects an element exactly when its steps can be laid on the names from the root down to that element as XPath 1.0 means
-- child and descendant steps. The bytes written are those that the rule gives, and the number handed back with them is that of the elements
-- selected." `Cuts` says all that of the forest that production [1] derives: by `Selects`, the rule `Writes`, how many are selected, and,
-- for Q-13, how many name tests are tried. "demand 2 takes the test in": a path picks an element that its steps select and that passes its
-- attribute test, `Picks`.
pub record Cut (list d o : List ℕ) (a : Result Written CutError) (o' : List ℕ) : Type 0 where
  -- by a list that is accepted, the answer is 0 or 9 and none of 4 to 8 and 10. "Accept a declaration without an encoding, or one that says
  -- UTF-8 with ASCII letter case ignored": a document that is accepted has no other declaration
  pub accepted : list_answer list ≡ Ok tt → Taken a ↔ ((f : Forest) × Accepted d f)
  -- the attributes that a test is held against are those that each tag bears by [40], [44], [41] and [10], made normal, and no others
  pub attributes : (f : Forest) → Accepted d f → EachTag Borne f
  -- what is written is the cut, and the numbers are its own
  pub written_is : (n c t : ℕ) → a ≡ Ok (record { length = n; selected = c; tests = t })
      → (w : List ℕ) × Cuts list d w c t × (n ≡ length w) × (o' ≡ w ++ drop n o)
  -- and where there is a cut and room for it, it is written
  pub cut_is : (w : List ℕ) (c t : ℕ) → Cuts list d w c t → length w ≤ length o
      → (a ≡ Ok (record { length = length w; selected = c; tests = t })) × (o' ≡ w ++ drop (length w) o)

pub demand_2 : (list d o : List ℕ) → Cut list d o (answer_of list d (length o)) (bytes_after list d o)
demand_2 list d o = record { accepted = accepts; attributes = λ f x. document_borne x.derived; written_is = writes; cut_is = cuts }
  where
    accepts : list_answer list ≡ Ok tt → Taken (answer_of list d (length o)) ↔ ((f : Forest) × Accepted d f)
    accepts e =
        let t = taken_iff list d (length o) e in (
          (λ x. let (l, c, (f, y)) = t.0 x in (f, record { size = l; chars = c; derived = y })),
          (λ (f, x). t.1 (x.size, x.chars, (f, x.derived))),
        )

    cuts : (w : List ℕ) (c t : ℕ) → Cuts list d w c t → length w ≤ length o
        → (answer_of list d (length o) ≡ Ok (record { length = length w; selected = c; tests = t }))
        × (bytes_after list d o ≡ w ++ drop (length w) o)
    cuts w c t x l =
        let e = only_answer list d (length o) (Ok (record { length = length w; selected = c; tests = t })) (written x l) in
        (e, cut_stands list d o (ap number_of e) ∙ rw (ap second_of e, (cuts_only x).bytes_are) refl)

    writes : (n c t : ℕ) → answer_of list d (length o) ≡ Ok (record { length = n; selected = c; tests = t })
        → (w : List ℕ) × Cuts list d w c t × (n ≡ length w) × (bytes_after list d o ≡ w ++ drop n o)
    writes n c t e = found (rw e at (says_answer list d (length o))) e
      where
        found : {n c t : ℕ} → AnswerSays list d (length o) (Ok (record { length = n; selected = c; tests = t }))
            → answer_of list d (length o) ≡ Ok (record { length = n; selected = c; tests = t })
            → (w : List ℕ) × Cuts list d w c t × (n ≡ length w) × (bytes_after list d o ≡ w ++ drop n o)
        found (written {w} x l) e =
            (w, x, refl, cut_stands list d o (ap number_of e) ∙ rw (ap second_of e, (cuts_only x).bytes_are) refl)

-- 3. "Let two lists be accepted", and "it is enough that each narrow path is covered by a wide one, marked if the narrow is". "If the wide
-- cut was written and is itself within the document size, then cutting it by the narrow list, with room enough, gives byte for byte the
-- narrow cut of the master, and the same number of selected elements." Of two calls: the first writes the wide cut, n bytes, at the front
-- of the buffer o; the second cuts these bytes into the buffer o'. The name tests of the second call are those of the document that it
-- cuts.
pub demand_3_covered : (narrow wide d o o' : List ℕ) (n k m : ℕ) → list_answer narrow ≡ Ok tt → list_answer wide ≡ Ok tt
    → Covered (list_paths narrow) (list_paths wide) → answer_of wide d (length o) ≡ Ok (record { length = n; selected = k; tests = m })
    → n ≤ 16777216
    → length (cut_of narrow d) ≤ length o'
    → (answer_of narrow (take n (bytes_after wide d o)) (length o')
    ≡ Ok (record {
      length = length (cut_of narrow d);
      selected = count_of narrow d;
      tests = tests_of narrow (take n (bytes_after wide d o));
    }))
    × (bytes_after narrow (take n (bytes_after wide d o)) o' ≡ cut_of narrow d ++ drop (length (cut_of narrow d)) o')
demand_3_covered narrow wide d o o' n k m p q = cut_of_cut narrow wide d o o' n k m p

-- The same where "every path of the narrow list stand in the wide list, marked there if it is marked in the narrow one", "a path being the
-- same only with the same test": a path covers itself.
pub demand_3 : (narrow wide d o o' : List ℕ) (n k m : ℕ) → list_answer narrow ≡ Ok tt → list_answer wide ≡ Ok tt
    → Within (list_paths narrow) (list_paths wide) → answer_of wide d (length o) ≡ Ok (record { length = n; selected = k; tests = m })
    → n ≤ 16777216
    → length (cut_of narrow d) ≤ length o'
    → (answer_of narrow (take n (bytes_after wide d o)) (length o')
    ≡ Ok (record {
      length = length (cut_of narrow d);
      selected = count_of narrow d;
      tests = tests_of narrow (take n (bytes_after wide d o));
    }))
    × (bytes_after narrow (take n (bytes_after wide d o)) o' ≡ cut_of narrow d ++ drop (length (cut_of narrow d)) o')
demand_3 narrow wide d o o' n k m p q w = demand_3_covered narrow wide d o o' n k m p q (within_covered w)

-- And where the check of the two lists says yes, which takes in that both are accepted.
pub demand_3_checked : (narrow wide d o o' : List ℕ) (n k m : ℕ) → cover_answer narrow wide ≡ Ok true
    → answer_of wide d (length o) ≡ Ok (record { length = n; selected = k; tests = m }) → n ≤ 16777216
    → length (cut_of narrow d) ≤ length o'
    → (answer_of narrow (take n (bytes_after wide d o)) (length o')
    ≡ Ok (record {
      length = length (cut_of narrow d);
      selected = count_of narrow d;
      tests = tests_of narrow (take n (bytes_after wide d o));
    }))
    × (bytes_after narrow (take n (bytes_after wide d o)) o' ≡ cut_of narrow d ++ drop (length (cut_of narrow d)) o')
demand_3_checked narrow wide d o o' n k m e =
    let (p, q, c) = said_yes narrow wide e in
    demand_3_covered narrow wide d o o' n k m p q c
