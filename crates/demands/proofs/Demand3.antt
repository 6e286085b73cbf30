-- Demand 3: "Let two lists be accepted", and let each path of the narrow list be "covered by a wide one, marked if the narrow is". "If the
-- wide cut was written and is itself within the document size, then cutting it by the narrow list, with room enough, gives byte for byte
-- the narrow cut of the master, and the same number of selected elements."
-- In order: what a call writes; the wide cut as a document; its narrow cut and number; the answer and the buffer; two calls, `cut_of_cut`,
-- which is `demand_3_covered` of Demands.antt.
use mathlib.Core.Path.{◌≡◌, refl, sym, ap, ◌∙◌}
use mathlib.Core.List.{List, [], ◌∷◌, ◌++◌}
use Prim.Native.Nat.{ℕ, ◌≤◌}
use borrow.Author.Tests.{le-ltb}
use lib.ListN.{length, take, drop}
use lib.Seq.{take_at}
use Rattle.std.specs.Prelude.{Ok}
use Rattle.xml.specs.Forest.{render}
use Rattle.xml.specs.Document.{Document, Small}
use Rattle.paths.specs.Judge.{list_answer, list_paths}
use Rattle.readers.specs.Meaning.{Chars}
use Rattle.document.specs.Judge.{start_of, judge_of}
use Rattle.trees.specs.Cut.{count, cut}
use Rattle.trees.specs.Grown.{forest_of}
use Rattle.trees.specs.Written.{verdicts, cut_of, count_of, tests_of}
use Rattle.cutter.specs.Answer.{answer_of, bytes_after, number_of, second_of}
use Rattle.covers.specs.Cover.{Covered}
use Rattle.demands.specs.Repeated.{SameNumbers}
use Rattle.demands.proofs.Tried.{numbers_same, bytes_same}
use Rattle.demands.proofs.Answered.{written}
use Rattle.demands.proofs.Selected.{written_says}
use Rattle.demands.proofs.First.{sound_document}
use Rattle.demands.proofs.Accepted.{derived_forest, derived_sound}
use Rattle.demands.proofs.Characters.{document_chars}
use Rattle.demands.proofs.Narrow.{narrow_cut, narrow_count}
use Rattle.demands.proofs.Recut.{document_cut, cut_front, small_less}

-- a cut has no byte order mark
starts : (d : List ℕ) → (w : List ℕ) × (d ≡ 60 ∷ w) → start_of d ≡ 0
unfolding start_of
starts d (w, e) = rw e refl

-- ---- what is written

-- the cut stands at the front of the buffer
written_first : (list d o : List ℕ) (n k m : ℕ) → answer_of list d (length o) ≡ Ok (record { length = n; selected = k; tests = m })
    → take n (bytes_after list d o) ≡ cut_of list d
written_first list d o n k m e =
    let z = written_says list d (length o) n k m e in
    rw (written list d o (ap number_of e)) (take_at (cut_of list d) (drop (second_of (answer_of list d (length o))) o) n (sym z.2))

-- a sound list, a sound document and room enough
pub answers : (list d : List ℕ) (room : ℕ) → list_answer list ≡ Ok tt → judge_of d ≡ Ok tt → length (cut_of list d) ≤ room
    → answer_of list d room ≡ Ok (record { length = length (cut_of list d); selected = count_of list d; tests = tests_of list d })
unfolding answer_of
answers list d room p q r = rw (p, q, le-ltb room (length (cut_of list d)) r) refl

buffers : (list d o : List ℕ) → list_answer list ≡ Ok tt → judge_of d ≡ Ok tt → length (cut_of list d) ≤ length o
    → bytes_after list d o ≡ cut_of list d ++ drop (length (cut_of list d)) o
unfolding bytes_after
buffers list d o p q r = rw (answers list d (length o) p q r) refl

-- ---- again

module _ (narrow wide d : List ℕ) (all : Covered (list_paths narrow) (list_paths wide)) (sound : judge_of d ≡ Ok tt)
    (size : length (cut_of wide d) ≤ 16777216) where
  derived : Document Small (drop (start_of d) d) (forest_of d)
  derived = (sound_document d sound).2

  cut_starts : start_of (cut_of wide d) ≡ 0
  unfolding cut_of
  cut_starts = starts (cut_of wide d) (cut_front Small small_less (verdicts (list_paths wide)) derived)

  -- the wide cut is derived with the cut of the forest
  cut_derived : Document Small (drop (start_of (cut_of wide d)) (cut_of wide d)) (cut (verdicts (list_paths wide)) [] (forest_of d))
  unfolding cut_of
  cut_derived = rw cut_starts (document_cut Small small_less (verdicts (list_paths wide)) derived)

  cut_chars : Chars (cut_of wide d)
  cut_chars = rw cut_starts at (document_chars cut_derived)

  -- so it is accepted, and that is its forest
  pub cut_accepted : judge_of (cut_of wide d) ≡ Ok tt
  cut_accepted = derived_sound (cut_of wide d) size cut_chars cut_derived

  cut_forest : cut (verdicts (list_paths wide)) [] (forest_of d) ≡ forest_of (cut_of wide d)
  cut_forest = derived_forest (cut_of wide d) cut_chars cut_derived

  -- "byte for byte the narrow cut of the master"
  pub cut_again : cut_of narrow (cut_of wide d) ≡ cut_of narrow d
  unfolding cut_of
  cut_again =
      ap render
      (ap (cut (verdicts (list_paths narrow)) []) (sym cut_forest)
      ∙ narrow_cut (list_paths narrow) (list_paths wide) all (forest_of d))

  -- "the same number of selected elements"
  pub count_again : count_of narrow (cut_of wide d) ≡ count_of narrow d
  unfolding count_of
  count_again =
      ap (count (verdicts (list_paths narrow)) []) (sym cut_forest) ∙ narrow_count (list_paths narrow) (list_paths wide) all (forest_of d)

  -- the three numbers, and every byte of a buffer, whatever its room: too little is too little for both. Name tests are those of the
  -- document that is cut, and the wide cut may have fewer elements
  pub answer_again : (room : ℕ) → SameNumbers (answer_of narrow (cut_of wide d) room) (answer_of narrow d room)
  unfolding answer_of
  answer_again room =
      rw (cut_accepted, sound, cut_again, count_again)
      (numbers_same (list_answer narrow) (Ok tt) room (cut_of narrow d) (count_of narrow d) (tests_of narrow (cut_of wide d))
      (tests_of narrow d))

  pub buffer_again : (o : List ℕ) → bytes_after narrow (cut_of wide d) o ≡ bytes_after narrow d o
  unfolding answer_of bytes_after
  buffer_again o =
      rw (cut_accepted, sound, cut_again, count_again)
      (bytes_same (list_answer narrow) (Ok tt) (cut_of narrow d) (count_of narrow d) (tests_of narrow (cut_of wide d))
      (tests_of narrow d) o)

-- Of two calls. The wide cut was written: it is the first n bytes of the buffer o. Cutting it by the narrow list into a
-- buffer o' with room enough answers 0, with the length and the number of the master's narrow cut, and o' then begins with that cut.
pub cut_of_cut : (narrow wide d o o' : List ℕ) (n k m : ℕ) → list_answer narrow ≡ Ok tt
    → Covered (list_paths narrow) (list_paths wide)
    → answer_of wide d (length o) ≡ Ok (record { length = n; selected = k; tests = m }) → n ≤ 16777216
    → length (cut_of narrow d) ≤ length o'
    → (answer_of narrow (take n (bytes_after wide d o)) (length o')
    ≡ Ok (record {
      length = length (cut_of narrow d);
      selected = count_of narrow d;
      tests = tests_of narrow (take n (bytes_after wide d o));
    }))
    × (bytes_after narrow (take n (bytes_after wide d o)) o' ≡ cut_of narrow d ++ drop (length (cut_of narrow d)) o')
cut_of_cut narrow wide d o o' n k m listed all e size room =
    let z = written_says wide d (length o) n k m e in
    let w = written_first wide d o n k m e in
    let l : length (cut_of wide d) ≤ 16777216 = rw (sym z.2) size in
    let c = cut_again narrow wide d all z.1 l in
    let b = count_again narrow wide d all z.1 l in
    let a = answers narrow (cut_of wide d) (length o') listed (cut_accepted narrow wide d all z.1 l) (rw c room) in
    (rw w (rw (c, b) at a), rw w (buffer_again narrow wide d all z.1 l o' ∙ buffers narrow d o' listed z.1 room))
