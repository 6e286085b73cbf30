-- Request Q-13: "Prove that a cut of an accepted document of n bytes has at most 2 × n − 1 bytes." What is written of an element has less
-- than twice its bytes: its tag holds `<` and its name, and the ends of its tags have two bytes at least. In order: an element's own bytes;
-- a forest; the theorem, `cut_at_most`; calls, `written_at_most`, `room_enough` and `never_short`; and a document that reaches the bound.
use mathlib.Core.Path.{◌≡◌, refl, ap, ◌∙◌}
use mathlib.Core.Bool.{Bool, true, false, not, ◌||◌}
use mathlib.Core.List.{List, [], ◌∷◌}
use Prim.Native.Nat.{ℕ, ◌+◌, ◌-◌, ◌*◌, ◌≤◌}
use native.Mathlib.Omega.{arith}
use lib.ListN.{length, length-append, length-drop}
use Rattle.std.specs.Prelude.{Ok, Err}
use Rattle.xml.specs.Notation.{Rule, bytes, text}
use Rattle.xml.specs.Forest.{Name, Tag, Forest, nil, other, elem, render}
use Rattle.xml.specs.Utf8.{utf8, is_scalar}
use Rattle.xml.specs.Productions.{is_char, is_space, is_name_start, is_name_more, is_name}
use Rattle.xml.specs.Character.{value_of as number, guess, character, starts, run}
use Rattle.xml.specs.Document.{Small, Opens, Closes}
use Rattle.utf8.specs.Place.{ends_at}
use Rattle.chars.specs.Name.{name_of}
use Rattle.chars.specs.Check.{check_of}
use Rattle.paths.specs.Judge.{lines, judge, list_answer, list_paths}
use Rattle.paths.specs.Reader.{read_all}
use Rattle.matcher.specs.Says.{verdict_of}
use Rattle.matcher.specs.declared.Verdict.{Verdict}
use Rattle.matcher.specs.declared.Verdict.TheVariants.{Unselected, Selected, Marked}
use Rattle.readers.specs.Read.{expect, skip, space_of}
use Rattle.readers.specs.Named.{before, piece_named, attribute_of, gather, tag_of, small_tag, other_encoding}
use Rattle.tags.specs.Tag.{tag_at}
use Rattle.items.specs.Item.{declares, kind_of, item_at}
use Rattle.document.specs.Place.{some}
use Rattle.document.specs.Judge.{start_of, scan_from, scanned, judge_of}
use Rattle.trees.specs.Cut.{Judge, on, any, place, cut}
use Rattle.trees.specs.Grown.{tokens_from, tokens_of, forest_of}
use Rattle.trees.specs.Written.{verdicts, cut_of, count_of, tests_of}
use Rattle.trees.proofs.Bytes.{forest_bytes}
use Rattle.cutter.specs.Answer.{answer_of}
use Rattle.refusals.specs.declared.CutError.TheVariants as errors
use Rattle.demands.specs.Answers.{Cuts, AnswerSays, short}
use Rattle.demands.proofs.First.{sound_scanned, sound_document}
use Rattle.demands.proofs.Selected.{written_says}
use Rattle.demands.proofs.Reread.{opens_shaped, closes_shut}
use Rattle.demands.proofs.Recut.{cut_front, small_less}
use Rattle.demands.proofs.Each.{Each, document_each}
use Rattle.demands.proofs.Demand3.{answers}
use Rattle.demands.proofs.Answers.{cuts_only, says_answer}

-- ---- an element's own bytes

-- `<` and the name; `/>`, or `>` and an end tag
record Roomy (t : Tag) (close : List ℕ) : Type 0 where
  head_long : length t.name + 1 ≤ length t.head
  ends_long : 2 ≤ length t.tail + length close

opens_long : {end : Rule} {v : Tag} {ns : List Name} {s t : List ℕ} → Opens end v ns s t → length v.name + 1 ≤ length v.head
opens_long o = omega (arith, simp length-append at (ap length (opens_shaped o).head_is))

empty_roomy : (v : Tag) (ns : List Name) (s t : List ℕ) → Opens (text "/>") v ns s t → Roomy v []
empty_roomy v ns s t o = record { head_long = opens_long o; ends_long = omega (arith, ap length (opens_shaped o).ends) }

full_roomy : (v : Tag) (ns : List Name) (raw s a b t : List ℕ) → Opens (text ">") v ns s a → Closes v.name raw b t → Roomy v raw
full_roomy v ns raw s a b t o x =
    record { head_long = opens_long o; ends_long = omega (arith, simp length-append at (ap length (closes_shut x).raw_is)) }

-- ---- a forest; where it has no bytes, `2 * 0 - 1` is 0

abbrev bytes_of : Forest → ℕ
bytes_of f = length (render f)

module _ {t : Tag} {close : List ℕ} (kids rest kids' rest' : Forest) (h : Roomy t close)
    (k : bytes_of kids' ≤ 2 * bytes_of kids - 1) (r : bytes_of rest' ≤ 2 * bytes_of rest - 1) where
  place_bytes : (x : Verdict) (b : Bool) → bytes_of (place x b t kids close kids' rest') ≤ 2 * bytes_of (elem t kids close rest) - 1
  place_bytes Marked b = simp length-append (omega arith)
  place_bytes Selected b = simp length-append (omega arith)
  place_bytes Unselected true = simp length-append (omega arith)
  place_bytes Unselected false = simp length-append (omega arith)

forest_at_most : (v : Judge) (up : List Name) (f : Forest) → Each Roomy f → bytes_of (cut v up f) ≤ 2 * bytes_of f - 1
forest_at_most v up nil h = omega arith
forest_at_most v up (other raw rest) h = let r = forest_at_most v up rest h in simp length-append (omega arith)
forest_at_most v up (elem t kids close rest) (h, i, j) =
    let up' = t.name ∷ up in
    place_bytes kids rest (cut v up' kids) (cut v up rest) h (forest_at_most v up' kids i) (forest_at_most v up rest j) (on v t up)
    (not (some up) || any v up' kids)

-- ---- "a cut of an accepted document of n bytes has at most 2 × n − 1 bytes"

-- by every list: one that is refused has no paths, and its cut is the root's tags
pub cut_at_most : (list d : List ℕ) → judge_of d ≡ Ok tt → length (cut_of list d) ≤ 2 * length d - 1
unfolding cut_of
cut_at_most list d e =
    let h = document_each Roomy empty_roomy full_roomy (sound_document d e).2 in
    let z = forest_at_most (verdicts (list_paths list)) [] (forest_of d) h in
    let w : length (render (forest_of d)) ≡ length d - start_of d
    = ap length (forest_bytes d (sound_scanned d e).3) ∙ length-drop (start_of d) d in
    omega arith

-- without a difference: a document that is accepted is not empty, since a cut is not
pub cut_under_twice : (list d : List ℕ) → judge_of d ≡ Ok tt → length (cut_of list d) + 1 ≤ 2 * length d
unfolding cut_of
cut_under_twice list d e =
    let (w, q) = cut_front Small small_less (verdicts (list_paths list)) (sound_document d e).2 in
    omega (arith, cut_at_most list d e, ap length q)

-- in the words of the demands
pub cuts_at_most : {list d w : List ℕ} {c t : ℕ} → Cuts list d w c t → length w ≤ 2 * length d - 1
cuts_at_most {list} {d} x = let z = cuts_only x in rw z.bytes_are (cut_at_most list d z.document_sound)

-- ---- calls: "The field edition must reserve memory before it reads."

-- the length written
pub written_at_most : (list d : List ℕ) (room n c t : ℕ) → answer_of list d room ≡ Ok (record { length = n; selected = c; tests = t })
    → n ≤ 2 * length d - 1
written_at_most list d room n c t e = let z = written_says list d room n c t e in rw z.2 (cut_at_most list d z.1)

-- with so much room a sound list cuts every sound document
pub room_enough : (list d : List ℕ) (room : ℕ) → list_answer list ≡ Ok tt → judge_of d ≡ Ok tt → 2 * length d - 1 ≤ room
    → answer_of list d room ≡ Ok (record { length = length (cut_of list d); selected = count_of list d; tests = tests_of list d })
room_enough list d room p q l = answers list d room p q (omega (arith, cut_at_most list d q))

-- and no call is refused by 9, whatever the list and the document
pub never_short : (list d : List ℕ) (room n : ℕ) → 2 * length d - 1 ≤ room → answer_of list d room ≡ Err (errors.Short n) → ⊥
never_short list d room n l e = go (rw e at (says_answer list d room))
  where
    go : {n : ℕ} → AnswerSays list d room (Err (errors.Short n)) → ⊥
    go (short x r) = omega (arith, cuts_at_most x)

-- ---- no smaller number would do: `<g/>` is accepted, and its cut by the empty list has 7 bytes

pub at_most_reached : (judge_of (bytes "<g/>") ≡ Ok tt) × (length (cut_of [] (bytes "<g/>")) ≡ 2 * length (bytes "<g/>") - 1)
unfolding judge_of other_encoding scanned scan_from check_of cut_of list_paths verdicts verdict_of forest_of tokens_of tokens_from start_of
    item_at kind_of declares ends_at tag_at tag_of piece_named before gather attribute_of small_tag space_of skip name_of expect starts run
    character guess number utf8 is_scalar is_char is_space is_name is_name_start is_name_more list_answer judge lines read_all
at_most_reached = (refl, refl)
