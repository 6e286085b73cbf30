-- How long an entry is, and how many elements are selected in it, at most: less than twice the document's bytes, by Q-13's bound, and no
-- more than its bytes. So of a whole result: at most twice the batch's bytes, which is why a buffer of so many never is too short.
use mathlib.Core.Path.{◌≡◌, refl, ap, ◌∙◌}
use mathlib.Core.List.{List, [], ◌∷◌, map}
use Prim.Native.Nat.{ℕ, ◌-◌, ◌*◌, ◌≤◌}
use native.Mathlib.Omega.{arith}
use lib.ListN.{length, length-append, length-drop}
use Rattle.std.specs.Prelude.{Result, Ok, Err, ⊤}
use Rattle.xml.specs.Notation.{Rule}
use Rattle.xml.specs.Forest.{Name, Tag, Forest, nil, other, elem, render}
use Rattle.xml.specs.Document.{Opens}
use Rattle.paths.specs.Judge.{list_paths}
use Rattle.matcher.specs.declared.Verdict.{Verdict}
use Rattle.matcher.specs.declared.Verdict.TheVariants.{Unselected, Selected, Marked}
use Rattle.document.specs.Judge.{start_of, judge_of}
use Rattle.document.specs.declared.DocumentError.{DocumentError}
use Rattle.trees.specs.Cut.{Judge, on, one, count}
use Rattle.trees.specs.Grown.{forest_of}
use Rattle.trees.specs.Written.{verdicts, cut_of, count_of}
use Rattle.trees.proofs.Bytes.{forest_bytes}
use Rattle.demands.proofs.First.{sound_scanned, sound_document}
use Rattle.demands.proofs.Reread.{opens_shaped}
use Rattle.demands.proofs.Each.{Each, document_each}
use Rattle.demands.proofs.Room.{cut_at_most}
use Rattle.bundle.specs.Batch.{print_entries, entries_from, entries_of}
use Rattle.bundle.proofs.Entries.{entry_long}
use Rattle.bundle.proofs.Judging.{Whole}
use Rattle.batch.specs.Answer.{of_sound, entry_of, selected_of, result_of, sum, selected_in}

-- ---- elements selected: each has a start tag, and so a byte

abbrev Some : Tag → List ℕ → Type 0
Some t close = 1 ≤ length t.head

opens_some : {end : Rule} {v : Tag} {ns : List Name} {s t : List ℕ} → Opens end v ns s t → 1 ≤ length v.head
opens_some o = omega (arith, simp length-append at (ap length (opens_shaped o).head_is))

one_most : (x : Verdict) → one x ≤ 1
one_most Unselected = omega arith
one_most Selected = omega arith
one_most Marked = omega arith

count_most : (v : Judge) (up : List Name) (f : Forest) → Each Some f → count v up f ≤ length (render f)
count_most v up nil h = omega arith
count_most v up (other raw rest) h = let r = count_most v up rest h in simp length-append (omega arith)
count_most v up (elem t kids close rest) (h, i, j) =
    let k = count_most v (t.name ∷ up) kids i in
    let r = count_most v up rest j in
    let o = one_most (on v t up) in
    simp length-append (omega arith)

count_under : (list d : List ℕ) → judge_of d ≡ Ok tt → count_of list d ≤ length d
unfolding count_of
count_under list d e =
    let h = document_each Some (λ v ns s t o. opens_some o) (λ v ns raw s a b t o x. opens_some o) (sound_document d e).2 in
    let z = count_most (verdicts (list_paths list)) [] (forest_of d) h in
    let w : length (render (forest_of d)) ≡ length d - start_of d
    = ap length (forest_bytes d (sound_scanned d e).3) ∙ length-drop (start_of d) d in
    omega arith

-- ---- an entry

pub entry_under : (list d : List ℕ) → length (entry_of list d) ≤ 2 * length d
unfolding entry_of
entry_under list d = go (judge_of d) refl
  where
    go : (j : Result ⊤ DocumentError) → judge_of d ≡ j → length (of_sound j (cut_of list d) []) ≤ 2 * length d
    go (Ok _) e = omega (arith, cut_at_most list d e)
    go (Err x) e = omega arith

pub selected_under : (list d : List ℕ) → selected_of list d ≤ length d
unfolding selected_of
selected_under list d = go (judge_of d) refl
  where
    go : (j : Result ⊤ DocumentError) → judge_of d ≡ j → of_sound j (count_of list d) 0 ≤ length d
    go (Ok _) e = count_under list d e
    go (Err x) e = omega arith

-- ---- a whole result

prints_under : (list : List ℕ) (ds : List (List ℕ)) → length (print_entries (map (entry_of list) ds)) ≤ 2 * length (print_entries ds)
prints_under list [] = omega arith
prints_under list (d ∷ ds) =
    omega (arith, entry_long d ds, entry_long (entry_of list d) (map (entry_of list) ds), entry_under list d, prints_under list ds)

sums_under : (list : List ℕ) (ds : List (List ℕ)) → sum (map (selected_of list) ds) ≤ length (print_entries ds)
sums_under list [] = omega arith
sums_under list (d ∷ ds) = omega (arith, entry_long d ds, selected_under list d, sums_under list ds)

module _ (list b : List ℕ) (w : Whole b) where
  pub result_under : length (result_of list b) ≤ 2 * length b
  unfolding result_of entries_of
  result_under = omega (arith, prints_under list (entries_from 1 b), w.stands.reach)

  pub sum_under : selected_in list b ≤ length b
  unfolding selected_in entries_of
  sum_under = omega (arith, sums_under list (entries_from 1 b), w.stands.reach)
