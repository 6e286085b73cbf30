-- One document of a batch: what its answer tells of its entry, and the entry laid behind its length.
-- In order: `told`; `measured`; `lay_entry`.
use mathlib.Core.Path.{◌≡◌, refl, sym, ap, ◌∙◌}
use mathlib.Core.Bool.{Bool, true, false, cond}
use mathlib.Core.List.{List, [], ◌++◌, append-nil}
use Prim.Native.Nat.{ℕ, ◌+◌, ◌-◌, ◌≤◌}
use native.Mathlib.Omega.{arith}
use borrow.Author.Tests.{ltb-true}
use lib.Dec.{ltb}
use lib.ListN.{length, take, drop, length-append, length-drop, drop_of_length-le}
use lib.Seq.{sets, sets-eq, take_all, drop-drop, drop_at, length-take-le}
use Rattle.std.specs.Prelude.{Result, Ok, Err, ⊤}
use Rattle.document.specs.Judge.{judge_of}
use Rattle.document.specs.declared.DocumentError.{DocumentError}
use Rattle.trees.specs.Written.{cut_of, count_of, tests_of}
use Rattle.cutter.specs.Answer.{by_document, by_room, answer_by, after, bytes_by}
use Rattle.cutter.specs.declared.answer.Cut.{Cut}
use Rattle.refusals.specs.declared.CutError.{CutError}
use Rattle.refusals.specs.declared.CutError.TheVariants as errors
use Rattle.bundle.specs.Batch.{big}
use Rattle.batch.specs.Answer.{of_sound, entry_of, selected_of}
use Rattle.batch.specs.Told.{part, told_of, part_of}
use Rattle.batch.specs.declared.entry.Part.{Part}

-- ---- `told`

pub told_case : {a b : Result Cut CutError} {p : Part} → a ≡ b → p ≡ told_of b → p ≡ told_of a
told_case h q = q ∙ sym (ap told_of h)

-- ---- the length of an entry, whatever the room

abbrev told_room : (x : Bool) (n c t : ℕ)
    → (told_of (cond x (Err (errors.Short n)) (Ok (record { length = n; selected = c; tests = t })))).length ≡ n
told_room true n c t = refl
told_room false n c t = refl

told_long : (list d : List ℕ) (room : ℕ) → (told_of (answer_by list d room)).length ≡ length (entry_of list d)
unfolding entry_of
told_long list d room = go (judge_of d)
  where
    go : (j : Result ⊤ DocumentError) → (told_of (by_document j (by_room room (cut_of list d) (count_of list d) (tests_of list d)))).length
        ≡ length (of_sound j (cut_of list d) [])
    go (Ok _) = told_room (ltb room (length (cut_of list d))) (length (cut_of list d)) (count_of list d) (tests_of list d)
    go (Err e) = refl

pub measured_is : (list d : List ℕ) (room : ℕ) {a : Result Cut CutError} {p : Part} → a ≡ answer_by list d room → p ≡ told_of a
    → p.length ≡ length (entry_of list d)
measured_is list d room e q = ap (λ (x : Part). x.length) (q ∙ ap told_of e) ∙ told_long list d room

-- ---- an entry with room for it

-- its numbers, and the buffer with the cut at its front
pub entered : (list d o : List ℕ) → length (entry_of list d) ≤ length o
    → (told_of (answer_by list d (length o)) ≡ part_of (entry_of list d) (selected_of list d))
    × (bytes_by list d o ≡ entry_of list d ++ drop (length (entry_of list d)) o)
unfolding entry_of selected_of bytes_by
entered list d o l = go (judge_of d) l
  where
    written : Bool → Result Cut CutError
    written x =
        cond x (Err (errors.Short (length (cut_of list d))))
        (Ok (record { length = length (cut_of list d); selected = count_of list d; tests = tests_of list d }))

    room : (x : Bool) → ltb (length o) (length (cut_of list d)) ≡ x → length (cut_of list d) ≤ length o
        → (told_of (written x) ≡ part_of (cut_of list d) (count_of list d))
        × (after (written x) (cut_of list d) o ≡ cut_of list d ++ drop (length (cut_of list d)) o)
    room true e l = absurd (omega (arith, ltb-true (length o) (length (cut_of list d)) e))
    room false e l = (refl, refl)

    go : (j : Result ⊤ DocumentError) → length (of_sound j (cut_of list d) []) ≤ length o
        → (told_of (by_document j (by_room (length o) (cut_of list d) (count_of list d) (tests_of list d)))
        ≡ part_of (of_sound j (cut_of list d) []) (of_sound j (count_of list d) 0))
        × (after (by_document j (by_room (length o) (cut_of list d) (count_of list d) (tests_of list d))) (cut_of list d) o
        ≡ of_sound j (cut_of list d) [] ++ drop (length (of_sound j (cut_of list d) [])) o)
    go (Ok _) l = room (ltb (length o) (length (cut_of list d))) refl l
    go (Err e) l = (refl, refl)

-- behind its length, in a buffer that has room for both: the part behind four bytes is lent to the cut, and given back as x
pub entry_laid : (list d o : List ℕ) → 4 + length (entry_of list d) ≤ length o → {a : Result Cut CutError} {p : Part} {x o' : List ℕ}
    → a ≡ answer_by list d (length (take (length o - 4) (drop 4 o))) → x ≡ bytes_by list d (take (length o - 4) (drop 4 o)) → p ≡ told_of a
    → o' ≡ sets (take 4 o ++ (x ++ drop (length o - 4) (drop 4 o))) 0 (big p.length)
    → (p ≡ part_of (entry_of list d) (selected_of list d))
    × (o' ≡ big (length (entry_of list d)) ++ (entry_of list d ++ drop (4 + length (entry_of list d)) o))
entry_laid list d o room {a} {p} {x} {o'} ea ex ep eo =
    let w = entry_of list d in
    let q : take (length o - 4) (drop 4 o) ≡ drop 4 o = take_all (length o - 4) (drop 4 o) (omega (arith, length-drop 4 o)) in
    let none : drop (length o - 4) (drop 4 o) ≡ [] = drop_of_length-le (drop 4 o) {i = length o - 4} (omega (arith, length-drop 4 o)) in
    let z = entered list d (drop 4 o) (omega (arith, length-drop 4 o)) in
    let np : p ≡ part_of w (selected_of list d) = ep ∙ ap told_of (ea ∙ ap (λ (s : List ℕ). answer_by list d (length s)) q) ∙ z.0 in
    let nx : x ≡ w ++ drop (4 + length w) o = ex ∙ ap (bytes_by list d) q ∙ z.1 ∙ ap (λ (s : List ℕ). w ++ s) (drop-drop (length w) 4 o) in
    let four : length (take 4 o) ≡ 4 = length-take-le 4 o (omega arith) in
    let both : take 4 o ++ (x ++ drop (length o - 4) (drop 4 o)) ≡ take 4 o ++ (w ++ drop (4 + length w) o) =
    ap (λ (s : List ℕ). take 4 o ++ s)
    (ap (λ (s : List ℕ). x ++ s) none ∙ append-nil x ∙ nx) in
    let len : p.length ≡ length w = ap (λ (y : Part). y.length) np in (
      np,
      eo
          ∙ ap (λ (s : List ℕ). sets s 0 (big p.length)) both
          ∙ ap (λ (n : ℕ). sets (take 4 o ++ (w ++ drop (4 + length w) o)) 0 (big n)) len
          ∙ sets-eq (big (length w)) (take 4 o ++ (w ++ drop (4 + length w) o)) 0
          (omega (arith, four, length-append (take 4 o) (w ++ drop (4 + length w) o)))
          ∙ ap (λ (s : List ℕ). big (length w) ++ s) (drop_at (take 4 o) (w ++ drop (4 + length w) o) 4 four),
    )
