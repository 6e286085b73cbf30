-- The name tests tried over a document: the number that is computed is that of document 02's words, `tests_counted`, and no other is; it is
-- "at most elements times steps in the list, repeats counted", `tests_at_most`. Then answers that differ in this number alone have the same
-- other numbers and leave the same bytes.
use mathlib.Core.Path.{◌≡◌, refl, sym, ap, ◌∙◌}
use mathlib.Core.Bool.{Bool, true, false, cond}
use mathlib.Core.List.{List, [], ◌∷◌, ◌++◌, append_assoc, map}
use Prim.Native.Nat.{ℕ, ◌+◌, ◌*◌, ◌≤◌}
use native.Mathlib.Nat.{suc-mul, zero-mul}
use native.Mathlib.Omega.{arith}
use lib.Dec.{ltb}
use lib.ListN.{length, length-append}
use Rattle.std.specs.Prelude.{Result, Ok, Err, ⊤}
use Rattle.xml.specs.Forest.{Name, Forest, nil, other, elem}
use Rattle.attributes.specs.Held.{attributes_of}
use Rattle.paths.specs.Path.{Path, All}
use Rattle.paths.specs.Judge.{list_answer, list_paths}
use Rattle.paths.specs.declared.ListError.{ListError}
use Rattle.document.specs.declared.DocumentError.{DocumentError}
use Rattle.compiled.proofs.OverLines.{sound_sized}
use Rattle.matcher.specs.Tried.{Counted, none, this, other as skipped, Placing, steps_of, Tried}
use Rattle.matcher.proofs.Tests.{counted_append, counted_most, tests_told}
use Rattle.trees.specs.Cut.{tally}
use Rattle.trees.specs.Grown.{forest_of}
use Rattle.trees.specs.Written.{root_first, name_tests, tests_of}
use Rattle.cutter.specs.Answer.{by_list, by_document, by_room, after}
use Rattle.cutter.specs.declared.answer.Cut.{Cut}
use Rattle.refusals.specs.declared.CutError.{CutError}
use Rattle.refusals.specs.declared.CutError.TheVariants as errors
use Rattle.demands.specs.Elements.{Element, elements, pairs}
use Rattle.demands.specs.Repeated.{SameNumbers}
use Rattle.demands.specs.Answers.{Tests}

-- ---- elements with steps

pairs_append : {A B : Type 0} (xs ys : List A) (zs : List B) → pairs (xs ++ ys) zs ≡ pairs xs zs ++ pairs ys zs
pairs_append [] ys zs = refl
pairs_append (x ∷ xs) ys zs =
    ap (λ (u : List _). map (λ z. (x, z)) zs ++ u) (pairs_append xs ys zs)
    ∙ sym (append_assoc (map (λ z. (x, z)) zs) (pairs xs zs) (pairs ys zs))

length_map : {A B : Type 0} (f : A → B) (xs : List A) → length (map f xs) ≡ length xs
length_map f [] = refl
length_map f (x ∷ xs) = let z = length_map f xs in omega arith

length_pairs : {A B : Type 0} (xs : List A) (ys : List B) → length (pairs xs ys) ≡ length xs * length ys
length_pairs [] ys = sym (zero-mul (length ys))
length_pairs {A} {B} (x ∷ xs) ys =
    let f : B → A × B = λ y. (x, y) in
    let a = length-append (map f ys) (pairs xs ys) in
    let b = length_map f ys in
    let c = length_pairs xs ys in
    let e = suc-mul (length xs) (length ys) in
    omega arith

-- at one element
counted_at : (x : Element) {ys : List Placing} {n : ℕ} → Counted (Tried x.names) ys n
    → Counted (λ (y : Element × Placing). Tried y.0.names y.1) (map (λ y. (x, y)) ys) n
counted_at x none = none
counted_at x (this h c) = this h (counted_at x c)
counted_at x (skipped h c) = skipped h (counted_at x c)

-- ---- a document

module _ (ps : List Path) (few : length ps ≤ 32) (short : All (λ p. length p.steps ≤ 16) ps) where
  tests_below : (up : List Name) (f : Forest) → Tests ps (elements (root_first up) f) (tally (name_tests ps) up f)
  unfolding name_tests
  tests_below up nil = none
  tests_below up (other raw rest) = tests_below up rest
  tests_below up (elem t kids close rest) =
      let x : Element = record { names = root_first up ++ t.name ∷ []; attributes = attributes_of t } in
      let inner = elements (root_first up ++ t.name ∷ []) kids in
      let behind = elements (root_first up) rest in
      counted_append (counted_at x (tests_told (root_first up) t.name ps few short))
      (rw (pairs_append inner behind (steps_of ps)) (counted_append (tests_below (t.name ∷ up) kids) (tests_below up rest)))

-- by a list that is accepted
pub tests_counted : (list d : List ℕ) → list_answer list ≡ Ok tt
    → Tests (list_paths list) (elements [] (forest_of d)) (tests_of list d)
unfolding tests_of
tests_counted list d e =
    let s = sound_sized list e in
    tests_below (list_paths list) s.few s.short [] (forest_of d)

-- "It is at most elements times steps in the list, repeats counted"
pub tests_at_most : (ps : List Path) (xs : List Element) {t : ℕ} → Tests ps xs t → t ≤ length xs * length (steps_of ps)
tests_at_most ps xs c = rw (length_pairs xs (steps_of ps)) at (counted_most c)

-- ---- answers that differ in the number of name tests

same : (a : Result Cut CutError) → SameNumbers a a
same a = record { number_same = refl; second_same = refl; third_same = refl }

module _ (w : List ℕ) (c t u : ℕ) where
  abbrev in_room_of : Bool → ℕ → Result Cut CutError
  in_room_of b n = cond b (Err (errors.Short (length w))) (Ok (record { length = length w; selected = c; tests = n }))

  in_room : (b : Bool) → SameNumbers (in_room_of b t) (in_room_of b u)
  in_room true = same (Err (errors.Short (length w)))
  in_room false = record { number_same = refl; second_same = refl; third_same = refl }

  bytes_in_room : (o : List ℕ) (b : Bool) → after (in_room_of b t) w o ≡ after (in_room_of b u) w o
  bytes_in_room o true = refl
  bytes_in_room o false = refl

pub numbers_same : (l : Result ⊤ ListError) (j : Result ⊤ DocumentError) (room : ℕ) (w : List ℕ) (c t u : ℕ)
    → SameNumbers (by_list l (by_document j (by_room room w c t))) (by_list l (by_document j (by_room room w c u)))
numbers_same (Ok _) (Ok _) room w c t u = in_room w c t u (ltb room (length w))
numbers_same (Ok _) (Err e) room w c t u = same (Err (errors.Document e))
numbers_same (Err e) j room w c t u = same (Err (errors.List e))

pub bytes_same : (l : Result ⊤ ListError) (j : Result ⊤ DocumentError) (w : List ℕ) (c t u : ℕ) (o : List ℕ)
    → after (by_list l (by_document j (by_room (length o) w c t))) w o ≡ after (by_list l (by_document j (by_room (length o) w c u))) w o
bytes_same (Ok _) (Ok _) w c t u o = bytes_in_room w c t u o (ltb (length o) (length w))
bytes_same (Ok _) (Err e) w c t u o = refl
bytes_same (Err e) j w c t u o = refl
