-- Demand 2: "A path selects an element exactly when its steps can be laid on the names from the root down to that element as XPath 1.0
-- means child and descendant steps. The bytes written are those that the rule gives, and the number handed back with them is that of the
-- elements selected." "demand 2 takes the test in": an element is its names and its attributes. That a document is accepted exactly when it
-- is derived by production [1] is in Accepted.antt.
use mathlib.Core.Path.{◌≡◌, refl, sym, ap, ap₂, ◌∙◌}
use mathlib.Core.Bool.{Bool, true, false, cond, false≢true}
use mathlib.Core.Logic.{◌↔◌}
use mathlib.Core.List.{List, [], ◌∷◌, ◌++◌}
use Prim.Native.Nat.{ℕ, ◌+◌, ◌≤◌}
use native.Mathlib.Nat.{zero-add, add_assoc}
use borrow.Author.Tests.{ltb-false}
use lib.Dec.{ltb}
use lib.ListN.{length}
use Rattle.std.specs.Prelude.{Result, Ok, Err, ⊤}
use Rattle.xml.specs.Forest.{Name, Forest, nil, other, elem}
use Rattle.attributes.specs.Attribute.{Attribute}
use Rattle.attributes.specs.Held.{attributes_of}
use Rattle.paths.specs.Path.{Path}
use Rattle.paths.specs.Judge.{list_answer, list_paths}
use Rattle.paths.specs.declared.ListError.{ListError}
use Rattle.document.specs.Judge.{judge_of}
use Rattle.document.specs.declared.DocumentError.{DocumentError}
use Rattle.matcher.specs.Says.{this, later, BySome, ByMarked, Says, verdict_of}
use Rattle.matcher.specs.declared.Verdict.{Verdict}
use Rattle.matcher.specs.declared.Verdict.TheVariants.{Unselected, Selected, Marked}
use Rattle.matcher.proofs.Meaning.{says}
use Rattle.trees.specs.Cut.{is_selected, one, count}
use Rattle.trees.specs.Grown.{forest_of}
use Rattle.trees.specs.Written.{root_first, verdicts, cut_of, count_of, tests_of}
use Rattle.cutter.specs.Answer.{by_list, by_document, by_room, answer_of, second_of, third_of}
use Rattle.cutter.specs.declared.answer.Cut.{Cut}
use Rattle.refusals.specs.declared.CutError.{CutError}
use Rattle.refusals.specs.declared.CutError.TheVariants as errors
use Rattle.demands.specs.Elements.{Element, elements, how_many}

-- ---- "A path selects an element exactly when ..": the verdict is that of a choice of places, and of the test where there is one

pub marked_some : {names : List Name} {xs : List Attribute} {ps : List Path} → ByMarked ps names xs → BySome ps names xs
marked_some (this h) = this h.1
marked_some (later h) = later (marked_some h)

pub selected_iff : (ps : List Path) (names : List Name) (xs : List Attribute)
    → BySome ps names xs ↔ (is_selected (verdict_of ps names xs) ≡ true)
selected_iff ps names xs = go (verdict_of ps names xs) (says ps names xs)
  where
    go : (v : Verdict) → Says ps names xs v → BySome ps names xs ↔ (is_selected v ≡ true)
    go Unselected h = ((λ s. absurd (h s)), (λ e. absurd (false≢true e)))
    go Selected h = ((λ s. refl), (λ e. h.0))
    go Marked h = ((λ s. refl), (λ e. marked_some h))

-- ---- "the number handed back with them is that of the elements selected"

one_is : (v : Verdict) → one v ≡ cond (is_selected v) 1 0
one_is Unselected = refl
one_is Selected = refl
one_is Marked = refl

how_many_append : {A : Type 0} (f : A → Bool) (xs ys : List A) → how_many f (xs ++ ys) ≡ how_many f xs + how_many f ys
how_many_append f [] ys = sym (zero-add (how_many f ys))
how_many_append f (x ∷ xs) ys =
    ap (λ (n : ℕ). cond (f x) 1 0 + n) (how_many_append f xs ys) ∙ sym (add_assoc (cond (f x) 1 0) (how_many f xs) (how_many f ys))

-- an element that a path picks
abbrev pub chosen : List Path → Element → Bool
chosen ps x = is_selected (verdict_of ps x.names x.attributes)

count_elements : (ps : List Path) (up : List Name) (f : Forest)
    → count (verdicts ps) up f ≡ how_many (chosen ps) (elements (root_first up) f)
unfolding verdicts
count_elements ps up nil = refl
count_elements ps up (other raw rest) = count_elements ps up rest
count_elements ps up (elem t kids close rest) =
    ap₂ (λ (a b : ℕ). a + b)
    (one_is (verdict_of ps (root_first up ++ t.name ∷ []) (attributes_of t)))
    (ap₂ (λ (a b : ℕ). a + b) (count_elements ps (t.name ∷ up) kids) (count_elements ps up rest)
    ∙ sym (how_many_append (chosen ps) (elements (root_first up ++ t.name ∷ []) kids) (elements (root_first up) rest)))

-- of a document, by a list: as many as its forest has elements that a path of the list selects
pub count_selected : (list d : List ℕ) → count_of list d ≡ how_many (chosen (list_paths list)) (elements [] (forest_of d))
unfolding count_of
count_selected list d = count_elements (list_paths list) [] (forest_of d)

-- ---- the answer under 0 hands back the length of the cut and that number

by_room_lem : (room : ℕ) (w : List ℕ) (c t n k m : ℕ) → by_room room w c t ≡ Ok (record { length = n; selected = k; tests = m })
    → (n ≡ length w) × (k ≡ c) × (length w ≤ room)
by_room_lem room w c t n k m = go (ltb room (length w)) refl
  where
    go : (b : Bool) → ltb room (length w) ≡ b
        → cond {A = Result Cut CutError} b (Err (errors.Short (length w))) (Ok (record { length = length w; selected = c; tests = t }))
        ≡ Ok (record { length = n; selected = k; tests = m })
        → (n ≡ length w) × (k ≡ c) × (length w ≤ room)
    go true q e = absurd (false≢true cc)
    go false q e = (sym (ap second_of e), sym (ap third_of e), ltb-false room (length w) q)

-- written: the list and the document are sound, and what is handed back is the length of the cut and the number of elements selected
pub written_says : (list d : List ℕ) (room n k m : ℕ) → answer_of list d room ≡ Ok (record { length = n; selected = k; tests = m })
    → (list_answer list ≡ Ok tt) × (judge_of d ≡ Ok tt) × (n ≡ length (cut_of list d))
    × (k ≡ how_many (chosen (list_paths list)) (elements [] (forest_of d)))
    × (length (cut_of list d) ≤ room)
unfolding answer_of
written_says list d room n k m = go (list_answer list) (judge_of d) refl refl
  where
    go : (a : Result ⊤ ListError) (j : Result ⊤ DocumentError) → list_answer list ≡ a → judge_of d ≡ j
        → by_list a (by_document j (by_room room (cut_of list d) (count_of list d) (tests_of list d)))
        ≡ Ok (record { length = n; selected = k; tests = m })
        → (list_answer list ≡ Ok tt) × (judge_of d ≡ Ok tt) × (n ≡ length (cut_of list d))
        × (k ≡ how_many (chosen (list_paths list)) (elements [] (forest_of d)))
        × (length (cut_of list d) ≤ room)
    go (Ok _) (Ok _) p q e =
        let z = by_room_lem room (cut_of list d) (count_of list d) (tests_of list d) n k m e in
        (p, q, z.0, z.1 ∙ count_selected list d, z.2)
    go (Ok _) (Err x) p q e = absurd (false≢true cc)
    go (Err x) j p q e = absurd (false≢true cc)
