-- What Q-2 promises, for readers. "Each entry must equal what a single call with room enough gives", `entry_i`; "Demands 1 and 3 read per
-- document inside, and the buffer is untouched when the batch as a whole is refused", `batch_demand_1` and `batch_demand_3`. They are about
-- `batch_of` and `batch_bytes`, which are the contract of `cut_all`: two equations, for every list, batch and buffer, and no `requires`.
use mathlib.Core.Path.{◌≡◌, refl, sym, ap, ◌∙◌}
use mathlib.Core.List.{List, [], ◌∷◌, ◌++◌, map}
use Rattle.std.specs.Prelude.{Result, Ok, Err}
use Prim.Native.Nat.{ℕ, ◌≤◌}
use native.Mathlib.Omega.{arith}
use borrow.Author.Tests.{le-ltb}
use lib.Dec.{ltb}
use mathlib.Core.Bool.{Bool, true, false, cond}
use lib.ListN.{length, get_or, take, drop}
use lib.Seq.{take_at}
use Rattle.std.specs.Prelude.{Result, Ok, Err, ⊤}
use Rattle.paths.specs.Path.{All, none, more}
use Rattle.paths.specs.Judge.{list_answer, list_paths}
use Rattle.paths.specs.declared.ListError.{ListError}
use Rattle.paths.specs.declared.ListError.TheVariants as lists
use Rattle.document.specs.Judge.{judge_of}
use Rattle.document.specs.declared.DocumentError.{DocumentError}
use Rattle.trees.specs.Written.{cut_of, count_of}
use Rattle.cutter.specs.Answer as single
use Rattle.covers.specs.Cover.{Covered}
use Rattle.demands.specs.Within.{Within}
use Rattle.demands.proofs.Narrow.{within_covered}
use Rattle.demands.proofs.Demands.{Answered, demand_1}
use Rattle.demands.proofs.Demand3.{cut_accepted, cut_again, count_again}
use Rattle.bundle.specs.Batch.{print_batch, entries_of, layout_of}
use Rattle.bundle.specs.Layout.{Bytes, sound}
use Rattle.bundle.specs.declared.LayoutError.{LayoutError}
use Rattle.bundle.proofs.Layouts.{only_layout}
use Rattle.batch.specs.Answer.{of_sound, entry_of, selected_of, result_of, sum, selected_in, by_list, by_layout}
use Rattle.batch.specs.Answer.{batch_of}
use Rattle.batch.specs.Answer.{after, batch_bytes, number_of, second_of, third_of}
use Rattle.batch.specs.Says.{BatchSays}
use Rattle.batch.specs.declared.Batch.{Batch}
use Rattle.batch.specs.declared.BatchError.{BatchError}
use Rattle.batch.specs.declared.BatchError.TheVariants as errors
use Rattle.batch.proofs.Bounds.{selected_under}
use Rattle.batch.proofs.Saying.{says_batch, only_batch}
use Rattle.batch.proofs.Alone.{Alone, entry_alone, empty_entry, entries_result, entry_at}

-- ---- "Each entry must equal what a single call with room enough gives"

-- Of the documents of a sound batch the i-th: d. The i-th entry of the result is w. A call of `cut` for d alone, into any buffer o that has
-- room for w, is answered as `Alone` says, and by demand 1.
pub record EntryAt (list b : List ℕ) (i : ℕ) (o : List ℕ) : Type 0 where
  pub document : List ℕ
  pub document_is : document ≡ get_or (entries_of b) i []
  pub entry : List ℕ
  pub entry_is : entry ≡ get_or (entries_of (result_of list b)) i []
  pub alone : length entry ≤ length o
      → Alone (single.answer_of list document (length o)) o (single.bytes_after list document o) entry (selected_of list document)
  pub answered : Answered list document o (single.answer_of list document (length o)) (single.bytes_after list document o)

pub entry_i : (list b : List ℕ) (i : ℕ) (o : List ℕ) → list_answer list ≡ Ok tt → layout_of b ≡ Ok tt → EntryAt list b i o
entry_i list b i o p e =
    let d = get_or (entries_of b) i [] in
    record {
      document = d;
      document_is = refl;
      entry = entry_of list d;
      entry_is = sym (entry_at list b e i);
      alone = entry_alone list d o p;
      answered = demand_1 list d o;
    }

-- ---- demand 1: every list, batch and buffer gets an answer, and a refusal of the whole changes no byte

pub record BatchAnswered (list b o : List ℕ) (a : Result Batch BatchError) (o' : List ℕ) : Type 0 where
  -- the answer that document 02 says, with its place, and the only one
  pub says : BatchSays list b (length o) a
  pub only : (x : Result Batch BatchError) → BatchSays list b (length o) x → x ≡ a
  -- under 0 the numbers are the result's own, and it stands at the front of the buffer; the bytes after it stay
  pub written : number_of a ≡ 0
      → (second_of a ≡ length (result_of list b)) × (third_of a ≡ selected_in list b) × (o' ≡ result_of list b ++ drop (second_of a) o)
  -- under any other the third number is 0, and the buffer is untouched
  pub refused : (number_of a ≡ 0 → ⊥) → (third_of a ≡ 0) × (o' ≡ o)

written_is : (list b o : List ℕ) → number_of (batch_of list b (length o)) ≡ 0
    → (second_of (batch_of list b (length o)) ≡ length (result_of list b)) × (third_of (batch_of list b (length o)) ≡ selected_in list b)
    × (batch_bytes list b o ≡ result_of list b ++ drop (second_of (batch_of list b (length o))) o)
unfolding batch_of batch_bytes
written_is list b o = go (list_answer list) (layout_of b) (ltb (length o) (length (result_of list b)))
  where
    said : Result ⊤ ListError → Result ⊤ LayoutError → Bool → Result Batch BatchError
    said l y x = by_list l (by_layout y (cond x (Err (errors.Short (length (result_of list b))))
        (Ok (record { length = length (result_of list b); selected = selected_in list b }))))

    go : (l : Result ⊤ ListError) (y : Result ⊤ LayoutError) (x : Bool) → number_of (said l y x) ≡ 0
        → (second_of (said l y x) ≡ length (result_of list b)) × (third_of (said l y x) ≡ selected_in list b)
        × (after (said l y x) (result_of list b) o ≡ result_of list b ++ drop (second_of (said l y x)) o)
    go (Ok _) (Ok _) false z = (refl, refl, refl)
    go (Ok _) (Ok _) true z = absurd (omega (arith, z))
    go (Ok _) (Err k) x z = absurd (omega (arith, z))
    go (Err lists.TooLong) y x z = absurd (omega (arith, z))
    go (Err (lists.Malformed k)) y x z = absurd (omega (arith, z))
    go (Err (lists.TooLarge k)) y x z = absurd (omega (arith, z))

refused_is : (a : Result Batch BatchError) (w o : List ℕ) → (number_of a ≡ 0 → ⊥) → (third_of a ≡ 0) × (after a w o ≡ o)
refused_is (Ok x) w o h = absurd (h refl)
refused_is (Err e) w o h = (refl, refl)

pub batch_demand_1 : (list b o : List ℕ) → Bytes b → BatchAnswered list b o (batch_of list b (length o)) (batch_bytes list b o)
unfolding batch_bytes
batch_demand_1 list b o h =
    record {
      says = says_batch list b (length o) h;
      only = λ x s. only_batch list b (length o) s;
      written = written_is list b o;
      refused = refused_is (batch_of list b (length o)) (result_of list b) o;
    }

-- ---- demand 3, per document inside, and so of whole batches: batch(narrow, batch(wide, B)) = batch(narrow, B)

module _ (narrow wide : List ℕ) (covered : Covered (list_paths narrow) (list_paths wide)) where
  -- a refused document has an empty entry, which is refused again
  pub entry_again : (d : List ℕ) → length (entry_of wide d) ≤ 16777216 → entry_of narrow (entry_of wide d) ≡ entry_of narrow d
  unfolding entry_of
  entry_again d l = go (judge_of d) refl l
    where
      go : (j : Result ⊤ DocumentError) → judge_of d ≡ j → length (of_sound j (cut_of wide d) []) ≤ 16777216
          → of_sound (judge_of (of_sound j (cut_of wide d) [])) (cut_of narrow (of_sound j (cut_of wide d) [])) []
          ≡ of_sound j (cut_of narrow d) []
      go (Ok _) e l = rw (cut_accepted narrow wide d covered e l) (cut_again narrow wide d covered e l)
      go (Err x) e l = empty_entry narrow

  empty_selected : selected_of narrow [] ≡ 0
  empty_selected = omega (arith, selected_under narrow [])

  pub selected_again : (d : List ℕ) → length (entry_of wide d) ≤ 16777216 → selected_of narrow (entry_of wide d) ≡ selected_of narrow d
  unfolding entry_of selected_of
  selected_again d l = go (judge_of d) refl l
    where
      go : (j : Result ⊤ DocumentError) → judge_of d ≡ j → length (of_sound j (cut_of wide d) []) ≤ 16777216
          → of_sound (judge_of (of_sound j (cut_of wide d) [])) (count_of narrow (of_sound j (cut_of wide d) [])) 0
          ≡ of_sound j (count_of narrow d) 0
      go (Ok _) e l = rw (cut_accepted narrow wide d covered e l) (count_again narrow wide d covered e l)
      go (Err x) e l = empty_selected

  entries_again : (ds : List (List ℕ)) → All (λ d. length (entry_of wide d) ≤ 16777216) ds
      → map (entry_of narrow) (map (entry_of wide) ds) ≡ map (entry_of narrow) ds
  entries_again [] none = refl
  entries_again (d ∷ ds) (more h hs) =
      ap (λ (w : List ℕ). w ∷ map (entry_of narrow) (map (entry_of wide) ds)) (entry_again d h)
      ∙ ap (λ (ws : List (List ℕ)). entry_of narrow d ∷ ws) (entries_again ds hs)

  sums_again : (ds : List (List ℕ)) → All (λ d. length (entry_of wide d) ≤ 16777216) ds
      → sum (map (selected_of narrow) (map (entry_of wide) ds)) ≡ sum (map (selected_of narrow) ds)
  sums_again [] none = refl
  sums_again (d ∷ ds) (more h hs) = omega (arith, selected_again d h, sums_again ds hs)

  module _ (b : List ℕ) (e : layout_of b ≡ Ok tt) (sizes : All (λ d. length (entry_of wide d) ≤ 16777216) (entries_of b)) where
    pub result_again : result_of narrow (result_of wide b) ≡ result_of narrow b
    unfolding result_of
    result_again =
        ap (λ (ds : List (List ℕ)). print_batch (map (entry_of narrow) ds)) (entries_result wide b e)
        ∙ ap print_batch (entries_again (entries_of b) sizes)

    pub sum_again : selected_in narrow (result_of wide b) ≡ selected_in narrow b
    unfolding selected_in
    sum_again =
        ap (λ (ds : List (List ℕ)). sum (map (selected_of narrow) ds)) (entries_result wide b e) ∙ sums_again (entries_of b) sizes

-- a result is a sound batch itself, where it is not too long for one
pub result_sound : (list b : List ℕ) → length (result_of list b) ≤ 67108864 → layout_of (result_of list b) ≡ Ok tt
unfolding result_of
result_sound list b l = sym (only_layout (result_of list b) (sound (map (entry_of list) (entries_of b)) refl l))

-- what is answered and left by a sound list, of a sound batch and with room enough
batch_answers : (list b o : List ℕ) → list_answer list ≡ Ok tt → layout_of b ≡ Ok tt → length (result_of list b) ≤ length o
    → (batch_of list b (length o) ≡ Ok (record { length = length (result_of list b); selected = selected_in list b }))
    × (batch_bytes list b o ≡ result_of list b ++ drop (length (result_of list b)) o)
unfolding batch_of batch_bytes
batch_answers list b o p e l = rw (p, e, le-ltb (length o) (length (result_of list b)) l) (refl, refl)

-- Of two calls: the first writes the wide result, n bytes, at the front of the buffer o; the second takes these bytes as a batch, into the
-- buffer o'. "as long as the wide result is within the batch size and its cuts within the document size".
pub batch_demand_3_covered : (narrow wide b o o' : List ℕ) (n k : ℕ) → list_answer narrow ≡ Ok tt → list_answer wide ≡ Ok tt
    → Covered (list_paths narrow) (list_paths wide) → layout_of b ≡ Ok tt
    → batch_of wide b (length o) ≡ Ok (record { length = n; selected = k }) → n ≤ 67108864
    → All (λ d. length (entry_of wide d) ≤ 16777216) (entries_of b) → length (result_of narrow b) ≤ length o'
    → (batch_of narrow (take n (batch_bytes wide b o)) (length o')
    ≡ Ok (record { length = length (result_of narrow b); selected = selected_in narrow b }))
    × (batch_bytes narrow (take n (batch_bytes wide b o)) o' ≡ result_of narrow b ++ drop (length (result_of narrow b)) o')
batch_demand_3_covered narrow wide b o o' n k p q covered e a size sizes room =
    let z = written_is wide b o (ap number_of a) in
    let m : n ≡ length (result_of wide b) = sym (ap second_of a) ∙ z.0 in
    let t : take n (batch_bytes wide b o) ≡ result_of wide b =
    ap (take n) z.2 ∙ take_at (result_of wide b) (drop (second_of (batch_of wide b (length o))) o) n (sym m) in
    let s = result_sound wide b (omega (arith, m)) in
    let r = result_again narrow wide covered b e sizes in
    let y = batch_answers narrow (result_of wide b) o' p s (rw r room) in
    rw t (rw (r, sum_again narrow wide covered b e sizes) at y)

-- the same where each narrow path stands in the wide list
pub batch_demand_3 : (narrow wide b o o' : List ℕ) (n k : ℕ) → list_answer narrow ≡ Ok tt → list_answer wide ≡ Ok tt
    → Within (list_paths narrow) (list_paths wide) → layout_of b ≡ Ok tt
    → batch_of wide b (length o) ≡ Ok (record { length = n; selected = k }) → n ≤ 67108864
    → All (λ d. length (entry_of wide d) ≤ 16777216) (entries_of b) → length (result_of narrow b) ≤ length o'
    → (batch_of narrow (take n (batch_bytes wide b o)) (length o')
    ≡ Ok (record { length = length (result_of narrow b); selected = selected_in narrow b }))
    × (batch_bytes narrow (take n (batch_bytes wide b o)) o' ≡ result_of narrow b ++ drop (length (result_of narrow b)) o')
batch_demand_3 narrow wide b o o' n k p q within =
    batch_demand_3_covered narrow wide b o o' n k p q (within_covered within)
