-- Each call on a batch has the answer that is said of it, `says_batch`, and no other is said, `only_batch`: specs/Says.antt has the words.
-- In order: an entry; the entries; the result; the answer.
use mathlib.Core.Path.{◌≡◌, refl, sym, ap, ◌∙◌}
use mathlib.Core.Bool.{Bool, true, false, cond}
use mathlib.Core.List.{List, [], ◌∷◌, map}
use Rattle.std.specs.Prelude.{Result, Ok, Err}
use Prim.Native.Nat.{ℕ, ◌≤◌, ◌<◌}
use native.Mathlib.Omega.{arith}
use borrow.Author.Tests.{ltb-true, ltb-false, lt-ltb, le-ltb}
use lib.Dec.{ltb}
use lib.ListN.{length}
use Rattle.std.specs.Prelude.{Result, Ok, Err, ⊤}
use Rattle.paths.specs.Judge.{list_answer}
use Rattle.paths.specs.Answer.{Says}
use Rattle.paths.specs.declared.ListError.{ListError}
use Rattle.paths.specs.declared.ListError.TheVariants as lists
use Rattle.paths.proofs.Meaning.{says, says_only}
use Rattle.document.specs.Judge.{judge_of}
use Rattle.document.specs.declared.DocumentError.{DocumentError}
use Rattle.trees.specs.Written.{cut_of, count_of}
use Rattle.demands.specs.Judged.{DocumentSays}
use Rattle.demands.proofs.Faults.{judge_says, judge_only}
use Rattle.demands.proofs.Answers.{cut_cuts, cuts_only}
use Rattle.bundle.specs.Batch.{print_batch, entries_of, layout_of}
use Rattle.bundle.specs.Layout.{Bytes, LayoutSays, sound}
use Rattle.bundle.specs.declared.LayoutError.{LayoutError}
use Rattle.bundle.proofs.Layouts.{batch_printed, says_layout, only_layout}
use Rattle.batch.specs.Answer.{of_sound, entry_of, selected_of, result_of, sum, selected_in, by_list, by_layout, by_room, batch_by}
use Rattle.batch.specs.Answer.{batch_of}
use Rattle.batch.specs.Says.{EntrySays, cut, refused, EntriesSay, none, more, Results, BatchSays, list_long, list_malformed}
use Rattle.batch.specs.Says.{list_large, bad_batch, short, written}
use Rattle.batch.specs.declared.Batch.{Batch}
use Rattle.batch.specs.declared.BatchError.{BatchError}
use Rattle.batch.specs.declared.BatchError.TheVariants as errors

-- ---- an entry

entry_says : (list d : List ℕ) → list_answer list ≡ Ok tt → EntrySays list d (entry_of list d) (selected_of list d)
unfolding entry_of selected_of
entry_says list d p = go (judge_of d) refl (judge_says d)
  where
    go : (j : Result ⊤ DocumentError) → judge_of d ≡ j → DocumentSays d j → EntrySays list d (of_sound j (cut_of list d) [])
        (of_sound j (count_of list d) 0)
    go (Ok _) e h = cut (cut_cuts list d p e)
    go (Err x) e h = refused (Err x) h (λ q. let z : ◌≡◌ {A = ℕ} 0 1 = cc in omega arith)

-- a document that is refused
refused_none : {A : Type 0} (j : Result ⊤ DocumentError) (a b : A) → (j ≡ Ok tt → ⊥) → b ≡ of_sound j a b
refused_none (Ok _) a b n = absurd (n refl)
refused_none (Err e) a b n = refl

entry_only : {list d w : List ℕ} {c : ℕ} → EntrySays list d w c → (w ≡ entry_of list d) × (c ≡ selected_of list d)
unfolding entry_of selected_of
entry_only {list} {d} (cut x) = let z = cuts_only x in rw z.document_sound (z.bytes_are, z.count_is)
entry_only {list} {d} (refused j h n) =
    rw (judge_only d j h) (refused_none j (cut_of list d) [] n, refused_none j (count_of list d) 0 n)

-- ---- the entries

entries_say : (list : List ℕ) (ds : List (List ℕ)) → list_answer list ≡ Ok tt
    → EntriesSay list ds (map (entry_of list) ds) (sum (map (selected_of list) ds))
entries_say list [] p = none
entries_say list (d ∷ ds) p = more (entry_says list d p) (entries_say list ds p)

entries_only : {list : List ℕ} {ds ws : List (List ℕ)} {c : ℕ} → EntriesSay list ds ws c
    → (ws ≡ map (entry_of list) ds) × (c ≡ sum (map (selected_of list) ds))
entries_only none = (refl, refl)
entries_only (more x xs) =
    let (p, q) = entry_only x in
    let (r, s) = entries_only xs in
    (cc, omega (arith, q, s))

-- ---- the result

module _ (list b : List ℕ) where
  result_says : list_answer list ≡ Ok tt → Bytes b → layout_of b ≡ Ok tt
      → Results list b (result_of list b) (selected_in list b)
  unfolding result_of selected_in
  result_says p h e = go (rw e at (says_layout b h))
    where
      go : LayoutSays b (Ok tt)
          → Results list b (print_batch (map (entry_of list) (entries_of b))) (sum (map (selected_of list) (entries_of b)))
      go (sound ds q l) =
          let r : entries_of b ≡ ds = ap entries_of q ∙ batch_printed ds (omega (arith, ap length q)) in
          record {
            listed = rw p at (says list);
            documents = entries_of b;
            printed = q ∙ ap print_batch (sym r);
            small = l;
            entries = map (entry_of list) (entries_of b);
            each = entries_say list (entries_of b) p;
            result = refl;
          }

  record ResultIs (w : List ℕ) (c : ℕ) : Type 0 where
    list_is : list_answer list ≡ Ok tt
    layout_is : layout_of b ≡ Ok tt
    bytes_are : w ≡ result_of list b
    count_is : c ≡ selected_in list b

  result_only : {w : List ℕ} {c : ℕ} → Results list b w c → ResultIs w c
  unfolding result_of selected_in
  result_only x =
      let (p, q) = entries_only x.each in
      let r : entries_of b ≡ x.documents =
      ap entries_of x.printed ∙ batch_printed x.documents (omega (arith, ap length x.printed, x.small)) in
      record {
        list_is = says_only list (Ok tt) x.listed;
        layout_is = sym (only_layout b (sound x.documents x.printed x.small));
        bytes_are = x.result ∙ ap print_batch p ∙ ap (λ (ds : List (List ℕ)). print_batch (map (entry_of list) ds)) (sym r);
        count_is = q ∙ ap (λ (ds : List (List ℕ)). sum (map (selected_of list) ds)) (sym r);
      }

  -- ---- the answer

  module _ (room : ℕ) where
    pub says_batch : Bytes b → BatchSays list b room (batch_of list b room)
    unfolding batch_of
    says_batch h = by_list_lem (list_answer list) refl (says list)
      where
        by_room_lem : list_answer list ≡ Ok tt → layout_of b ≡ Ok tt → (x : Bool) → ltb room (length (result_of list b)) ≡ x
            → BatchSays list b room (cond x (Err (errors.Short (length (result_of list b))))
            (Ok (record { length = length (result_of list b); selected = selected_in list b })))
        by_room_lem p e true q = short (result_says p h e) (ltb-true room (length (result_of list b)) q)
        by_room_lem p e false q = written (result_says p h e) (ltb-false room (length (result_of list b)) q)

        by_layout_lem : list_answer list ≡ Ok tt → Says list (Ok tt) → (l : Result ⊤ LayoutError) → layout_of b ≡ l → LayoutSays b l
            → BatchSays list b room (by_layout l (by_room room (result_of list b) (selected_in list b)))
        by_layout_lem p s (Ok _) e k = by_room_lem p e (ltb room (length (result_of list b))) refl
        by_layout_lem p s (Err o) e k = bad_batch s k

        by_list_lem : (a : Result ⊤ ListError) → list_answer list ≡ a → Says list a
            → BatchSays list b room (by_list a (batch_by list b room))
        by_list_lem (Ok _) p s = by_layout_lem p s (layout_of b) refl (says_layout b h)
        by_list_lem (Err lists.TooLong) p s = list_long s
        by_list_lem (Err (lists.Malformed n)) p s = list_malformed s
        by_list_lem (Err (lists.TooLarge n)) p s = list_large s

    pub only_batch : {a : Result Batch BatchError} → BatchSays list b room a → a ≡ batch_of list b room
    unfolding batch_of
    only_batch (list_long s) = rw (says_only list (Err lists.TooLong) s) refl
    only_batch (list_malformed {line} s) = rw (says_only list (Err (lists.Malformed line)) s) refl
    only_batch (list_large {line} s) = rw (says_only list (Err (lists.TooLarge line)) s) refl
    only_batch (bad_batch {o} s k) = rw (says_only list (Ok tt) s, ← only_layout b k) refl
    only_batch (short {w} {c} x l) =
        let z = result_only x in
        let s : room < length (result_of list b) = rw z.bytes_are at l in
        rw (z.bytes_are, z.list_is, z.layout_is, lt-ltb room (length (result_of list b)) s) refl
    only_batch (written {w} {c} x l) =
        let z = result_only x in
        let s : length (result_of list b) ≤ room = rw z.bytes_are at l in
        rw (z.bytes_are, z.count_is, z.list_is, z.layout_is, le-ltb room (length (result_of list b)) s) refl
