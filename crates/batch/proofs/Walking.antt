-- The walks over a batch. At a place of the batch, what stands from there on to the end is whole entries, and the result is what came
-- before and the entries of the documents from there on. In order: the next document; measuring; filling.
use mathlib.Core.Path.{◌≡◌, refl, sym, ap, ◌∙◌}
use mathlib.Core.List.{List, [], ◌∷◌, ◌++◌, map, append_assoc, append-nil}
use Rattle.std.specs.Prelude.{Ok}
use Prim.Native.Nat.{ℕ, ◌+◌, ◌-◌, ◌≤◌, ◌<◌}
use native.Mathlib.Omega.{arith}
use lib.ListN.{length, take, drop, set, length-append, length-drop, length-set, drop_of_length-le}
use lib.Seq.{drop-drop, drop_at, take_at, take_all, drop-set-lt}
use Rattle.bundle.specs.Batch.{big, print_entries, number_at, entries_from, entries_of, layout_of}
use Rattle.bundle.proofs.Entries.{document_at, next_at, at_whole, at_end, Stands, stands_whole, stands_next, entry_long}
use Rattle.bundle.proofs.Judging.{sound_whole}
use Rattle.batch.specs.Answer.{entry_of, selected_of, result_of, sum, selected_in}
use Rattle.batch.specs.Told.{part, part_of}
use Rattle.batch.specs.declared.entry.Part.{Part}
use Rattle.batch.proofs.Bounds.{result_under, sum_under}

-- the document that is lent, from behind its length to the next
pub lent_document : (b : List ℕ) (at n : ℕ) → n ≡ number_at (drop at b) → take (at + 4 + n - (at + 4)) (drop (at + 4) b) ≡ document_at b at
lent_document b at n e = let q : at + 4 + n - (at + 4) ≡ number_at (drop at b) = omega (arith, e) in rw q refl

-- ---- measuring

module _ (list b : List ℕ) where
  -- the result from a place on, and the elements selected there
  abbrev pub rest_from : ℕ → List ℕ
  rest_from at = print_entries (map (entry_of list) (entries_from at b))

  abbrev pub count_from : ℕ → ℕ
  count_from at = sum (map (selected_of list) (entries_from at b))

  module _ (at : ℕ) (s : Stands b at) (more : at < length b) where
    pub rest_next : rest_from at
        ≡ big (length (entry_of list (document_at b at))) ++ (entry_of list (document_at b at) ++ rest_from (next_at b at))
    rest_next = ap (λ (ds : List (List ℕ)). print_entries (map (entry_of list) ds)) (at_whole b at (stands_whole b at s more))

    pub count_next : count_from at ≡ selected_of list (document_at b at) + count_from (next_at b at)
    count_next = ap (λ (ds : List (List ℕ)). sum (map (selected_of list) ds)) (at_whole b at (stands_whole b at s more))

    pub rest_long : length (rest_from at) ≡ 4 + length (entry_of list (document_at b at)) + length (rest_from (next_at b at))
    rest_long = ap length rest_next ∙ entry_long (entry_of list (document_at b at)) (map (entry_of list) (entries_from (next_at b at) b))

  pub rest_end : (at : ℕ) → length b ≤ at → rest_from at ≡ []
  rest_end at l = ap (λ (ds : List (List ℕ)). print_entries (map (entry_of list) ds)) (at_end b at l)

  pub count_end : (at : ℕ) → length b ≤ at → count_from at ≡ 0
  count_end at l = ap (λ (ds : List (List ℕ)). sum (map (selected_of list) ds)) (at_end b at l)

  pub record Measuring (at needed : ℕ) : Type 0 where
    pub stands : Stands b at
    pub small : length b ≤ 67108864
    pub under : length (result_of list b) ≤ 134217728
    pub is : length (result_of list b) ≡ needed + length (rest_from at)

  pub measure_start : layout_of b ≡ Ok tt → Measuring 1 1
  unfolding result_of entries_of
  measure_start e =
      let w = sound_whole b e in
      record {
        stands = w.stands;
        small = w.small;
        under = omega (arith, result_under list b w, w.small);
        is = omega arith;
      }

  module _ {at needed : ℕ} (m : Measuring at needed) where
    pub measure_whole : at < length b → {n : ℕ} → n ≡ number_at (drop at b) → at + 4 + n ≤ length b
    measure_whole l e = omega (arith, e, stands_whole b at m.stands l)

    pub measure_four : at < length b → at + 4 ≤ length b
    measure_four l = omega (arith, stands_whole b at m.stands l)

    module _ (l : at < length b) {n k : ℕ} (e : n ≡ number_at (drop at b))
        (f : k ≡ length (entry_of list (take (at + 4 + n - (at + 4)) (drop (at + 4) b)))) where
      entry_is : k ≡ length (entry_of list (document_at b at))
      entry_is = f ∙ ap (λ (d : List ℕ). length (entry_of list d)) (lent_document b at n e)

      pub measure_next : Measuring (at + 4 + n) (needed + 4 + k)
      measure_next =
          rw e
          (record {
            stands = stands_next b at m.stands l;
            small = m.small;
            under = m.under;
            is = omega (arith, m.is, rest_long at m.stands l, entry_is);
          })

      pub measure_fits : needed + 4 + k ≤ 134217728
      measure_fits = omega (arith, measure_next.is, measure_next.under)

    pub measure_end : length b ≤ at → needed ≡ length (result_of list b)
    measure_end l = omega (arith, m.is, ap length (rest_end at l))

-- ---- filling

-- a result has its version byte
pub result_some : (list b : List ℕ) → 0 < length (result_of list b)
unfolding result_of
result_some list b = omega arith

more_put : (put k : ℕ) → put + (4 + k) ≡ put + 4 + k
more_put put k = omega arith

module _ (list b o : List ℕ) where
  pub record Filling (at put selected : ℕ) (o' : List ℕ) : Type 0 where
    pub stands : Stands b at
    pub small : length b ≤ 67108864
    pub under : length (result_of list b) ≤ 134217728
    pub few : selected_in list b ≤ 67108864
    pub room : length (result_of list b) ≤ length o
    pub laid : List ℕ
    pub long : length laid ≡ put
    pub result : result_of list b ≡ laid ++ rest_from list b at
    pub buffer : o' ≡ laid ++ drop put o
    pub count : selected_in list b ≡ selected + count_from list b at

  -- what is left of the buffer, lent whole and put back
  rest_whole : (put : ℕ) (s : List ℕ) → take (length s - put) (drop put s) ≡ drop put s
  rest_whole put s = take_all (length s - put) (drop put s) (omega (arith, length-drop put s))

  put_back : (put : ℕ) (s x : List ℕ) → take put s ++ (x ++ drop (length s - put) (drop put s)) ≡ take put s ++ x
  put_back put s x =
      let none : drop (length s - put) (drop put s) ≡ [] =
      drop_of_length-le (drop put s) {i = length s - put} (omega (arith, length-drop put s)) in
      ap (λ (t : List ℕ). take put s ++ t) (ap (λ (t : List ℕ). x ++ t) none ∙ append-nil x)

  module _ {at put selected : ℕ} {o' : List ℕ} (f : Filling at put selected o') where
    pub fill_whole : at < length b → {n : ℕ} → n ≡ number_at (drop at b) → at + 4 + n ≤ length b
    fill_whole l e = omega (arith, e, stands_whole b at f.stands l)

    pub fill_four : at < length b → at + 4 ≤ length b
    fill_four l = omega (arith, stands_whole b at f.stands l)

    result_long : length (result_of list b) ≡ put + length (rest_from list b at)
    result_long =
        ap length f.result
        ∙ length-append f.laid (rest_from list b at)
        ∙ ap (λ (k : ℕ). k + length (rest_from list b at)) f.long

    pub fill_inside : put ≤ length o'
    fill_inside =
        omega (arith, result_long, f.room, f.long, ap length f.buffer, length-append f.laid (drop put o), length-drop put o)

    pub same_long : length o' ≡ length o
    same_long =
        omega (arith, result_long, f.room, f.long, ap length f.buffer, length-append f.laid (drop put o), length-drop put o)

    laid_front : take put o' ≡ f.laid
    laid_front = ap (take put) f.buffer ∙ take_at f.laid (drop put o) put f.long

    laid_rest : drop put o' ≡ drop put o
    laid_rest = ap (drop put) f.buffer ∙ drop_at f.laid (drop put o) put f.long

    module _ (l : at < length b) {n : ℕ} (e : n ≡ number_at (drop at b)) where
      pub fill_room : 4 + length (entry_of list (take (at + 4 + n - (at + 4)) (drop (at + 4) b)))
          ≤ length (take (length o' - put) (drop put o'))
      fill_room =
          let d = ap (λ (x : List ℕ). length (entry_of list x)) (lent_document b at n e) in
          let w = ap length (rest_whole put o') in
          omega (arith, d, w, length-drop put o', same_long, result_long, rest_long list b at f.stands l, f.room)

      module _ {p : Part} (ep : p ≡ part_of (entry_of list (take (at + 4 + n - (at + 4)) (drop (at + 4) b)))
          (selected_of list (take (at + 4 + n - (at + 4)) (drop (at + 4) b)))) where
        part_is : p ≡ part_of (entry_of list (document_at b at)) (selected_of list (document_at b at))
        part_is = ep ∙ ap (λ (d : List ℕ). part_of (entry_of list d) (selected_of list d)) (lent_document b at n e)

        pub fill_fits : put + 4 + p.length ≤ 134217728
        fill_fits =
            omega (arith, ap (λ (q : Part). q.length) part_is, result_long, rest_long list b at f.stands l, f.under)

        pub fill_few : selected + p.selected ≤ 67108864
        fill_few =
            omega (arith, ap (λ (q : Part). q.selected) part_is, f.count, count_next list b at f.stands l, f.few)

        pub fill_next : {x : List ℕ}
            → x ≡ big (length (entry_of list (take (at + 4 + n - (at + 4)) (drop (at + 4) b))))
            ++ (entry_of list (take (at + 4 + n - (at + 4)) (drop (at + 4) b))
            ++ drop (4 + length (entry_of list (take (at + 4 + n - (at + 4)) (drop (at + 4) b)))) (take (length o' - put) (drop put o')))
            → Filling (at + 4 + n) (put + 4 + p.length) (selected + p.selected)
            (take put o' ++ (x ++ drop (length o' - put) (drop put o')))
        fill_next {x} ex =
            let w = entry_of list (document_at b at) in
            let nx : x ≡ big (length w) ++ (w ++ drop (put + 4 + length w) o) =
            ex
            ∙ ap (λ (d : List ℕ). big (length (entry_of list d))
            ++ (entry_of list d ++ drop (4 + length (entry_of list d)) (take (length o' - put) (drop put o')))) (lent_document b at n e)
            ∙ ap (λ (s : List ℕ). big (length w) ++ (w ++ drop (4 + length w) s)) (rest_whole put o' ∙ laid_rest)
            ∙ ap (λ (s : List ℕ). big (length w) ++ (w ++ s))
            (drop-drop (4 + length w) put o ∙ ap (λ (k : ℕ). drop k o) (more_put put (length w))) in
            let all : take put o' ++ (x ++ drop (length o' - put) (drop put o'))
            ≡ (f.laid ++ (big (length w) ++ w)) ++ drop (put + 4 + length w) o =
            put_back put o' x
            ∙ ap (λ (s : List ℕ). s ++ x) laid_front
            ∙ ap (λ (s : List ℕ). f.laid ++ s) nx
            ∙ sym (append_assoc f.laid (big (length w) ++ w) (drop (put + 4 + length w) o)) in
            rw (all, part_is, e)
            (record {
              stands = stands_next b at f.stands l;
              small = f.small;
              under = f.under;
              few = f.few;
              room = f.room;
              laid = f.laid ++ (big (length w) ++ w);
              long = omega (arith, length-append f.laid (big (length w) ++ w), f.long);
              result =
                  f.result
                  ∙ ap (λ (s : List ℕ). f.laid ++ s) (rest_next list b at f.stands l)
                  ∙ sym (append_assoc f.laid (big (length w) ++ w) (rest_from list b (next_at b at)));
              buffer = refl;
              count = omega (arith, f.count, count_next list b at f.stands l);
            })

-- the version byte is laid before the loop
version_laid : (o : List ℕ) → 1 ≤ length o → set o 0 1 ≡ (1 ∷ []) ++ drop 1 (set o 0 1)
version_laid [] l = absurd (omega arith)
version_laid (x ∷ o) l = refl

module _ (list b o : List ℕ) where
  pub fill_some : length (result_of list b) ≤ length o → 1 ≤ length o
  unfolding result_of
  fill_some l = omega arith

  pub fill_start : layout_of b ≡ Ok tt → length (result_of list b) ≤ length o → Filling list b (set o 0 1) 1 1 0 (set o 0 1)
  unfolding result_of entries_of selected_in
  fill_start e l =
      let w = sound_whole b e in
      record {
        stands = w.stands;
        small = w.small;
        under = omega (arith, result_under list b w, w.small);
        few = omega (arith, sum_under list b w, w.small);
        room = omega (arith, l, length-set o 0 1);
        laid = 1 ∷ [];
        long = refl;
        result = refl;
        buffer = version_laid o (omega arith);
        count = omega arith;
      }

  pub fill_same : {at put selected : ℕ} {o' : List ℕ} → Filling list b (set o 0 1) at put selected o' → length o' ≡ length o
  fill_same f = same_long list b (set o 0 1) f ∙ length-set o 0 1

  pub fill_end : {at put selected : ℕ} {o' : List ℕ} → Filling list b (set o 0 1) at put selected o' → length b ≤ at
      → length (result_of list b) ≤ length o
      → (part put selected ≡ part_of (result_of list b) (selected_in list b))
      × (o' ≡ result_of list b ++ drop (length (result_of list b)) o)
  fill_end {at} {put} {selected} {o'} f l room =
      let w : result_of list b ≡ f.laid =
      f.result ∙ ap (λ (s : List ℕ). f.laid ++ s) (rest_end list b at l) ∙ append-nil f.laid in
      let k : put ≡ length (result_of list b) = sym f.long ∙ ap length (sym w) in
      let s : selected ≡ selected_in list b = omega (arith, f.count, count_end list b at l) in
      let some : 0 < length (result_of list b) = result_some list b in (
        ap (λ (n : ℕ). part n selected) k ∙ ap (part (length (result_of list b))) s,
        f.buffer
            ∙ ap (λ (t : List ℕ). t ++ drop put (set o 0 1)) (sym w)
            ∙ ap (λ (n : ℕ). result_of list b ++ drop n (set o 0 1)) k
            ∙ ap (λ (t : List ℕ). result_of list b ++ t) (drop-set-lt (length (result_of list b)) o 0 1 some),
      )
