-- Pieces of a value, between quotes q: what is no mark is passed. Then the loop; its invariant: what the pieces leave from i on is what
-- they leave from the start, and a mark stands at i, or i is the end. At `&` a reference is read, and at any other mark the pieces end.
-- Last, a value in its quotes, and in either of them.
use mathlib.Core.Path.{◌≡◌, refl, sym, ap, ◌∙◌}
use mathlib.Core.Bool.{Bool, true, false, cond}
use mathlib.Core.List.{List, [], ◌∷◌}
use mathlib.Core.Option.{Option as Maybe, none, some}
use Prim.Native.Nat.{ℕ, ◌+◌, ◌-◌, ◌≤◌, ◌<◌}
use native.Mathlib.Omega.{arith}
use lib.ListN.{length, get_or, drop, length-drop}
use Rattle.utf8.specs.Place.{ends_at}
use Rattle.utf8.proofs.Place.{drop_step, drop_end}
use Rattle.blocks.specs.Block.{until}
use Rattle.chars.specs.Name.{reading_at}
use Rattle.std.specs.Prelude.{Option, Some, None}
use Rattle.readers.specs.Read.{or_else, expect, many}
use Rattle.readers.specs.Plain.{is_mark}
use Rattle.readers.specs.Value.{reference_of, rest_of, reference_end, piece_of, quoted_of}
use Rattle.readers.specs.Answer.{Answers, ends}
use Rattle.readers.proofs.Answers.{ends_some, ends_inside, fault_none, then_ends, then_fault, answers_reading, or_ends, or_fault}
use Rattle.readers.proofs.Many.{many_stop, many_step, shrinks_nil, shrinks_length, reading_answers}
use Rattle.readers.proofs.Reference.{reference_shrinks, reference_other}
use Rattle.readers.proofs.Value.{piece_plain, piece_marked, piece_shrinks}
use Rattle.references.specs.Say.{saying_at}
use Rattle.references.proofs.Meaning.{end_of, reference_ends}
use Rattle.scans.proofs.Ends.{byte_answers}
use Rattle.scans.proofs.Marks.{until_rest, until_ahead, until_inside, until_there}

-- what is no mark is passed
pub pieces_until : (q : ℕ) (s : List ℕ) → many (piece_of q) 0 (until (is_mark q) s) ≡ many (piece_of q) 0 s
unfolding until
pieces_until q [] = refl
pieces_until q (b ∷ s) = go (is_mark q b) refl (pieces_until q s)
  where
    go : (x : Bool) → is_mark q b ≡ x → many (piece_of q) 0 (until (is_mark q) s) ≡ many (piece_of q) 0 s
        → many (piece_of q) 0 (cond x (b ∷ s) (until (is_mark q) s)) ≡ many (piece_of q) 0 (b ∷ s)
    go true e rec = refl
    go false e rec = rec ∙ sym (many_step (piece_shrinks q) (b ∷ s) s (piece_plain q b s e))

-- ---- the loop

pub record Between (q : ℕ) (d : List ℕ) (at i : ℕ) : Type 0 where
  pub ahead : at ≤ i
  pub inside : i ≤ length d
  pub mark : i < length d → is_mark q (get_or d i 0) ≡ true
  pub same : many (piece_of q) 0 (drop i d) ≡ many (piece_of q) 0 (drop at d)

pub pieces_start : {q : ℕ} {d : List ℕ} {at i : ℕ} → at ≤ length d → i ≡ ends_at d at (until (is_mark q) (drop at d)) → Between q d at i
pieces_start {q} {d} {at} {i} h e =
    record {
      ahead = until_ahead (is_mark q) d at e;
      inside = until_inside (is_mark q) d at e h;
      mark = until_there (is_mark q) d at e;
      same = ap (many (piece_of q) 0) (until_rest (is_mark q) d at e) ∙ pieces_until q (drop at d);
    }

module _ {q : ℕ} {d : List ℕ} {at i : ℕ} (v : Between q d at i) where
  -- where no piece stands, the pieces end
  stops : piece_of q (drop i d) ≡ none → Answers d at (Some i) (some (many (piece_of q) 0 (drop at d)))
  stops e =
      ends {e = i} (record { rest = sym (many_stop (piece_of q) (drop i d) e) ∙ v.same; inside = v.inside }) v.ahead

  pub pieces_end : length d ≤ i → Answers d at (Some i) (some (many (piece_of q) 0 (drop at d)))
  pieces_end h = stops (rw (drop_end d i h) (shrinks_nil (piece_shrinks q)))

  module _ (l : i < length d) where
    at_mark : piece_of q (drop i d) ≡ reference_end (drop i d)
    at_mark = rw (drop_step d i l) (piece_marked q (get_or d i 0) (drop (i + 1) d) (v.mark l))

    pub pieces_other : (get_or d i 0 ≡ 0x26 → ⊥) → Answers d at (Some i) (some (many (piece_of q) 0 (drop at d)))
    pieces_other n = stops (at_mark ∙ rw (drop_step d i l) (ap rest_of (reference_other (get_or d i 0) (drop (i + 1) d) n)))

    module _ {r : Option (ℕ × ℕ)} (e : r ≡ saying_at d i (reference_of (drop i d))) where
      answered : Answers d i (end_of r) (reference_end (drop i d))
      answered = reading_answers reference_shrinks d i (reference_ends d i e)

      pub pieces_fault : r ≡ None → Answers d at (Some i) (some (many (piece_of q) 0 (drop at d)))
      pieces_fault f = stops (at_mark ∙ fault_none answered (ap end_of f))

      module _ {c j : ℕ} (h : r ≡ Some (c, j)) where
        f : end_of r ≡ Some j
        f = ap end_of h

        longer : i < j
        longer =
            let a = shrinks_length reference_shrinks (drop i d) (drop j d) (ends_some answered f) in
            let b = ends_inside answered f in
            omega (arith, length-drop i d, length-drop j d)

        module _ {k : ℕ} (g : k ≡ ends_at d j (until (is_mark q) (drop j d))) where
          pub pieces_on : Between q d at k
          pieces_on =
              let w : Between q d j k = pieces_start (ends_inside answered f) g in
              let a : j ≤ k = w.ahead in
              let b : at ≤ i = v.ahead in
              let c = longer in
              record {
                ahead = omega arith;
                inside = w.inside;
                mark = w.mark;
                same =
                    w.same
                    ∙ sym (many_step (piece_shrinks q) (drop i d) (drop j d) (at_mark ∙ ends_some answered f))
                    ∙ v.same;
              }

          pub pieces_less : length d - k < length d - i
          pieces_less = let c = longer in let a = until_ahead (is_mark q) d j g in omega arith

pub ruleset piecing = (pieces_start, pieces_end, pieces_other, pieces_fault, pieces_on, pieces_less)

-- ---- in quotes

module _ (q : ℕ) {d : List ℕ} (at : ℕ) {r : Option ℕ} (a : Answers d at r (expect (q ∷ []) (drop at d))) where
  pub quoted_fault : r ≡ None → Answers d at None (quoted_of q (drop at d))
  unfolding quoted_of
  quoted_fault f = then_fault a _ f

  pub quoted_ends : {i k : ℕ} {r' : Option ℕ} → r ≡ Some i → Answers d i (Some k) (some (many (piece_of q) 0 (drop i d)))
      → Answers d k r' (expect (q ∷ []) (drop k d)) → Answers d at r' (quoted_of q (drop at d))
  unfolding quoted_of
  quoted_ends f b c = then_ends a _ f (then_ends b (expect (q ∷ [])) refl c)

pub ruleset quoting = (byte_answers, quoted_fault, quoted_ends, ends_inside)

-- ---- in either quotes

module _ {d : List ℕ} {at : ℕ} {r : Option ℕ} {o : Maybe (List ℕ)} (a : Answers d at r o) where
  pub first_reading : (o' : Maybe (List ℕ)) {i : ℕ} → r ≡ Some i → Some i ≡ reading_at d at (or_else o o')
  first_reading o' q = answers_reading (or_ends a o' q)

  pub second_reading : {o' : Maybe (List ℕ)} {r' : Option ℕ} → r ≡ None → Answers d at r' o' → r' ≡ reading_at d at (or_else o o')
  second_reading q b = answers_reading (or_fault a q b)

pub ruleset reading = (first_reading, second_reading)
