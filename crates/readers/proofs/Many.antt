-- Any number of pieces. In order: readers that leave a shorter end of what they are given, what they answer in places, and how they are
-- put together; how `many` goes on and where it stops; what it leaves is an end.
use mathlib.Core.Path.{◌≡◌, refl, ap, ◌∙◌}
use mathlib.Core.Bool.{cond}
use mathlib.Core.List.{List, [], ◌∷◌, ◌++◌}
use mathlib.Core.Option.{Option as Maybe, none, some}
use Prim.Native.Nat.{ℕ, zero, suc, ◌-◌, ◌<◌}
use native.Mathlib.Omega.{arith}
use lib.ListN.{length, drop, length-append}
use lib.Seq.{drop_at}
use Rattle.chars.specs.Name.{reading_at}
use Rattle.std.specs.Prelude.{Option}
use Rattle.readers.specs.Read.{and_then, or_else, expect, passed, given, many}
use Rattle.readers.specs.Answer.{Answers, ends, faults}
use Rattle.readers.proofs.Combine.{lit_sound, then_some}
use Rattle.readers.proofs.Left.{End, end_more, Shorter, shorter_end, shorter_length, shorter_place, shorter_more, end_shorter}
use Rattle.readers.proofs.Left.{Leaves, end_stands, end_ahead}

-- ---- what is left is a shorter end

-- what f leaves is an end of what it was given, and shorter
pub record Shrinks (f : List ℕ → Maybe (List ℕ)) : Type 0 where
  pub front : (s t : List ℕ) → f s ≡ some t → Shorter s t

pub shrinks_length : {f : List ℕ → Maybe (List ℕ)} → Shrinks f → (s t : List ℕ) → f s ≡ some t → length t < length s
shrinks_length k s t e = shorter_length (k.front s t e)

-- what a function answers whose contract is the reading of f
pub reading_answers : {f : List ℕ → Maybe (List ℕ)} → Shrinks f → (d : List ℕ) (at : ℕ) {r : Option ℕ}
    → r ≡ reading_at d at (f (drop at d)) → Answers d at r (f (drop at d))
reading_answers {f} k d at {r} e = rw e (go (f (drop at d)) refl)
  where
    go : (o : Maybe (List ℕ)) → f (drop at d) ≡ o → Answers d at (reading_at d at o) o
    go none q = faults
    go (some t) q =
        let z = k.front (drop at d) t q in
        ends (end_stands d at (shorter_place d at z) (shorter_end z)) (end_ahead d at t)

pub lit_shrinks : (x : ℕ) (w : List ℕ) → Shrinks (expect (x ∷ w))
lit_shrinks x w = record { front = λ s t e. (x ∷ w, lit_sound (x ∷ w) s t e, omega arith) }

module _ {f g : List ℕ → Maybe (List ℕ)} (kf : Shrinks f) (kg : Shrinks g) where
  pub or_shrinks : Shrinks (λ s. or_else (f s) (g s))
  or_shrinks = record { front = λ s t e. go s t (f s) refl e }
    where
      go : (s t : List ℕ) (o : Maybe (List ℕ)) → f s ≡ o → or_else o (g s) ≡ some t → Shorter s t
      go s t none h q = kg.front s t q
      go s t (some m) h q = kf.front s t (h ∙ q)

  pub then_shrinks : Shrinks (λ s. and_then (f s) g)
  then_shrinks =
      record {
        front = λ s t e.
            let (m, a, b) = then_some (f s) g t e in
            end_shorter (shorter_end (kf.front s m a)) (kg.front m t b);
      }

-- f leaves a shorter end, and g an end of that
pub lead_shrinks : {f g : List ℕ → Maybe (List ℕ)} → Shrinks f → Leaves g → Shrinks (λ s. and_then (f s) g)
lead_shrinks {f} {g} k n =
    record { front = λ s t e. let (m, a, b) = then_some (f s) g t e in shorter_more (k.front s m a) (n.ends m t b) }

pub after_shrinks : {g : List ℕ → List ℕ} {f : List ℕ → Maybe (List ℕ)} → ((s : List ℕ) → End s (g s)) → Shrinks f
    → Shrinks (λ s. f (g s))
after_shrinks {g} p k = record { front = λ s t e. end_shorter (p s) (k.front (g s) t e) }

-- ---- how it goes on, and where it stops

many_skip : (f : List ℕ → Maybe (List ℕ)) (k : ℕ) (s : List ℕ) → many f k s ≡ many f 0 (drop k s)
unfolding many
many_skip f zero [] = refl
many_skip f (suc k) [] = refl
many_skip f zero (b ∷ s) = refl
many_skip f (suc k) (b ∷ s) = many_skip f k s

pub many_stop : (f : List ℕ → Maybe (List ℕ)) (s : List ℕ) → f s ≡ none → many f 0 s ≡ s
unfolding many
many_stop f [] e = refl
many_stop f (b ∷ s) e = rw e

module _ {f : List ℕ → Maybe (List ℕ)} (k : Shrinks f) where
  pub shrinks_nil : f [] ≡ none
  shrinks_nil = go (f []) refl
    where
      go : (o : Maybe (List ℕ)) → f [] ≡ o → o ≡ none
      go none e = refl
      go (some t) e = absurd (let h : length t < 0 = shrinks_length k [] t e in omega arith)

  -- what is left after the first byte and the rest of a piece
  piece_rest : (b : ℕ) (s t : List ℕ) → f (b ∷ s) ≡ some t → drop (length s - length t) s ≡ t
  piece_rest b s t e = go (k.front (b ∷ s) t e)
    where
      go : Shorter (b ∷ s) t → drop (length s - length t) s ≡ t
      go ([], q, h) = absurd (let z : 0 < 0 = h in omega arith)
      go (y ∷ w, q, h) =
          let r : s ≡ w ++ t = ap (λ (l : List ℕ). drop 1 l) q in
          let n : length w ≡ length s - length t = let z = ap length r ∙ length-append w t in omega arith in
          ap (drop (length s - length t)) r ∙ drop_at w t _ n

  pub many_step : (s t : List ℕ) → f s ≡ some t → many f 0 s ≡ many f 0 t
  unfolding many
  many_step [] t e = absurd (let h : length t < 0 = shrinks_length k [] t e in omega arith)
  many_step (b ∷ s) t e = rw e (many_skip f (length s - length t) s ∙ ap (many f 0) (piece_rest b s t e))

  -- what holds where it stops, and before a piece if it holds after it, holds of it
  module _ (Q : List ℕ → List ℕ → Type 0) (stop : (s : List ℕ) → f s ≡ none → Q s s)
      (step : (s m t : List ℕ) → f s ≡ some m → Q m t → Q s t) where
    many_from : (j : ℕ) (s : List ℕ) → Q (drop j s) (many f j s)
    unfolding many
    many_from zero [] = stop [] shrinks_nil
    many_from (suc j) [] = stop [] shrinks_nil
    many_from (suc j) (b ∷ s) = many_from j s
    many_from zero (b ∷ s) = go (f (b ∷ s)) refl (λ j. many_from j s)
      where
        go : (o : Maybe (List ℕ)) → f (b ∷ s) ≡ o → ((j : ℕ) → Q (drop j s) (many f j s))
            → Q (b ∷ s) (cond (given o) (many f (passed o (length s)) s) (b ∷ s))
        go none e r = stop (b ∷ s) e
        go (some t) e r = step (b ∷ s) t _ e (rw (piece_rest b s t e) at (r (length s - length t)))

    pub many_holds : (s : List ℕ) → Q s (many f 0 s)
    many_holds s = many_from 0 s

  pub many_end : (s : List ℕ) → End s (many f 0 s)
  many_end = many_holds End (λ s e. ([], refl)) (λ s m t e q. end_more (shorter_end (k.front s m e)) q)
