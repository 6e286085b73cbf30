-- Characters of a class at the front, and runs of them. In order: `starts` says whether one is read; how a run goes on and where it stops;
-- a run reads characters of the class and leaves what begins with none, and nothing else does; a run leaves an end of the bytes.
use mathlib.Core.Path.{◌≡◌, refl, sym, ap, ◌∙◌}
use mathlib.Core.Bool.{Bool, true, false, cond, false≢true}
use mathlib.Core.List.{List, [], ◌∷◌, ◌++◌, append_assoc}
use mathlib.Core.Option.{Option, none, some}
use Prim.Native.Nat.{ℕ, zero, suc, pred, ◌+◌, ◌-◌, ◌≤◌, ◌<◌}
use native.Mathlib.Omega.{arith}
use lib.ListN.{length, drop, length-append}
use lib.Seq.{drop-append_seam, drop_at}
use Rattle.xml.specs.Utf8.{utf8}
use Rattle.xml.specs.Character.{character, holds, starts, wide, run}
use Rattle.xml.specs.Notation.{Reads, Star, done, more, char}
use Rattle.xml.proofs.Bools.{true-false}
use Rattle.xml.proofs.Utf8.{utf8_low, utf8_long}
use Rattle.xml.proofs.Character.{character_scalar, character_split, character_is, character_nil, character_low}

-- ---- a character of the class at the front

pub starts_found : (p : ℕ → Bool) (s : List ℕ) → starts p s ≡ true → (c : ℕ) × (character s ≡ some c) × (p c ≡ true)
unfolding starts
starts_found p s h = go (character s) refl h
  where
    go : (o : Option ℕ) → character s ≡ o → holds p o ≡ true → (c : ℕ) × (character s ≡ some c) × (p c ≡ true)
    go none e h = absurd (false≢true h)
    go (some c) e h = (c, e, h)

pub starts_reads : (p : ℕ → Bool) (s : List ℕ) → starts p s ≡ true → Reads (char p) s (drop (wide (character s)) s)
starts_reads p s h =
    let (c, e, q) = starts_found p s h in
    (c, character_scalar s c e, q, character_split s c e ∙ rw e)

pub reads_starts : (p : ℕ → Bool) (s t : List ℕ) → Reads (char p) s t → starts p s ≡ true
unfolding starts
reads_starts p s t (c, h, q, e) = rw (character_is s c t h e) q

-- what follows the character is what is left when its bytes are dropped
pub reads_rest : (p : ℕ → Bool) (s t : List ℕ) → Reads (char p) s t → drop (wide (character s)) s ≡ t
reads_rest p s t (c, h, q, e) = rw (character_is s c t h e) (ap (drop (length (utf8 c))) e ∙ drop-append_seam (utf8 c) t)

pub starts_not : (p : ℕ → Bool) (s : List ℕ) → starts p s ≡ false → (t : List ℕ) → Reads (char p) s t → ⊥
starts_not p s n t r = true-false (reads_starts p s t r) n

pub starts_nil : (p : ℕ → Bool) → starts p [] ≡ false
unfolding starts
starts_nil p = rw character_nil

pub starts_low : (p : ℕ → Bool) (a : ℕ) (s : List ℕ) → a < 0x80 → starts p (a ∷ s) ≡ p a
unfolding starts
starts_low p a s h = rw (character_low a s h)

-- ---- how a run goes on

pub wide_long : (o : Option ℕ) → 0 < wide o
wide_long none = omega arith
wide_long (some c) = utf8_long c

drop-wide : (a : ℕ) (s : List ℕ) → drop (wide (character (a ∷ s))) (a ∷ s) ≡ drop (pred (wide (character (a ∷ s)))) s
drop-wide a s = go (wide (character (a ∷ s))) (wide_long (character (a ∷ s)))
  where
    go : (n : ℕ) → 0 < n → drop n (a ∷ s) ≡ drop (pred n) s
    go zero h = absurd (omega arith)
    go (suc n) h = refl

pub run_skip : (p : ℕ → Bool) (k : ℕ) (s : List ℕ) → run p k s ≡ run p 0 (drop k s)
unfolding run
run_skip p zero [] = refl
run_skip p (suc k) [] = refl
run_skip p zero (a ∷ s) = refl
run_skip p (suc k) (a ∷ s) = run_skip p k s

pub run_step : (p : ℕ → Bool) (s : List ℕ) → starts p s ≡ true → run p 0 s ≡ run p 0 (drop (wide (character s)) s)
unfolding run
run_step p [] h = run_skip p (wide (character [])) []
run_step p (a ∷ s) h = rw (h, drop-wide a s) (run_skip p _ s)

pub run_stop : (p : ℕ → Bool) (s : List ℕ) → starts p s ≡ false → run p 0 s ≡ s
unfolding run
run_stop p [] h = refl
run_stop p (a ∷ s) h = rw h

pub run_low : (p : ℕ → Bool) (a : ℕ) (s : List ℕ) → a < 0x80 → run p 0 (a ∷ s) ≡ cond (p a) (run p 0 s) (a ∷ s)
unfolding run
run_low p a s h = rw (starts_low p a s h, character_low a s h, utf8_low a h)

-- ---- what a run reads, and what it leaves

-- what holds where a run stops, and before a character if it holds after it, holds of a run
module _ (p : ℕ → Bool) (Q : List ℕ → List ℕ → Type 0) (stop : (s : List ℕ) → starts p s ≡ false → Q s s)
    (step : (s m t : List ℕ) → Reads (char p) s m → Q m t → Q s t) where
  run_from : (k : ℕ) (s : List ℕ) → Q (drop k s) (run p k s)
  unfolding run
  run_from zero [] = stop [] (starts_nil p)
  run_from (suc k) [] = stop [] (starts_nil p)
  run_from (suc k) (a ∷ s) = run_from k s
  run_from zero (a ∷ s) = go (starts p (a ∷ s)) refl (run_from (pred (wide (character (a ∷ s)))) s)
    where
      go : (b : Bool) → starts p (a ∷ s) ≡ b
          → Q (drop (pred (wide (character (a ∷ s)))) s) (run p (pred (wide (character (a ∷ s)))) s)
          → Q (a ∷ s) (cond b (run p (pred (wide (character (a ∷ s)))) s) (a ∷ s))
      go true h q = step (a ∷ s) _ _ (starts_reads p (a ∷ s) h) (rw (drop-wide a s) q)
      go false h q = stop (a ∷ s) h

  pub run_holds : (s : List ℕ) → Q s (run p 0 s)
  run_holds s = run_from 0 s

module _ (p : ℕ → Bool) where
  pub run_reads : (s : List ℕ) → Star (Reads (char p)) s (run p 0 s)
  run_reads = run_holds p (Star (Reads (char p))) (λ s h. done) (λ s m t r rs. more r rs)

  pub run_stops : (s : List ℕ) → starts p (run p 0 s) ≡ false
  run_stops = run_holds p (λ s t. starts p t ≡ false) (λ s h. h) (λ s m t r h. h)

  pub run_only : {s t : List ℕ} → Star (Reads (char p)) s t → starts p t ≡ false → run p 0 s ≡ t
  run_only {s} done n = run_stop p s n
  run_only (more {s} {m} {t} r rs) n =
      run_step p s (reads_starts p s m r) ∙ ap (run p 0) (reads_rest p s m r) ∙ run_only rs n

  -- ---- what is left is an end of the bytes

  pub run_suffix : (s : List ℕ) → (w : List ℕ) × (s ≡ w ++ run p 0 s)
  run_suffix =
      run_holds p (λ s t. (w : List ℕ) × (s ≡ w ++ t)) (λ s h. ([], refl))
      (λ s m t (c, _, _, e) (w, q). (utf8 c ++ w, e ∙ ap (λ (l : List ℕ). utf8 c ++ l) q ∙ sym (append_assoc (utf8 c) w t)))

  run_count : (s : List ℕ) → length s ≡ length (run_suffix s).0 + length (run p 0 s)
  run_count s = ap length (run_suffix s).1 ∙ length-append (run_suffix s).0 (run p 0 s)

  pub run_length : (s : List ℕ) → length (run p 0 s) ≤ length s
  run_length s = omega (arith, run_count s)

  pub run_drop : (s : List ℕ) → drop (length s - length (run p 0 s)) s ≡ run p 0 s
  run_drop s =
      let n = length s - length (run p 0 s) in
      ap (drop n) (run_suffix s).1 ∙ drop_at (run_suffix s).0 (run p 0 s) n (omega (arith, run_count s))
