-- Readers of printed things, and runs of them. In order: what a reader does; how a run goes on and where it stops; a run finds what was
-- printed, and nothing else; what is read at a place ends inside, and a run goes on from there.
use mathlib.Core.Path.{◌≡◌, refl, sym, ap, ◌∙◌}
use mathlib.Core.List.{List, [], ◌∷◌, ◌++◌, append_assoc, append-nil}
use mathlib.Core.Option.{Option, none, some}
use Prim.Native.Nat.{ℕ, zero, suc, pred, ◌+◌, ◌≤◌, ◌<◌}
use native.Mathlib.Omega.{arith}
use lib.ListN.{length, drop, length-append, length-drop}
use lib.Seq.{drop-drop, drop-append_seam}
use Rattle.paths.specs.Path.{print_all, All, none as nil, more}
use Rattle.paths.specs.Reader.{Run, cons, next, read_all}

-- x is printed at the front of s, and may be followed by what stands there then
pub record Printed {A : Type 0} (print : A → List ℕ) (Ok : A → Type 0) (After : A → List ℕ → Type 0) (s : List ℕ) (x : A) : Type 0 where
  pub rest : List ℕ
  pub prints : s ≡ print x ++ rest
  pub ok : Ok x
  pub after : After x rest

-- `read` gives back x from what x prints as, and only so. `Ok x`: x may be printed; `After x t`: t may follow it
pub record Undoes {A : Type 0} (print : A → List ℕ) (Ok : A → Type 0) (After : A → List ℕ → Type 0) (read : List ℕ → Option A)
    : Type 0 where
  pub sound : (s : List ℕ) (x : A) → read s ≡ some x → Printed print Ok After s x
  pub complete : (x : A) (t : List ℕ) → Ok x → After x t → read (print x ++ t) ≡ some x

-- a thing that is printed at the front has some bytes there
front_some : {s : List ℕ} (w t : List ℕ) → s ≡ w ++ t → 0 < length w → 0 < length s
front_some w t q l = let z = ap length q ∙ length-append w t in omega arith

-- what is left once all of w is passed, the first byte already
passed : (b : ℕ) (s w t : List ℕ) → 0 < length w → b ∷ s ≡ w ++ t → drop (pred (length w)) s ≡ t
passed b s [] t l q = absurd (let z : 0 < 0 = l in omega arith)
passed b s (y ∷ w) t l q = ap (λ (v : List ℕ). drop (length w) (drop 1 v)) q ∙ drop-append_seam w t

-- ---- how a run goes on

module _ {A : Type 0} (print : A → List ℕ) (read : List ℕ → Option A) where
  run_skip : (k : ℕ) (s : List ℕ) → read_all print read k s ≡ read_all print read 0 (drop k s)
  unfolding read_all
  run_skip zero [] = refl
  run_skip (suc k) [] = refl
  run_skip zero (b ∷ s) = refl
  run_skip (suc k) (b ∷ s) = run_skip k s

  pub run_none : (s : List ℕ) → read s ≡ none → read_all print read 0 s ≡ record { all = []; rest = s }
  unfolding read_all
  run_none [] e = refl
  run_none (b ∷ s) e = rw e

  pub run_some : (s : List ℕ) (x : A) (t : List ℕ) → s ≡ print x ++ t → 0 < length (print x) → read s ≡ some x
      → read_all print read 0 s ≡ cons x (read_all print read 0 t)
  unfolding read_all
  run_some [] x t q l e = absurd (let z = front_some (print x) t q l in omega arith)
  run_some (b ∷ s) x t q l e =
      rw e (ap (cons x) (run_skip (pred (length (print x))) s ∙ ap (read_all print read 0) (passed b s (print x) t l q)))

-- ---- what a run finds

-- s is printed by what the run found and what it left, at which nothing is read
pub record Found {A : Type 0} (print : A → List ℕ) (Ok : A → Type 0) (read : List ℕ → Option A) (s : List ℕ) (r : Run A) : Type 0 where
  pub prints : s ≡ print_all print r.all ++ r.rest
  pub each : All Ok r.all
  pub stops : read r.rest ≡ none

-- the same things, and then what the run r has
abbrev pub prepend : {A : Type 0} → List A → Run A → Run A
prepend xs r = record { all = xs ++ r.all; rest = r.rest }

module _ {A : Type 0} {print : A → List ℕ} {Ok : A → Type 0} {After : A → List ℕ → Type 0} {read : List ℕ → Option A}
    (u : Undoes print Ok After read) (long : (x : A) → 0 < length (print x)) where
  pub reads_nil : read [] ≡ none
  reads_nil = go (read []) refl
    where
      go : (o : Option A) → read [] ≡ o → o ≡ none
      go none e = refl
      go (some x) e =
          let p = u.sound [] x e in
          absurd (let z = front_some (print x) p.rest p.prints (long x) in omega arith)

  pub run_found : (k : ℕ) (s : List ℕ) → Found print Ok read (drop k s) (read_all print read k s)
  unfolding read_all
  run_found zero [] = record { prints = refl; each = nil; stops = reads_nil }
  run_found (suc k) [] = record { prints = refl; each = nil; stops = reads_nil }
  run_found (suc k) (b ∷ s) = run_found k s
  run_found zero (b ∷ s) = go (read (b ∷ s)) refl (λ k. run_found k s)
    where
      go : (o : Option A) → read (b ∷ s) ≡ o → ((k : ℕ) → Found print Ok read (drop k s) (read_all print read k s))
          → Found print Ok read (b ∷ s) (next print o (b ∷ s) (λ k. read_all print read k s))
      go none e later = record { prints = refl; each = nil; stops = e }
      go (some x) e later =
          let p = u.sound (b ∷ s) x e in
          let r = later (pred (length (print x))) in
          let z : drop (pred (length (print x))) s ≡ p.rest = passed b s (print x) p.rest (long x) p.prints in
          record {
            prints = p.prints ∙ ap (λ (v : List ℕ). print x ++ v) (sym z ∙ r.prints) ∙ sym (append_assoc (print x) _ _);
            each = more p.ok r.each;
            stops = r.stops;
          }

  -- a run over what is printed, and then over what follows
  module _ (t : List ℕ) (after : (x : A) (xs : List A) → After x (print_all print xs ++ t)) where
    pub run_print : (xs : List A) → All Ok xs → read_all print read 0 (print_all print xs ++ t) ≡ prepend xs (read_all print read 0 t)
    run_print [] nil = refl
    run_print (x ∷ xs) (more ok oks) =
        rw append_assoc
        (run_some print read _ x (print_all print xs ++ t) refl (long x) (u.complete x _ ok (after x xs))
        ∙ ap (cons x) (run_print xs oks))

    pub run_whole : (xs : List A) → All Ok xs → read t ≡ none
        → read_all print read 0 (print_all print xs ++ t) ≡ record { all = xs; rest = t }
    run_whole xs ok e = run_print xs ok ∙ ap (prepend xs) (run_none print read t e) ∙ rw (append-nil xs)

  -- at a place
  module _ (d : List ℕ) (at : ℕ) {x : A} (e : read (drop at d) ≡ some x) where
    pub read_inside : at + length (print x) ≤ length d
    read_inside =
        let p = u.sound (drop at d) x e in
        let l = long x in
        omega (arith, length-drop at d, ap length p.prints ∙ length-append (print x) p.rest)

    pub read_prints : drop at d ≡ print x ++ drop (at + length (print x)) d
    read_prints =
        let p = u.sound (drop at d) x e in
        let z : drop (at + length (print x)) d ≡ p.rest =
        sym (drop-drop (length (print x)) at d) ∙ ap (drop (length (print x))) p.prints ∙ drop-append_seam (print x) p.rest in
        p.prints ∙ ap (λ (v : List ℕ). print x ++ v) (sym z)

    pub run_cons : read_all print read 0 (drop at d) ≡ cons x (read_all print read 0 (drop (at + length (print x)) d))
    run_cons = run_some print read (drop at d) x (drop (at + length (print x)) d) read_prints (long x) e
