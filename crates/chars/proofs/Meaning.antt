-- Each definition that a contract cites gives an answer that says what specs/Meaning.antt has, and no other answer says it. In order: the
-- check, names, white space.
use mathlib.Core.Path.{◌≡◌, refl, sym, ap, ◌∙◌}
use mathlib.Core.Bool.{Bool, true, false, cond}
use mathlib.Core.List.{List, [], ◌∷◌}
use mathlib.Core.Option.{none, some, none-ne-some, some-injective}
use Prim.Native.Nat.{ℕ, ◌+◌, ◌-◌, ◌≤◌}
use native.Mathlib.Omega.{arith}
use lib.Dec.{leb}
use borrow.Author.Tests.{leb-true, leb-false}
use lib.ListN.{length, get_or, drop, length-drop}
use lib.Seq.{drop-drop}
use Rattle.xml.specs.Notation.{Reads, Star, done, more, char, ◌∗}
use Rattle.xml.specs.Productions.{Char, is_char, is_space, is_name_start, is_name, NameStartChar, NameChar, Name}
use Rattle.xml.specs.Character.{character, starts, wide, run}
use Rattle.xml.proofs.Bools.{true-false}
use Rattle.xml.proofs.Run.{starts_reads, reads_starts, starts_not, starts_nil}
use Rattle.xml.proofs.Run.{run_reads, run_stops, run_only, run_step, run_drop, run_length}
use Rattle.utf8.specs.Place.{ends_at}
use Rattle.chars.specs.Check.{checked_by, check_of}
use Rattle.chars.specs.Name.{name_of, reading_at, name_at}
use Rattle.chars.specs.Space.{space_end}
use Rattle.chars.specs.Meaning.{CheckSays, number_of, NameSays, SpaceSays}
use Rattle.std.specs.Prelude.{Option, Some, None, Result, Ok, Err}
use Rattle.chars.specs.declared.whole.CharError.{CharError}
use Rattle.utf8.proofs.Place.{drop_step, drop_end}

-- ---- no character of a class

not_starts : (p : ℕ → Bool) (s : List ℕ) → ((t : List ℕ) → Reads (char p) s t → ⊥) → starts p s ≡ false
not_starts p s n = go (starts p s) refl
  where
    go : (b : Bool) → starts p s ≡ b → b ≡ false
    go true y = absurd (n _ (starts_reads p s y))
    go false y = refl

-- ---- the check

pub check_says : (d : List ℕ) → CheckSays d (check_of d)
unfolding check_of
check_says d = go (run is_char 0 d) refl
  where
    go : (t : List ℕ) → run is_char 0 d ≡ t → CheckSays d (checked_by (length d) t)
    go [] e = rw (← e) (run_reads is_char d)
    go (a ∷ t) e =
        let n : length d - length (run is_char 0 d) ≡ length d - length (a ∷ t) = ap (λ (l : List ℕ). length d - length l) e in
        let l : length (a ∷ t) ≤ length d = rw e at (run_length is_char d) in
        let r : drop (length d - length (a ∷ t)) d ≡ run is_char 0 d = rw (← n) (run_drop is_char d) in
        (omega arith, rw r (run_reads is_char d), λ m x. starts_not is_char (run is_char 0 d) (run_stops is_char d) m (rw r at x))

pub check_only : (d : List ℕ) (r : Result Unit CharError) → CheckSays d r → r ≡ check_of d
unfolding check_of
check_only d (Ok tt) p = sym (rw (run_only is_char p (starts_nil is_char)))
check_only d (Err e) (l, rs, n) =
    let o = e.valid_up_to in
    let r : run is_char 0 d ≡ drop o d = run_only is_char rs (not_starts is_char (drop o d) n) in
    let w : length d - length (get_or d o 0 ∷ drop (o + 1) d) ≡ o = omega (arith, length-drop (o + 1) d) in
    sym (rw (r, drop_step d o l, w))

-- document 01's number 5 is given exactly where d is not Char*, and its second number is the first place at which no Char stands
pub check_sound : (d : List ℕ) → number_of (check_of d) ≡ 0 → Reads (Char ∗) d []
check_sound d = go (check_of d) (check_says d)
  where
    go : (r : Result Unit CharError) → CheckSays d r → number_of r ≡ 0 → Reads (Char ∗) d []
    go (Ok tt) p e = p
    go (Err o) p e = absurd (let z : ◌≡◌ {A = ℕ} 5 0 = e in omega arith)

pub check_complete : (d : List ℕ) → Reads (Char ∗) d [] → number_of (check_of d) ≡ 0
check_complete d x = ap number_of (sym (check_only d (Ok tt) x))

-- ---- names

start_name : (c : ℕ) → is_name_start c ≡ true → is_name c ≡ true
unfolding is_name
start_name c e = rw e

-- where a run from a place on ends, what it leaves stands
ends_left : (p : ℕ → Bool) (d : List ℕ) (at : ℕ) → drop (ends_at d at (run p 0 (drop at d))) d ≡ run p 0 (drop at d)
unfolding ends_at
ends_left p d at = rw (← drop-drop) (run_drop p (drop at d))

ends_inside : (d : List ℕ) (at : ℕ) (t : List ℕ) → at ≤ length d → ends_at d at t ≤ length d
unfolding ends_at
ends_inside d at t h = omega (arith, length-drop at d)

ends_past : (d : List ℕ) (at : ℕ) (t : List ℕ) → length d ≤ at → ends_at d at t ≡ at
unfolding ends_at
ends_past d at t h = omega (arith, length-drop at d)

ends_is : (d : List ℕ) (at e : ℕ) (t : List ℕ) → drop e d ≡ t → e ≤ length d → at ≤ length d → length t ≤ length (drop at d)
    → e ≡ ends_at d at t
unfolding ends_at
ends_is d at e t q l h n = omega (arith, length-drop at d, length-drop e d, ap length q)

some_left : (p : ℕ → Bool) (d : List ℕ) (at : ℕ) → starts p (drop at d) ≡ true → at ≤ length d
some_left p d at y = go (leb at (length d)) refl
  where
    go : (b : Bool) → leb at (length d) ≡ b → at ≤ length d
    go true e = leb-true _ _ e
    go false e =
        let h = leb-false at (length d) e in
        absurd (true-false (ap (starts p) (sym (drop_end d at (omega arith))) ∙ y) (starts_nil p))

name_run : {s t : List ℕ} → Reads Name s t → Star (Reads NameChar) s t
name_run (m, (c, h, k, e), rs) = more (c, h, start_name c k, e) rs

-- on what is left: `name_of` reads a Name that no NameChar follows, and nothing else
module _ (s t : List ℕ) where
  pub name_found : name_of s ≡ some t → Reads Name s t × (starts is_name t ≡ false)
  unfolding name_of
  name_found e = go (starts is_name_start s) refl e
    where
      go : (b : Bool) → starts is_name_start s ≡ b → cond b (some (run is_name 0 s)) none ≡ some t
          → Reads Name s t × (starts is_name t ≡ false)
      go false n q = absurd (none-ne-some t q)
      go true y q =
          let m = drop (wide (character s)) s in
          let x : Reads NameStartChar s m = starts_reads is_name_start s y in
          let k : starts is_name s ≡ true = reads_starts is_name s m (x.0, x.1, start_name x.0 x.2, x.3) in
          rw (← some-injective _ _ q) ((m, x, rw (run_step is_name s k) (run_reads is_name m)), run_stops is_name s)

  pub name_is : Reads Name s t → starts is_name t ≡ false → name_of s ≡ some t
  unfolding name_of
  name_is x n = rw (reads_starts is_name_start s x.0 x.1) (ap some (run_only is_name (name_run x) n))

pub name_says : (d : List ℕ) (at : ℕ) → NameSays d at (name_at d at)
unfolding name_at name_of
name_says d at = go (starts is_name_start s) refl
  where
    s : List ℕ
    s = drop at d

    go : (b : Bool) → starts is_name_start s ≡ b → NameSays d at (reading_at d at (cond b (some (run is_name 0 s)) none))
    go false n = λ t (m, r, rs). starts_not is_name_start s n m r
    go true y =
        let (x, n) = name_found s (run is_name 0 s) (rw y) in
        rw (ends_left is_name d at)
        (x, ends_inside d at (run is_name 0 s) (some_left is_name_start d at y), λ t z. starts_not is_name (run is_name 0 s) n t z)

pub name_only_lem : (d : List ℕ) (at : ℕ) (r : Option ℕ) → NameSays d at r → r ≡ name_at d at
unfolding name_at name_of
name_only_lem d at None p = sym (rw (not_starts is_name_start (drop at d) no_start))
  where
    no_start : (m : List ℕ) → Reads NameStartChar (drop at d) m → ⊥
    no_start m x = p m (m, x, done)
name_only_lem d at (Some e) (x, l, n) =
    let s = drop at d in
    let r : run is_name 0 s ≡ drop e d = run_only is_name (name_run x) (not_starts is_name (drop e d) n) in
    let y : starts is_name_start s ≡ true = reads_starts is_name_start s x.0 x.1 in
    let w = ends_is d at e (run is_name 0 s) (sym r) l (some_left is_name_start d at y) (run_length is_name s) in
    sym (rw (y, ← w))

-- ---- white space

pub space_says : (d : List ℕ) (at : ℕ) → SpaceSays d at (space_end d at)
unfolding space_end
space_says d at =
    let s = drop at d in
    let q = ends_left is_space d at in
    record {
      reads = rw q (run_reads is_space s);
      no_more = rw q (λ t x. starts_not is_space (run is_space 0 s) (run_stops is_space s) t x);
      inside = ends_inside d at (run is_space 0 s);
      past = ends_past d at (run is_space 0 s);
    }

pub space_only : (d : List ℕ) (at e : ℕ) → SpaceSays d at e → e ≡ space_end d at
unfolding space_end
space_only d at e p = go (leb at (length d)) refl
  where
    s : List ℕ
    s = drop at d

    r : run is_space 0 s ≡ drop e d
    r = run_only is_space p.reads (not_starts is_space (drop e d) p.no_more)

    go : (b : Bool) → leb at (length d) ≡ b → e ≡ ends_at d at (run is_space 0 s)
    go true h =
        let l = leb-true at (length d) h in
        ends_is d at e (run is_space 0 s) (sym r) (p.inside l) l (run_length is_space s)
    go false h =
        let l = leb-false at (length d) h in
        p.past (omega arith) ∙ sym ((space_says d at).past (omega arith))
