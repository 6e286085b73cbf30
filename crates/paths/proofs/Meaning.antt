-- `list_answer` is the answer that specs/Answer.antt says, and the only one; and printing and reading undo each other. In order: the
-- readers in the words of the answer; one answer only (`says_only`); an answer always (`says`); lists and their paths.
use mathlib.Core.Path.{◌≡◌, refl, sym, ap, ◌∙◌}
use mathlib.Core.Bool.{Bool, true, false, cond}
use mathlib.Core.List.{List, [], ◌∷◌, ◌++◌, append_assoc, append-nil}
use mathlib.Core.Option.{Option, none, some, none-ne-some}
use Prim.Native.Nat.{ℕ, zero, suc, ◌+◌, ◌≤◌, ◌<◌}
use native.Mathlib.Omega.{arith}
use borrow.Author.Tests.{leb-true, leb-false, lt-leb, ltb-true, ltb-false, lt-ltb, le-ltb}
use lib.Dec.{ltb, leb}
use lib.ListN.{length, take, drop, length-append, length-drop}
use lib.Seq.{length-take-le}
use Rattle.std.specs.Prelude.{Result, Ok, Err}
use Rattle.paths.specs.Path.{Path, print_all, print_line, print_list, All, none as nil, more, Within, Good}
use Rattle.paths.specs.Answer.{NoLine, LargeLine, Before, Says, long, sound, malformed, large, past}
use Rattle.paths.specs.Reader.{Run, line_at}
use Rattle.paths.specs.Judge.{within, sound_at, lines, fault_of, judge_rest, judge, list_answer, list_paths}
use Rattle.paths.specs.declared.ListError.{ListError}
use Rattle.paths.specs.declared.ListError.TheVariants.{TooLong, TooLarge}
use Rattle.paths.proofs.Print.{prepend}
use Rattle.paths.proofs.Lines.{line_long, line_undoes, test_within, within_test}
use Rattle.paths.proofs.Lines.{sound_nil, lines_found, lines_print, lines_whole}

-- ---- the readers in the words of the answer

cons_some : (b : ℕ) (t : List ℕ) → b ∷ t ≡ [] → ⊥
cons_some b t q = let z : suc (length t) ≡ 0 = ap length q in omega arith

no_line : (s : List ℕ) → NoLine s → line_at s ≡ none
no_line s n = go (line_at s) refl
  where
    go : (o : Option Path) → line_at s ≡ o → o ≡ none
    go none e = refl
    go (some p) e = let l = line_undoes.sound s p e in absurd (n p l.rest l.ok l.prints)

none_line : (s : List ℕ) → line_at s ≡ none → NoLine s
none_line s e p t ok q = none-ne-some p (sym e ∙ ap line_at q ∙ line_undoes.complete p t ok tt)

no_line_sound : (s : List ℕ) → NoLine s → sound_at s ≡ none
unfolding sound_at
no_line_sound s n = rw (no_line s n)

over_within : (p : Path) → (Within p → ⊥) → within p ≡ false
over_within p n = go (within p) refl
  where
    go : (b : Bool) → within p ≡ b → b ≡ false
    go true e = absurd (n (test_within p e))
    go false e = refl

module _ {s : List ℕ} (l : LargeLine s) where
  large_line : line_at s ≡ some l.path
  large_line = rw l.prints (line_undoes.complete l.path l.rest l.is tt)

  large_sound : sound_at s ≡ none
  unfolding sound_at
  large_sound = rw (large_line, over_within l.path l.over)

  large_some : s ≡ [] → ⊥
  large_some e =
      let z = ap length (sym e ∙ l.prints) ∙ length-append (print_line l.path) l.rest in
      let k = line_long l.path in
      let y : 0 ≡ length (print_line l.path) + length l.rest = z in
      omega arith

line_over : (s : List ℕ) (p : Path) → line_at s ≡ some p → sound_at s ≡ none → Within p → ⊥
unfolding sound_at
line_over s p h e w = none-ne-some p (sym (rw (h, within_test w) at e))

-- ---- one answer only

-- the run r has the lines of s after 32 others, and s is not empty
pub judge_past : (r : Run Path) (s : List ℕ) → (s ≡ [] → ⊥) → 32 + length (lines s).all ≡ length r.all → (lines s).rest ≡ r.rest
    → judge r ≡ Err (TooLarge 33)
unfolding judge
judge_past r s h n q = go (lines s).all (lines s).rest (lines_found s).prints n q
  where
    go : (ps : List Path) (t : List ℕ) → s ≡ print_all print_line ps ++ t → 32 + length ps ≡ length r.all → t ≡ r.rest
        → cond (ltb 32 (length r.all)) (Err (TooLarge 33)) (judge_rest r.rest (length r.all)) ≡ Err (TooLarge 33)
    go [] [] e n q = absurd (h e)
    go [] (b ∷ t) e n q = rw (← n, ← q)
    go (p ∷ ps) t e n q = rw (lt-ltb 32 (length r.all) (omega arith))

judge_few : (ps : List Path) (t : List ℕ) → length ps ≤ 32 → judge (record { all = ps; rest = t }) ≡ judge_rest t (length ps)
unfolding judge
judge_few ps t l = rw (le-ltb 32 (length ps) l)

pub judge_fault : (t : List ℕ) (n : ℕ) → n < 32 → (t ≡ [] → ⊥) → (o : Option Path) → line_at t ≡ o
    → judge_rest t n ≡ Err (fault_of o (n + 1))
judge_fault [] n l h o e = absurd (h refl)
judge_fault (b ∷ t) n l h o e = rw (lt-leb 32 n l, e)

module _ (s : List ℕ) (l : length s ≤ 8192) where
  pub short_answer : list_answer s ≡ judge (lines s)
  unfolding list_answer
  short_answer = rw (le-ltb 8192 (length s) l)

  -- the lines before t are all that are sound
  stopped_answer : (ps : List Path) (t : List ℕ) → Before s ps t → length ps ≤ 32 → sound_at t ≡ none
      → list_answer s ≡ judge_rest t (length ps)
  stopped_answer ps t b n e =
      short_answer ∙ ap judge (ap lines b.prints ∙ lines_whole ps t b.good e) ∙ judge_few ps t n

pub says_only : (s : List ℕ) (a : Result (Unit {0}) ListError) → Says s a → list_answer s ≡ a
unfolding list_answer
says_only s (Err TooLong) (long l) = rw (lt-ltb 8192 (length s) l)
says_only s (Ok tt) (sound l ps b n) = stopped_answer s l ps [] b n sound_nil
says_only s _ (malformed l ps t b n h k) =
    stopped_answer s l ps t b (omega arith) (no_line_sound t k) ∙ judge_fault t (length ps) n h none (no_line t k)
says_only s _ (large l ps t b n k) =
    stopped_answer s l ps t b (omega arith) (large_sound k)
    ∙ judge_fault t (length ps) n (large_some k) (some k.path) (large_line k)
says_only s _ (past l ps t b n h) =
    let m : 32 + length (lines t).all ≡ length (ps ++ (lines t).all) = rw (length-append ps (lines t).all, n) in
    short_answer s l
    ∙ ap judge (ap lines b.prints ∙ lines_print ps t b.good)
    ∙ judge_past (prepend ps (lines t)) t h m refl

-- ---- an answer always

all_take : (n : ℕ) {ps : List Path} → All Good ps → All Good (take n ps)
all_take zero nil = nil
all_take (suc n) nil = nil
all_take zero (more h hs) = nil
all_take (suc n) (more h hs) = more h (all_take n hs)

take_prints : (n : ℕ) (ps : List Path) (t : List ℕ) → print_list ps ++ t ≡ print_list (take n ps) ++ (print_list (drop n ps) ++ t)
unfolding print_list
take_prints zero [] t = refl
take_prints (suc n) [] t = refl
take_prints zero (p ∷ ps) t = refl
take_prints (suc n) (p ∷ ps) t =
    rw (append_assoc (print_line p) (print_list ps) t, append_assoc (print_line p) (print_list (take n ps)) (print_list (drop n ps) ++ t))
    (ap (λ (v : List ℕ). print_line p ++ v) (take_prints n ps t))

prints_some : (ps : List Path) (t : List ℕ) → 0 < length ps → print_list ps ++ t ≡ [] → ⊥
unfolding print_list
prints_some [] t l e = let z : 0 < 0 = l in omega arith
prints_some (p ∷ ps) t l e = let k = line_long p in omega (arith, simp length-append at (ap length e))

lines_before : (s : List ℕ) → Before s (lines s).all (lines s).rest
unfolding print_list
lines_before s = record { prints = (lines_found s).prints; good = (lines_found s).each }

pub says : (s : List ℕ) → Says s (list_answer s)
unfolding list_answer judge
says s = size (ltb 8192 (length s)) refl
  where
    ps : List Path
    ps = (lines s).all

    before : Before s ps (lines s).rest
    before = lines_before s

    ended : length s ≤ 8192 → length ps ≤ 32 → (t : List ℕ) → (lines s).rest ≡ t → Says s (judge_rest t (length ps))
    ended l n [] e = sound l ps (rw e at before) n
    ended l n (b ∷ t) e = full (leb 32 (length ps)) refl
      where
        faulty : length ps < 32 → (o : Option Path) → line_at (b ∷ t) ≡ o → Says s (Err (fault_of o (length ps + 1)))
        faulty m none h = malformed l ps (b ∷ t) (rw e at before) m (cons_some b t) (none_line (b ∷ t) h)
        faulty m (some p) h =
            let k = line_undoes.sound (b ∷ t) p h in
            let over = line_over (b ∷ t) p h (rw e at (lines_found s).stops) in
            large l ps (b ∷ t) (rw e at before) m
            (record { path = p; rest = k.rest; prints = k.prints; is = k.ok; over = over })

        full : (x : Bool) → leb 32 (length ps) ≡ x → Says s (Err (cond x (TooLarge 33) (fault_of (line_at (b ∷ t)) (length ps + 1))))
        full true h = let z = leb-true 32 (length ps) h in past l ps (b ∷ t) (rw e at before) (omega arith) (cons_some b t)
        full false h = faulty (leb-false 32 (length ps) h) (line_at (b ∷ t)) refl

    many : length s ≤ 8192 → (x : Bool) → ltb 32 (length ps) ≡ x
        → Says s (cond x (Err (TooLarge 33)) (judge_rest (lines s).rest (length ps)))
    many l true h =
        let z = ltb-true 32 (length ps) h in
        past l (take 32 ps) (print_list (drop 32 ps) ++ (lines s).rest)
        (record { prints = before.prints ∙ take_prints 32 ps (lines s).rest; good = all_take 32 before.good })
        (length-take-le 32 ps (omega arith))
        (prints_some (drop 32 ps) (lines s).rest (rw length-drop (omega arith)))
    many l false h = ended l (ltb-false 32 (length ps) h) (lines s).rest refl

    size : (x : Bool) → ltb 8192 (length s) ≡ x → Says s (cond x (Err TooLong) (judge (lines s)))
    size true h = long (ltb-true 8192 (length s) h)
    size false h = many (ltb-false 8192 (length s) h) (ltb 32 (length ps)) refl

-- ---- lists and their paths

lines_printed : (ps : List Path) → All Good ps → (lines (print_list ps)).all ≡ ps
lines_printed ps ok =
    ap (λ (v : List ℕ). (lines v).all) (sym (append-nil (print_list ps)))
    ∙ ap (λ (r : Run Path). r.all) (lines_whole ps [] ok sound_nil)

-- reading a printed list gives its paths
pub read_print : (ps : List Path) → All Good ps → length ps ≤ 32 → length (print_list ps) ≤ 8192 → list_paths (print_list ps) ≡ ps
unfolding list_paths
read_print ps ok n l =
    let b : Before (print_list ps) ps [] = record { prints = sym (append-nil (print_list ps)); good = ok } in
    rw (says_only (print_list ps) (Ok tt) (sound l ps b n)) (lines_printed ps ok)

-- two lists of good paths that print the same are the same
pub print_once : (ps qs : List Path) → All Good ps → All Good qs → print_list ps ≡ print_list qs → ps ≡ qs
print_once ps qs ok ok' e = sym (lines_printed ps ok) ∙ ap (λ (v : List ℕ). (lines v).all) e ∙ lines_printed qs ok'

-- a sound list prints as its paths, which are good and at most 32
pub paths_print : (s : List ℕ) → list_answer s ≡ Ok tt
    → (print_list (list_paths s) ≡ s) × All Good (list_paths s) × (length (list_paths s) ≤ 32)
unfolding list_paths
paths_print s e = rw e (go (rw e at (says s)))
  where
    go : Says s (Ok tt) → (print_list (lines s).all ≡ s) × All Good (lines s).all × (length (lines s).all ≤ 32)
    go (sound l ps b n) =
        let p : print_list ps ≡ s = sym (b.prints ∙ append-nil (print_list ps)) in
        let q : (lines s).all ≡ ps = ap (λ (v : List ℕ). (lines v).all) (sym p) ∙ lines_printed ps b.good in
        rw q (p, b.good, n)
