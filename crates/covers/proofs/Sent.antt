-- A sending by bits. In order: on plain paths the bits' test is that of the definition, `lays_same`; the fit of a narrow step is that of
-- the wide steps that may go there, `fit_is`; a run of states tells which paths can be laid, `run_laid`. Then the laws of the code: steps
-- that go far; a narrow line, step by step.
use mathlib.Core.Path.{◌≡◌, refl, sym, ap, ap₂, ◌∙◌}
use mathlib.Core.Bool.{Bool, true, false, cond, not, false≢true, ◌&&◌, ◌||◌, and_comm}
use mathlib.Core.List.{List, [], ◌∷◌, ◌++◌, append_assoc, map}
use mathlib.Core.Option.{Option as Maybe, none, some}
use Prim.Native.Nat.{ℕ, zero, suc, ◌+◌, ◌-◌, ◌*◌, ◌^◌, ◌≤◌, ◌<◌}
use native.Mathlib.Omega.{arith}
use lib.ListN.{length, take, drop, get_or, set, replicate, length-append}
use lib.Bits.{bit_and}
use Rattle.std.specs.Prelude.{Option, None, Some}
use Rattle.xml.specs.Productions.{same}
use Rattle.paths.specs.Path.{Test, any, named, Step, Path, All, print_kind, print_test, print_step, test_size, ProperTest, Proper, Good}
use Rattle.paths.specs.Reader.{Run, step_at, steps}
use Rattle.paths.specs.Place.{step_placed, step_end_at}
use Rattle.paths.specs.Judge.{list_paths}
use Rattle.paths.specs.declared.Kind.{Kind}
use Rattle.paths.specs.declared.Kind.TheVariants.{Child, Descendant, SelfStep, DescendantOrSelf}
use Rattle.paths.specs.declared.Step.{Step as PlacedStep}
use Rattle.paths.proofs.Names.{name_long}
use Rattle.paths.proofs.Print.{read_inside}
use Rattle.paths.proofs.Steps.{step_undoes, step_long, steps_none}
use Rattle.paths.proofs.Meaning.{paths_print}
use Rattle.paths.proofs.Here.{StepHere, step_none, step_here}
use Rattle.compiled.specs.Kinds.{goes, far}
use Rattle.compiled.specs.Bits.{bit, bits_of, step_bits, column, passes, fit_of, far_of}
use Rattle.compiled.specs.Built.{listed}
use Rattle.compiled.proofs.Alls.{all_map}
use Rattle.compiled.proofs.Bits.{column_long, column_get, column_alike}
use Rattle.matcher.specs.Test.{lays}
use Rattle.matcher.specs.Fit.{fit_for, Serves}
use Rattle.matcher.specs.State.{fresh_state, deeper_of, down, selecting_by}
use Rattle.matcher.specs.declared.fit.Fit.{Fit}
use Rattle.matcher.specs.declared.state.MatchState.{MatchState}
use Rattle.matcher.proofs.Digits.{and_bits}
use Rattle.matcher.proofs.Fill.{Filled, fill_start, fill_more, fill_end}
use Rattle.matcher.proofs.Verdicts.{selecting_laid}
use Rattle.covers.specs.Cover.{is_plain, plain}
use Rattle.covers.specs.Test.{is_child, wider, sends_to}
use Rattle.covers.specs.Sending.{sends_by, send_fit, far_only, fit_by, run_bits, sent_bits}
use Rattle.covers.proofs.Picking.{plain_first, plain_rest, staying-plain}

-- ---- plain paths

kinds_same : (k l : Kind) → is_plain k ≡ true → is_plain l ≡ true → (is_child l || far k) ≡ (not (is_child k) || is_child l)
kinds_same Child Child p q = refl
kinds_same Child Descendant p q = refl
kinds_same Child SelfStep p q = absurd (false≢true q)
kinds_same Child DescendantOrSelf p q = absurd (false≢true q)
kinds_same Descendant Child p q = refl
kinds_same Descendant Descendant p q = refl
kinds_same Descendant SelfStep p q = absurd (false≢true q)
kinds_same Descendant DescendantOrSelf p q = absurd (false≢true q)
kinds_same SelfStep l p q = absurd (false≢true p)
kinds_same DescendantOrSelf l p q = absurd (false≢true p)

sends_same : (s t : Step) → is_plain s.kind ≡ true → is_plain t.kind ≡ true → sends_by s t ≡ sends_to s t
sends_same s t p q = ap (λ (b : Bool). b && wider s.test t.test) (kinds_same s.kind t.kind p q)

pub lays_same : (a b : List Step) → plain a ≡ true → plain b ≡ true → lays sends_by a b ≡ lays sends_to a b
lays_same [] [] p q = refl
lays_same [] (s ∷ ss) p q = refl
lays_same (t ∷ ts) [] p q = refl
lays_same (t ∷ ts) (s ∷ ss) p q =
    let r = plain_rest t ts p in
    let u = plain_rest s ss q in
    ap (λ (b : Bool). goes s.kind && b)
    (ap₂ (λ (b c : Bool). b || c)
    (ap₂ (λ (b c : Bool). b && c) (sends_same s t (plain_first s ss q) (plain_first t ts p))
    (staying-plain sends_by t (lays sends_by ts) ss u ∙ lays_same ts ss r u ∙ sym (staying-plain sends_to t (lays sends_to ts) ss u)))
    (ap (λ (b : Bool). far s.kind && b) (lays_same ts (s ∷ ss) r q)))

-- ---- the fit of a narrow step

-- its name, and no byte for `*`
abbrev name_for : Test → List ℕ
name_for any = []
name_for (named m) = m

-- no wide name is empty
unnamed : (m : List ℕ) → 0 < length m → same m [] ≡ false
unnamed [] l = absurd (let z : 0 < 0 = l in omega arith)
unnamed (b ∷ m) l = refl

passes_wide : (s t : Test) → ProperTest s → passes (name_for t) s ≡ wider s t
passes_wide any t o = refl
passes_wide (named m) any o = unnamed m (name_long m o.name)
passes_wide (named m) (named n) o = refl

-- what holds of each step of each path
each_step : {P : Step → Type 0} → ((s : Step) → Proper s → P s) → (ps : List Path) → All Good ps → All (λ p. All P p.steps) ps
each_step f ps good = all_map (λ p g. all_map f g.path.each) good

bits_and : (f g h : Step → Bool) → ((s : Step) → f s && g s ≡ h s) → (ss : List Step)
    → bit_and (bits_of (map f ss)) (bits_of (map g ss)) ≡ bits_of (map h ss)
bits_and f g h e [] = refl
bits_and f g h e (s ∷ ss) =
    and_bits (f s) (bits_of (map f ss)) (g s) (bits_of (map g ss))
    ∙ ap₂ (λ (b : Bool) (k : ℕ). bit b + 2 * k) (e s) (bits_and f g h e ss)

listed_later : (f : ℕ → ℕ) (i n : ℕ) → listed f (suc i) n ≡ listed (λ k. f (suc k)) i n
listed_later f i zero = refl
listed_later f i (suc n) = ap (λ (l : List ℕ). f (suc i) ∷ l) (listed_later f (suc i) n)

-- a list is its entries
listed_own : (l : List ℕ) (n : ℕ) → length l ≡ n → (f : ℕ → ℕ) → ((i : ℕ) → f i ≡ get_or l i 0) → listed f 0 n ≡ l
listed_own [] zero z f e = refl
listed_own [] (suc n) z f e = absurd (omega arith)
listed_own (x ∷ l) zero z f e = absurd (omega arith)
listed_own (x ∷ l) (suc n) z f e =
    ap₂ (λ (y : ℕ) (ys : List ℕ). y ∷ ys) (e 0)
    (listed_later f 0 n ∙ listed_own l n (omega arith) (λ k. f (suc k)) (λ i. e (suc i)))

module _ (ws : List Path) (few : length ws ≤ 32) (good : All Good ws) (x : Step) where
  abbrev wide : Step → Bool
  wide s = wider s.test x.test

  passes_are : fit_of ws (name_for x.test) ≡ column (step_bits wide) ws
  unfolding fit_of
  passes_are =
      column_alike (λ s. passes (name_for x.test) s.test) wide ws
      (each_step (λ s o. passes_wide s.test x.test o.test) ws good)

  -- those that go far among them
  far_are : listed (λ p. bit_and (get_or (fit_of ws (name_for x.test)) p 0) (get_or (far_of ws) p 0)) 0 32
      ≡ column (step_bits (λ s. far s.kind && wide s)) ws
  unfolding far_of
  far_are =
      listed_own (column (step_bits (λ s. far s.kind && wide s)) ws) 32 (column_long _ ws few) _
      (λ i. ap (λ (l : List ℕ). bit_and (get_or l i 0) (get_or (column (step_bits (λ s. far s.kind)) ws) i 0)) passes_are
      ∙ ap₂ bit_and (column_get (step_bits wide) ws i) (column_get (step_bits (λ s. far s.kind)) ws i)
      ∙ go ws i
      ∙ sym (column_get (step_bits (λ s. far s.kind && wide s)) ws i))
    where
      go : (ps : List Path) (i : ℕ)
          → bit_and (get_or (map (step_bits wide) ps) i 0) (get_or (map (step_bits (λ s. far s.kind)) ps) i 0)
          ≡ get_or (map (step_bits (λ s. far s.kind && wide s)) ps) i 0
      go [] i = refl
      go (p ∷ ps) zero =
          bits_and wide (λ s. far s.kind) (λ s. far s.kind && wide s) (λ s. and_comm (wide s) (far s.kind)) p.steps
      go (p ∷ ps) (suc i) = go ps i

  fit_is : fit_by ws x.kind (name_for x.test) ≡ send_fit ws x
  unfolding fit_by far_only fit_for
  fit_is = go (is_child x.kind) refl
    where
      with : List ℕ → Fit
      with l =
          record {
            passes = l;
            stays = (send_fit ws x).stays;
            goes = (send_fit ws x).goes;
            far = (send_fit ws x).far;
            lasts = (send_fit ws x).lasts;
            marks = (send_fit ws x).marks;
          }

      go : (b : Bool) → is_child x.kind ≡ b
          → cond b (fit_for ws (name_for x.test)) (far_only (fit_for ws (name_for x.test))) ≡ send_fit ws x
      go true e =
          ap with passes_are
          ∙ ap (λ (b : Bool). with (column (step_bits (λ s. (b || far s.kind) && wide s)) ws)) (sym e)
      go false e =
          ap with far_are
          ∙ ap (λ (b : Bool). with (column (step_bits (λ s. (b || far s.kind) && wide s)) ws)) (sym e)

-- ---- a run of states

down_more : {A : Type 0} (fit : A → Fit) (m : MatchState) (xs : List A) (x : A)
    → deeper_of (down fit m xs) (fit x) ≡ down fit m (xs ++ x ∷ [])
down_more fit m [] x = refl
down_more fit m (y ∷ xs) x = down_more fit (deeper_of m (fit y)) xs x

module _ (ws : List Path) (few : length ws ≤ 32) (short : All (λ p. length p.steps ≤ 16) ws) where
  run_more : (above : List Step) (bits : ℕ) (x : Step) (xs : List Step)
      → run_bits ws (down (send_fit ws) fresh_state above) bits (x ∷ xs)
      ≡ bits_of (map (λ q. lays sends_by (above ++ x ∷ xs) q.steps) ws)
  run_more above bits x [] =
      selecting_laid (λ s t. sends_by s t ≡ true) sends_by (λ s t. (λ h. h, λ h. h)) ws few short above x
  run_more above bits x (y ∷ xs) =
      let at = selecting_by (down (send_fit ws) fresh_state above) (send_fit ws x) in
      ap (λ (m : MatchState). run_bits ws m at (y ∷ xs)) (down_more (send_fit ws) fresh_state above x)
      ∙ run_more (above ++ x ∷ []) at y xs
      ∙ ap (λ (ss : List Step). bits_of (map (λ q. lays sends_by ss q.steps) ws)) (append_assoc above (x ∷ []) (y ∷ xs))

  -- for a path, which has a step
  pub run_laid : (ss : List Step) → 0 < length ss → run_bits ws fresh_state 0 ss ≡ bits_of (map (λ q. lays sends_by ss q.steps) ws)
  run_laid [] l = absurd (let z : 0 < 0 = l in omega arith)
  run_laid (x ∷ xs) l = run_more [] 0 x xs

-- ---- steps that go far

pub record Masking (passes far bits : List ℕ) (p : ℕ) : Type 0 where
  pub filled : Filled (λ k. bit_and (get_or passes k 0) (get_or far k 0)) bits p

pub mask_start : (passes far : List ℕ) → Masking passes far (replicate 32 0) 0
mask_start passes far = record { filled = fill_start (λ k. bit_and (get_or passes k 0) (get_or far k 0)) }

pub mask_more : {passes far bits : List ℕ} {p : ℕ} → Masking passes far bits p → p < 32
    → Masking passes far (set bits p (bit_and (get_or passes p 0) (get_or far p 0))) (p + 1)
mask_more v l = record { filled = fill_more v.filled l refl }

pub mask_end : (f : Fit) {bits : List ℕ} {p : ℕ} → Masking f.passes f.far bits p → 32 ≤ p
    → record { passes = bits; stays = f.stays; goes = f.goes; far = f.far; lasts = f.lasts; marks = f.marks } ≡ far_only f
unfolding far_only
mask_end f v l =
    ap (λ (l : List ℕ). record { passes = l; stays = f.stays; goes = f.goes; far = f.far; lasts = f.lasts; marks = f.marks })
    (fill_end v.filled l)

pub ruleset masking = (mask_start, mask_more, mask_end)

-- ---- a narrow step

pub fit_child : (ws : List Path) (n : List ℕ) {k : Kind} {f : Fit} → k ≡ Child → f ≡ fit_for ws n → f ≡ fit_by ws k n
unfolding fit_by
fit_child ws n e q = rw e q

pub fit_descendant : (ws : List Path) (n : List ℕ) {k : Kind} {f r : Fit} → k ≡ Descendant → f ≡ fit_for ws n → r ≡ far_only f
    → r ≡ fit_by ws k n
unfolding fit_by
fit_descendant ws n e q h = rw e (h ∙ ap far_only q)

pub fit_self : (ws : List Path) (n : List ℕ) {k : Kind} {f r : Fit} → k ≡ SelfStep → f ≡ fit_for ws n → r ≡ far_only f → r ≡ fit_by ws k n
unfolding fit_by
fit_self ws n e q h = rw e (h ∙ ap far_only q)

pub fit_or_self : (ws : List Path) (n : List ℕ) {k : Kind} {f r : Fit} → k ≡ DescendantOrSelf → f ≡ fit_for ws n → r ≡ far_only f
    → r ≡ fit_by ws k n
unfolding fit_by
fit_or_self ws n e q h = rw e (h ∙ ap far_only q)

pub ruleset fitting = (fit_child, fit_descendant, fit_self, fit_or_self)

-- ---- a narrow line, step by step

-- the name of a step is inside the list
step_name : (d : List ℕ) (at : ℕ) {r : Option PlacedStep} → r ≡ step_end_at d at → {y : PlacedStep} → r ≡ Some y
    → y.name + y.len ≤ length d
unfolding step_end_at print_step
step_name d at q {y} f = go (step_at (drop at d)) refl (sym f ∙ q)
  where
    size : (x : Test) → test_size x ≤ length (print_test x)
    size any = omega arith
    size (named m) = omega arith

    go : (o : Maybe Step) → step_at (drop at d) ≡ o → Some y ≡ step_placed at o → y.name + y.len ≤ length d
    go none e z = absurd (let z : ◌≡◌ {A = ℕ} 0 1 = cc in omega arith)
    go (some x) e z =
        let a : y.name ≡ at + length (print_kind x.kind) = cc in
        let b : y.len ≡ test_size x.test = cc in
        let i = read_inside step_undoes step_long d at e in
        let u = size x.test in
        let w = length-append (print_kind x.kind) (print_test x.test) in
        omega arith

-- what a run from here on gives is what it gives from the line's front
pub record Sending (wide narrow : List ℕ) (at i : ℕ) (state : MatchState) (bits : ℕ) : Type 0 where
  pub run : run_bits (list_paths wide) state bits (steps (drop i narrow)).all ≡ sent_bits (list_paths wide) narrow at
  pub inside : i ≤ length narrow
  pub bytes : length narrow ≤ 8192

pub send_start : (wide : List ℕ) {narrow : List ℕ} {at : ℕ} → at ≤ length narrow → length narrow ≤ 8192 → {m : MatchState}
    → m ≡ fresh_state → Sending wide narrow at at m 0
unfolding sent_bits
send_start wide {narrow} {at} l b e = record { run = rw e refl; inside = l; bytes = b }

module _ {wide narrow : List ℕ} {at i : ℕ} {state : MatchState} {bits : ℕ} (v : Sending wide narrow at i state bits)
    {r : Option PlacedStep} (q : r ≡ step_end_at narrow i) where
  module _ {y : PlacedStep} (f : r ≡ Some y) where
    here : StepHere narrow i y
    here = step_here narrow i q f

    pub send_less : length narrow - y.end < length narrow - i
    send_less = omega (arith, here.on, here.inside)

    pub send_name : y.name + y.len ≤ length narrow
    send_name = step_name narrow i q f

    pub send_sum : y.name + y.len < 2 ^ 64
    send_sum = let z = send_name in let u : 2 ^ 64 ≡ 18446744073709551616 = refl in omega (arith, v.bytes)

    name_is : take (y.name + y.len - y.name) (drop y.name narrow) ≡ name_for here.step.test
    name_is =
        let z : y.name + y.len - y.name ≡ y.len = omega arith in
        rw z (go here.step.test refl)
      where
        go : (x : Test) → here.step.test ≡ x → take y.len (drop y.name narrow) ≡ name_for x
        go any e = let z : y.len ≡ 0 = here.size ∙ ap test_size e in rw z
        go (named m) e = here.bytes m e

    pub send_on : {t : List ℕ} → Serves wide t → {fit : Fit}
        → fit ≡ fit_by (list_paths wide) y.kind (take (y.name + y.len - y.name) (drop y.name narrow))
        → {b : ℕ} → b ≡ selecting_by state fit → {m : MatchState} → m ≡ deeper_of state fit → Sending wide narrow at y.end m b
    send_on s {fit} p {b} e {m} g =
        let ws = list_paths wide in
        let x = here.step in
        let z = paths_print wide s.sound in
        let o : fit ≡ send_fit ws x =
        p ∙ ap₂ (fit_by ws) here.kind name_is ∙ fit_is ws z.2 z.1 x in
        record {
          run =
              ap₂ (λ (u : MatchState) (c : ℕ). run_bits ws u c (steps (drop y.end narrow)).all) (g ∙ ap (deeper_of state) o)
              (e ∙ ap (selecting_by state) o)
              ∙ ap (λ (y : Run Step). run_bits ws state bits y.all) (sym here.runs)
              ∙ v.run;
          inside = here.inside;
          bytes = v.bytes;
        }

  pub send_end : r ≡ None → bits ≡ sent_bits (list_paths wide) narrow at
  send_end f =
      let n = steps_none (drop i narrow) (step_none narrow i q f) in
      ap (λ (y : Run Step). run_bits (list_paths wide) state bits y.all) (sym n) ∙ v.run

pub ruleset sending = (send_start, send_less, send_name, send_sum, send_on, send_end)
