-- The laws of reading a line of a sound list. What stands at a place of its path: the steps left, and then the line's end. A path of no
-- step changes no table. The step that is read is the next one of the path, and where none is read none is left.
use mathlib.Core.Path.{◌≡◌, refl, sym, ap, ◌∙◌}
use mathlib.Core.Bool.{Bool, cond}
use mathlib.Core.List.{List, [], ◌∷◌, ◌++◌, append_assoc, append-nil, map}
use mathlib.Core.Option.{none, some}
use Prim.Native.Nat.{ℕ, zero, suc, ◌+◌, ◌-◌, ◌*◌, ◌/◌, ◌^◌, ◌≤◌, ◌<◌}
use native.Mathlib.Nat.{pow-zero, two-pow-succ, add-zero}
use native.Mathlib.Numerals.{add-one}
use native.Mathlib.Omega.{arith}
use lib.ListN.{length, take, drop, get_or, set, length-append, length-map, length-drop, get_or-eq_default}
use lib.Seq.{drop_at, drop-drop, take_at, set-get_or}
use lib.Dec.{eqb}
use Rattle.std.specs.Prelude.{Option, None, Some, Ok}
use Rattle.xml.specs.Language.{Language}
use Rattle.xml.specs.Productions.{Name, is_name_start}
use Rattle.xml.proofs.Bools.{true-false}
use Rattle.xml.proofs.Character.{begins_append}
use Rattle.paths.specs.Path.{Test, any, named, Step, Path, test_size, All, more, ProperTest, Proper, Good}
use Rattle.paths.specs.Path.{print_kind, print_test, print_step, print_all, print_line, print_list}
use Rattle.paths.specs.Reader.{step_at, Ending, ending_of, print_end, path_of}
use Rattle.paths.specs.Place.{step_placed, step_end_at}
use Rattle.paths.specs.Answer.{Says, sound}
use Rattle.paths.specs.Judge.{list_answer}
use Rattle.paths.specs.declared.Kind.{Kind}
use Rattle.paths.specs.declared.Step.{Step as PlacedStep}
use Rattle.paths.proofs.Names.{name_front}
use Rattle.paths.proofs.Steps.{step_undoes, step_long}
use Rattle.paths.proofs.Lines.{line_print, end_no_step, after_step}
use Rattle.paths.proofs.Meaning.{says, paths_print}
use Rattle.compiled.specs.Kinds as kinds
use Rattle.compiled.specs.Bits.{bits_of, step_bits, column, last_bit}
use Rattle.lookup.specs.Names.{names_of, list_names, firsts}
use Rattle.compiled.specs.Compiled.{joined}
use Rattle.compiled.specs.Built.{number_of, number_row, number_rows, test_of, test_in, Built, AtStep, StepDone}
use Rattle.compiled.specs.Line.{AtPath, AtLine, LineDone}
use Rattle.compiled.proofs.Alls.{all_left, all_right, all_map}
use Rattle.compiled.proofs.Bits.{bits_below, bits_snoc, power_16, map_snoc, column_get, column_snoc}
use Rattle.compiled.proofs.Listed.{listed_same}
use Rattle.compiled.proofs.Numbers.{lists_snoc, built_long}

-- a name has a byte
some_name : (m : List ℕ) → Language Name m → test_of (length m) m ≡ named m
unfolding is_name_start
some_name [] o = absurd (true-false (begins_append (0x2A ∷ []) []) (name_front 0x2A (omega arith) refl [] (0x2A ∷ []) o))
some_name (x ∷ m) o = refl

-- a test that stands at a place is read there
test_stands : (d : List ℕ) (a n : ℕ) (x : Test) (t : List ℕ) → ProperTest x → drop a d ≡ print_test x ++ t → n ≡ test_size x
    → test_in d a n ≡ x
unfolding test_in
test_stands d a n x t o e l = rw (e, l) (go x o)
  where
    go : (x : Test) → ProperTest x → test_of (test_size x) (take (test_size x) (print_test x ++ t)) ≡ x
    go any o = refl
    go (named m) o = rw (take_at m t (length m) refl) (some_name m o.name)

-- ---- what is printed

pub print_append : {A : Type 0} (print : A → List ℕ) (xs ys : List A)
    → print_all print (xs ++ ys) ≡ print_all print xs ++ print_all print ys
print_append print [] ys = refl
print_append print (x ∷ xs) ys = rw (print_append print xs ys) (sym (append_assoc (print x) (print_all print xs) (print_all print ys)))

-- the paths done, the steps read, the steps left, the end, the paths after
pub print_parts : (done : List Path) (q : Path) (rest : List Path) (read todo : List Step) → q.steps ≡ read ++ todo
    → print_list (done ++ q ∷ rest)
    ≡ (print_list done ++ print_all print_step read) ++ (print_all print_step todo ++ (print_end (ending_of q) ++ print_list rest))
unfolding print_list
print_parts done q rest read todo e =
    let a = print_all print_step read in
    let b = print_all print_step todo in
    let c = print_end (ending_of q) ++ print_list rest in
    let s : print_all print_step q.steps ≡ a ++ b = rw e (print_append print_step read todo) in
    print_append print_line done (q ∷ rest)
    ∙ ap (λ (l : List ℕ). print_list done ++ l) (line_print q (print_list rest) ∙ ap (λ (l : List ℕ). l ++ c) s)
    ∙ simp append_assoc

pub sound_bytes : (d : List ℕ) → list_answer d ≡ Ok tt → length d ≤ 8192
sound_bytes d e = go (rw e at (says d))
  where
    go : Says d (Ok tt) → length d ≤ 8192
    go (sound l ps b n) = l

module _ {d : List ℕ} {p : ℕ} (v : AtPath d p) where
  pub whole : print_list (v.done ++ v.path ∷ v.rest) ≡ d
  whole = rw v.all at (paths_print d v.sound).0

  good : All Good (v.done ++ v.path ∷ v.rest)
  good = rw v.all at (paths_print d v.sound).1

  pub path_few : p < 32
  path_few =
      let a = rw v.all at (paths_print d v.sound).2 in
      let b = length-append v.done (v.path ∷ v.rest) in
      let c = v.p_is in
      omega arith

  done_few : length v.done < 32
  done_few = rw (← v.p_is) path_few

  pub path_bytes : length d ≤ 8192
  path_bytes = sound_bytes d v.sound

  pub path_good : Good v.path
  path_good = go (all_right v.done (v.path ∷ v.rest) good)
    where
      go : All Good (v.path ∷ v.rest) → Good v.path
      go (more g gs) = g

  done_short : All (λ q. length q.steps ≤ 16) v.done
  done_short = all_map (λ q g. g.within.steps) (all_left v.done (v.path ∷ v.rest) good)

-- ---- a path of no step

module _ (done : List Path) (e : Ending) where
  abbrev empty : Path
  empty = path_of [] e

  names_empty : names_of (done ++ empty ∷ []) ≡ names_of done
  unfolding names_of
  names_empty = ap (firsts []) (lists_snoc 0 done empty ∙ append-nil (list_names 0 done))

  column-empty : (f : Path → ℕ) → f empty ≡ 0 → length done < 32 → column f (done ++ empty ∷ []) ≡ column f done
  column-empty f z l =
      sym (column_snoc f done empty l)
      ∙ ap (set (column f done) (length done)) (z ∙ sym past)
      ∙ set-get_or (column f done) (length done) 0
    where
      past : get_or (column f done) (length done) 0 ≡ 0
      past = column_get f done (length done) ∙ get_or-eq_default (map f done) 0 (rw (length-map done f) (omega arith))

  rows_empty : length done < 32 → number_rows (done ++ empty ∷ []) ≡ number_rows done
  unfolding number_rows number_row
  rows_empty l =
      rw names_empty
      (ap joined
      (listed_same (number_row (names_of done) done) (number_row (names_of done) (done ++ empty ∷ [])) 0 513
      (λ k h. column-empty (step_bits (λ s. eqb (number_of (names_of done) s.test) k)) refl l)))

  built_empty : {d at len head next rows : List ℕ} {names : ℕ} → length done < 32 → Built d at len head next rows names done
      → Built d at len head next rows names (done ++ empty ∷ [])
  built_empty l b =
      record {
        indexed = rw names_empty b.indexed;
        count = rw names_empty b.count;
        rows_are = b.rows_are ∙ sym (rows_empty l);
      }

-- ---- within the line

-- the bits of the steps whose kinds pass a test
abbrev kind_bits : (Kind → Bool) → List Step → ℕ
kind_bits f ss = bits_of (map (λ s. f s.kind) ss)

pub record InLine (d at len head next rows : List ℕ) (names p place bit stays goes far : ℕ) : Type 0 where
  pub here : AtPath d p
  pub read : List Step
  pub todo : List Step
  pub steps_are : here.path.steps ≡ read ++ todo
  pub built : Built d at len head next rows names (here.done ++ path_of read (ending_of here.path) ∷ [])
  pub place_is : place ≡ length (print_list here.done) + length (print_all print_step read)
  pub bit_is : bit ≡ 2 ^ length read
  pub stays_is : stays ≡ kind_bits kinds.stays read
  pub goes_is : goes ≡ kind_bits kinds.goes read
  pub far_is : far ≡ kind_bits kinds.far read

-- the step y that stands at the place
record NextStep (d at len head next rows : List ℕ) (names p place bit stays goes far : ℕ)
    (v : InLine d at len head next rows names p place bit stays goes far) (y : PlacedStep) : Type 0 where
  pub step : Step
  pub later : List Step
  pub todo_is : v.todo ≡ step ∷ later
  pub proper : Proper step
  pub kind_is : y.kind ≡ step.kind
  pub a_is : y.name ≡ place + length (print_kind step.kind)
  pub n_is : y.len ≡ test_size step.test
  pub end_is : y.end ≡ place + length (print_step step)
  pub stands : drop place d
      ≡ print_step step ++ (print_all print_step later ++ (print_end (ending_of v.here.path) ++ print_list v.here.rest))

pub line_start : {d at len head next rows : List ℕ} {names p place : ℕ} → AtLine d at len head next rows names p place
    → InLine d at len head next rows names p place 1 0 0 0
line_start v =
    record {
      here = v.here;
      read = [];
      todo = v.here.path.steps;
      steps_are = refl;
      built = built_empty v.here.done (ending_of v.here.path) (done_few v.here) v.built;
      place_is = v.place_is ∙ sym (add-zero (length (print_list v.here.done)));
      bit_is = sym (pow-zero 2);
      stays_is = refl;
      goes_is = refl;
      far_is = refl;
    }

module _ {d at len head next rows : List ℕ} {names p place bit stays goes far : ℕ}
    (v : InLine d at len head next rows names p place bit stays goes far) where
  steps_few : length v.read + length v.todo ≤ 16
  steps_few =
      let a = (path_good v.here).within.steps in
      let b = ap length v.steps_are ∙ length-append v.read v.todo in
      omega arith

  pub line_rows : length rows ≡ 16416
  line_rows = built_long v.here.done (path_of v.read (ending_of v.here.path)) v.built (done_few v.here)

  abbrev before : List ℕ
  before = print_list v.here.done ++ print_all print_step v.read

  abbrev after : List ℕ
  after = print_end (ending_of v.here.path) ++ print_list v.here.rest

  parts : d ≡ before ++ (print_all print_step v.todo ++ after)
  parts = sym (whole v.here) ∙ print_parts v.here.done v.here.path v.here.rest v.read v.todo v.steps_are

  before_long : length before ≡ place
  before_long = length-append (print_list v.here.done) (print_all print_step v.read) ∙ sym v.place_is

  left : drop place d ≡ print_all print_step v.todo ++ after
  left = ap (drop place) parts ∙ drop_at before (print_all print_step v.todo ++ after) place before_long

  pub line_bit : bit ≤ 65536
  line_bit =
      let a = steps_few in
      let b = power_16 (length v.read) (omega arith) in
      rw v.bit_is b

  kinds_below : (f : Kind → Bool) → kind_bits f v.read < 65536
  kinds_below f =
      let g : Step → Bool = λ s. f s.kind in
      let a = steps_few in
      let b = bits_below (map g v.read) in
      let c = power_16 (length (map g v.read)) (rw (length-map v.read g) (omega arith)) in
      omega arith

  pub line_stays : stays < 65536
  line_stays = rw v.stays_is (kinds_below kinds.stays)

  pub line_goes : goes < 65536
  line_goes = rw v.goes_is (kinds_below kinds.goes)

  pub line_far : far < 65536
  line_far = rw v.far_is (kinds_below kinds.far)

  -- the next step is read
  next_read : (s : Step) (ss : List Step) → v.todo ≡ s ∷ ss
      → Proper s × (drop place d ≡ print_step s ++ (print_all print_step ss ++ after)) × (step_at (drop place d) ≡ some s)
  next_read s ss e =
      let ok : All Proper (v.read ++ v.todo) = rw v.steps_are at (path_good v.here).path.each in
      let o : Proper s = first (rw e at (all_right v.read v.todo ok)) in
      let t = print_all print_step ss ++ after in
      let l : drop place d ≡ print_step s ++ t = left ∙ rw e (append_assoc (print_step s) (print_all print_step ss) after) in
      let g : step_at (drop place d) ≡ some s =
      rw l (step_undoes.complete s t o (after_step (ending_of v.here.path) (print_list v.here.rest) s ss)) in
      (o, l, g)
    where
      first : {x : Step} {xs : List Step} → All Proper (x ∷ xs) → Proper x
      first (more o os) = o

  module _ {r : Option PlacedStep} (q : r ≡ step_end_at d place) where
    -- no step is left where none is read
    none_left : r ≡ None → v.todo ≡ []
    unfolding step_end_at
    none_left f = go v.todo refl
      where
        go : (ss : List Step) → v.todo ≡ ss → ss ≡ []
        go [] e = refl
        go (s ∷ ss) e =
            let z : None ≡ step_placed place (some s) = sym f ∙ q ∙ ap (step_placed place) (next_read s ss e).2 in
            absurd (let y : ◌≡◌ {A = ℕ} 0 1 = cc in omega arith)

    -- the line is read to its end
    module _ (f : r ≡ None) where
      all_read : v.read ≡ v.here.path.steps
      all_read = sym (v.steps_are ∙ ap (λ (ss : List Step). v.read ++ ss) (none_left f) ∙ append-nil v.read)

      last_bit_lem : bit / 2 ≡ last_bit v.here.path
      last_bit_lem =
          let a : 0 < length v.here.path.steps = (path_good v.here).path.some in
          let b = rw all_read at v.bit_is in
          go (length v.here.path.steps) a b
        where
          go : (n : ℕ) → 0 < n → bit ≡ 2 ^ n → bit / 2 ≡ 2 ^ (n - 1)
          go zero l e = absurd (let z : 0 < 0 = l in omega arith)
          go (suc n) l e =
              let z : suc n - 1 ≡ n = omega arith in
              let y = two-pow-succ n in
              rw z (omega arith)

      pub line_end : LineDone d at len head next rows p
          (record { names = names; end = place; last = bit / 2; stays = stays; goes = goes; far = far })
      line_end =
          record {
            here = v.here;
            built = rw all_read at v.built;
            end_is = rw all_read at v.place_is;
            last_is = last_bit_lem;
            stays_is = rw all_read at v.stays_is;
            goes_is = rw all_read at v.goes_is;
            far_is = rw all_read at v.far_is;
          }

    -- the step that is read is the next one
    module _ {y : PlacedStep} (f : r ≡ Some y) where
      next_step : NextStep d at len head next rows names p place bit stays goes far v y
      unfolding step_end_at
      next_step = go v.todo refl
        where
          go : (ss : List Step) → v.todo ≡ ss → NextStep d at len head next rows names p place bit stays goes far v y
          go [] e =
              let l : drop place d ≡ after = left ∙ rw e in
              let g : step_at (drop place d) ≡ none = rw l (end_no_step (ending_of v.here.path) (print_list v.here.rest)) in
              let z : Some y ≡ step_placed place none = sym f ∙ q ∙ ap (step_placed place) g in
              absurd (let y : ◌≡◌ {A = ℕ} 0 1 = cc in omega arith)
          go (s ∷ ss) e =
              let (o, l, g) = next_read s ss e in
              let z : Some y ≡ step_placed place (some s) = sym f ∙ q ∙ ap (step_placed place) g in
              record {
                step = s;
                later = ss;
                todo_is = e;
                proper = o;
                kind_is = (cc);
                a_is = (cc);
                n_is = (cc);
                end_is = (cc);
                stands = l;
              }

      test_is : test_in d y.name y.len ≡ next_step.step.test
      unfolding print_step
      test_is =
          let k = print_kind next_step.step.kind in
          let t = print_all print_step next_step.later ++ after in
          let w = print_test next_step.step.test in
          let e : drop y.name d ≡ w ++ t =
          ap (λ (i : ℕ). drop i d) next_step.a_is
          ∙ sym (drop-drop (length k) place d)
          ∙ ap (drop (length k)) (next_step.stands ∙ append_assoc k w t)
          ∙ drop_at k (w ++ t) (length k) refl in
          test_stands d y.name y.len next_step.step.test t next_step.proper.test e next_step.n_is

      inside : (y.name + y.len ≤ y.end) × (y.end ≤ length d)
      unfolding print_step
      inside =
          let k = print_kind next_step.step.kind in
          let w = print_test next_step.step.test in
          let x = next_step.a_is in
          let o = next_step.end_is in
          let z = next_step.n_is in
          let e = length-append k w in
          let t = print_all print_step next_step.later ++ after in
          let s = ap length next_step.stands ∙ length-append (print_step next_step.step) t in
          let l = length-drop place d in
          let b = length-append before (print_all print_step v.todo ++ after) in
          let i = before_long in
          let j = ap length parts in
          let u = test_long next_step.step.test in
          (omega arith, omega arith)
        where
          test_long : (x : Test) → test_size x ≤ length (print_test x)
          test_long any = omega arith
          test_long (named m) = omega arith

      pub line_less : length d - y.end < length d - place
      line_less =
          let x = step_long next_step.step in
          let z = next_step.end_is in
          omega (arith, inside)

      pub line_room : length v.read < 16
      line_room =
          let a = steps_few in
          let b = ap length next_step.todo_is in
          omega arith

      pub line_step : AtStep d at len head next rows names p bit y.name y.len
      line_step =
          let p_is = v.here.p_is in
          record {
            done = v.here.done;
            path = path_of v.read (ending_of v.here.path);
            step = next_step.step;
            built = v.built;
            p_is = p_is;
            bit_is = v.bit_is;
            a_is = next_step.a_is ∙ ap (λ (i : ℕ). i + length (print_kind next_step.step.kind)) v.place_is;
            test_is = test_is;
            inside = omega (arith, inside);
            bytes = path_bytes v.here;
            few = done_few v.here;
            short = done_short v.here;
            room = line_room;
          }

      pub line_more : {at' len' head' next' rows' : List ℕ} {names' x w z : ℕ}
          → StepDone d at len head next rows names p bit y.name y.len at' len' head' next' rows' names'
          → x ≡ cond (kinds.stays y.kind) bit 0 → w ≡ cond (kinds.goes y.kind) bit 0 → z ≡ cond (kinds.far y.kind) bit 0
          → InLine d at' len' head' next' rows' names' p y.end (bit * 2) (stays + x) (goes + w) (far + z)
      unfolding line_step
      line_more e f g h =
          let s = next_step.step in
          let ss = next_step.later in
          record {
            here = v.here;
            read = v.read ++ s ∷ [];
            todo = ss;
            steps_are = v.steps_are ∙ ap (λ (l : List Step). v.read ++ l) next_step.todo_is ∙ sym (append_assoc v.read (s ∷ []) ss);
            built = e.is line_step;
            place_is = place_on;
            bit_is = bit_on;
            stays_is = kind_on kinds.stays v.stays_is f;
            goes_is = kind_on kinds.goes v.goes_is g;
            far_is = kind_on kinds.far v.far_is h;
          }
        where
          place_on : y.end ≡ length (print_list v.here.done) + length (print_all print_step (v.read ++ next_step.step ∷ []))
          place_on =
              let s = next_step.step in
              let a = print_append print_step v.read (s ∷ []) in
              let b = append-nil (print_step s) in
              let c : length (print_all print_step (v.read ++ s ∷ [])) ≡ length (print_all print_step v.read) + length (print_step s) =
              ap length (a ∙ ap (λ (l : List ℕ). print_all print_step v.read ++ l) b)
              ∙ length-append (print_all print_step v.read) (print_step s) in
              let x = next_step.end_is in
              let z = v.place_is in
              omega arith

          long_on : length (v.read ++ next_step.step ∷ []) ≡ suc (length v.read)
          long_on = length-append v.read (next_step.step ∷ []) ∙ add-one (length v.read)

          bit_on : bit * 2 ≡ 2 ^ length (v.read ++ next_step.step ∷ [])
          bit_on = rw long_on (let z = two-pow-succ (length v.read) in let y = v.bit_is in omega arith)

          kind_on : (f : Kind → Bool) {u x : ℕ} → u ≡ kind_bits f v.read → x ≡ cond (f y.kind) bit 0
              → u + x ≡ kind_bits f (v.read ++ next_step.step ∷ [])
          kind_on f e g =
              let s = next_step.step in
              let h : Step → Bool = λ s. f s.kind in
              sym (ap bits_of (map_snoc h v.read s)
              ∙ bits_snoc (map h v.read) (h s)
              ∙ cc (e, v.bit_is, g, next_step.kind_is, length-map v.read h))

pub ruleset lining = (line_start, line_bit, line_stays, line_goes, line_far, line_end, line_less, line_room, line_step, line_more)
