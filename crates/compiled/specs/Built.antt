-- The tables while a list is read: those of the names met so far, and rows by number. A step has a number, 0 for `*` and else the place
-- of its name; row k has the steps of number k. Then what is entered for a name, the tables of the paths read so far, and one more step.
use Rattle.std.specs.Prelude.{◌≡◌, List, [], ◌∷◌, ◌++◌, ℕ, zero, suc, ◌+◌, ◌^◌, ◌≤◌, ◌<◌, length, take, drop, eqb}
use Rattle.paths.specs.Path.{Test, any, named, Step, Path, All, print_kind, print_step, print_all, print_list}
use Rattle.compiled.specs.Bits.{step_bits, column}
use Rattle.lookup.specs.Names.{Named, place_of, test_names, firsts, names_of}
use Rattle.compiled.specs.Compiled.{joined}
use Rattle.lookup.specs.Index.{Indexed}
use Rattle.compiled.specs.declared.build.Numbered.{Numbered}

abbrev pub number_of : List Named → Test → ℕ
number_of ns any = 0
number_of ns (named m) = place_of ns m

-- the test whose name has n bytes at the place a: `*` for none
abbrev pub test_of : ℕ → List ℕ → Test
test_of zero w = any
test_of (suc n) w = named w

unfoldable pub test_in : List ℕ → ℕ → ℕ → Test
test_in d a n = test_of n (take n (drop a d))

-- ---- a name entered

-- the tables of some names, as many as said
pub record Held (d at len head next : List ℕ) (names : ℕ) : Type 0 where
  pub all : List Named
  pub indexed : Indexed d at len head next all
  pub count : names ≡ length all

-- the tables of the names ns, and the number of the test among them
pub record Numbers (d at len head next : List ℕ) (ns : List Named) (t : Test) (r : Numbered) : Type 0 where
  pub indexed : Indexed d at len head next ns
  pub names : r.names ≡ length ns
  pub number : r.number ≡ number_of ns t

-- tables before, and after the name of n bytes at the place a is entered, whatever names the tables were of
pub record Entered (d at len head next : List ℕ) (names a n : ℕ) (at' len' head' next' : List ℕ) (r : Numbered) : Type 0 where
  pub is : (ns : List Named) → Indexed d at len head next ns → names ≡ length ns
      → Numbers d at' len' head' next' (firsts ns (test_names a (test_in d a n))) (test_in d a n) r

-- ---- rows by number

-- f i, f (i + 1), .. : n of them
abbrev pub listed : {A : Type 0} → (ℕ → A) → ℕ → ℕ → List A
listed f i zero = []
listed f i (suc n) = f i ∷ listed f (suc i) n

unfoldable pub number_row : List Named → List Path → ℕ → List ℕ
number_row ns ps k = column (step_bits (λ s. eqb (number_of ns s.test) k)) ps

unfoldable pub number_rows : List Path → List ℕ
number_rows ps = joined (listed (number_row (names_of ps) ps) 0 513)

-- the tables of the paths read so far
pub record Built (d at len head next rows : List ℕ) (names : ℕ) (ps : List Path) : Type 0 where
  pub indexed : Indexed d at len head next (names_of ps)
  pub count : names ≡ length (names_of ps)
  pub rows_are : rows ≡ number_rows ps

-- ---- one more step

-- a path with one more step
abbrev pub longer : Path → Step → Path
longer q s = record { steps = q.steps ++ s ∷ []; test = q.test; marked = q.marked }

-- a step of path p, whose name has n bytes at the place a, comes after the paths done and the steps of the path so far
pub record AtStep (d at len head next rows : List ℕ) (names p bit a n : ℕ) : Type 0 where
  pub done : List Path
  pub path : Path
  pub step : Step
  pub built : Built d at len head next rows names (done ++ path ∷ [])
  pub p_is : p ≡ length done
  pub bit_is : bit ≡ 2 ^ length path.steps
  pub a_is : a ≡ length (print_list done) + length (print_all print_step path.steps) + length (print_kind step.kind)
  pub test_is : test_in d a n ≡ step.test
  pub inside : a + n ≤ length d
  pub bytes : length d ≤ 8192
  pub few : length done < 32
  pub short : All (λ q. length q.steps ≤ 16) done
  pub room : length path.steps < 16

-- the tables after it, for every such step
pub record StepDone (d at len head next rows : List ℕ) (names p bit a n : ℕ) (at' len' head' next' rows' : List ℕ) (names' : ℕ)
    : Type 0 where
  pub is : (v : AtStep d at len head next rows names p bit a n)
      → Built d at' len' head' next' rows' names' (v.done ++ longer v.path v.step ∷ [])
