-- The tables of a compiled list fit their places in it: each has its length, and each number fits 16 bits. In order: lengths; bits below
-- 65,536; places and lengths of names, at most 8,192; chains through at most 512 names.
use mathlib.Core.Path.{◌≡◌, refl}
use mathlib.Core.Bool.{Bool, true, false, cond}
use mathlib.Core.List.{List, [], ◌∷◌, map}
use Prim.Native.Nat.{ℕ, zero, suc, ◌-◌, ◌^◌, ◌≤◌, ◌<◌}
use native.Mathlib.Omega.{arith}
use native.Mathlib.Nat.{pow-le-pow_right}
use lib.ListN.{length, replicate}
use Rattle.paths.specs.Path.{Path, All, none, more}
use Rattle.compiled.specs.Bits.{column, last_bit, stays_of, goes_of, far_of, lasts_of, marks_of, fit_of, other_fit}
use Rattle.lookup.specs.Names.{Named, names_of, chains_of}
use Rattle.lookup.specs.Index.{padded}
use Rattle.compiled.specs.Sizes.{Sized}
use Rattle.compiled.specs.Compiled.{joined, rows_of, places_of, lengths_of, test_places, tests_of, tables_of}
use Rattle.lookup.proofs.Search.{index_linked, at_long, len_long}
use Rattle.compiled.proofs.Alls.{all_map, all_append}
use Rattle.compiled.proofs.Firsts.{names_few}
use Rattle.compiled.proofs.Bits.{step_bits_below, column_long}
use Rattle.compiled.proofs.Bits.{Below, below_all, below_padded, all_mapped}
use Rattle.compiled.proofs.NameRows.{rows_long}
use Rattle.compiled.proofs.Stand.{names_stand, paths_indexed}
use Rattle.compiled.proofs.Tests.{tests_long, places_below}

-- the lengths of the tables
pub record Long (ps : List Path) : Type 0 where
  pub at : length (places_of ps) ≡ 512
  pub len : length (lengths_of ps) ≡ 512
  pub head : length (chains_of (names_of ps)).head ≡ 256
  pub next : length (chains_of (names_of ps)).next ≡ 512
  pub rows : length (rows_of ps) ≡ 16416
  pub stays : length (stays_of ps) ≡ 32
  pub goes : length (goes_of ps) ≡ 32
  pub far : length (far_of ps) ≡ 32
  pub lasts : length (lasts_of ps) ≡ 32
  pub marks : length (marks_of ps) ≡ 32
  pub tests : length (tests_of ps) ≡ 32

pub tables_long : (ps : List Path) → Sized ps → Long ps
unfolding stays_of goes_of far_of lasts_of marks_of
tables_long ps s =
    let i = paths_indexed ps s in
    let v = index_linked i in
    record {
      at = at_long i;
      len = len_long i;
      head = v.head_long;
      next = v.next_long;
      rows = rows_long ps s;
      stays = column_long _ ps s.few;
      goes = column_long _ ps s.few;
      far = column_long _ ps s.few;
      lasts = column_long _ ps s.few;
      marks = column_long _ ps s.few;
      tests = tests_long ps s.few;
    }

-- ---- bits

last_below : (p : Path) → length p.steps ≤ 16 → last_bit p < 65536
last_below p l =
    let i : length p.steps - 1 ≤ 15 = omega arith in
    let y : 2 ^ (length p.steps - 1) ≤ 2 ^ 15 = pow-le-pow_right {n = 2} (omega arith) i in
    let z : 2 ^ 15 ≡ 32768 = refl in
    omega arith

mark_below : (p : Path) → length p.steps ≤ 16 → cond p.marked (last_bit p) 0 < 65536
mark_below p l = go p.marked
  where
    go : (b : Bool) → cond b (last_bit p) 0 < 65536
    go true = last_below p l
    go false = omega arith

below_joined : {b : ℕ} {rs : List (List ℕ)} → 0 < b → All (λ r. All (λ x. x < b) r) rs → All (λ x. x < b) (joined rs)
below_joined l none = none
below_joined l (more a more_rows) = all_append a (below_joined l more_rows)

all_column : (b : ℕ) (f : Path → ℕ) (ps : List Path) → 0 < b → All (λ p. f p < b) ps → All (λ x. x < b) (column f ps)
unfolding column padded
all_column b f ps l a = all_append (all_mapped f a) (zeros_below (32 - length (map f ps)))
  where
    zeros_below : (n : ℕ) → All (λ x. x < b) (replicate n 0)
    zeros_below zero = none
    zeros_below (suc n) = more l (zeros_below n)

pub rows_below : (ps : List Path) → Sized ps → Below 65536 (rows_of ps)
unfolding rows_of other_fit fit_of
rows_below ps s =
    below_all (omega arith)
    (below_joined (omega arith) (more other (all_append (fits (names_of ps)) (others (512 - length (names_of ps))))))
  where
    other : All (λ x. x < 65536) (other_fit ps)
    other = all_column 65536 _ ps (omega arith) (all_map (step_bits_below _) s.short)

    fits : (ns : List Named) → All (λ r. All (λ x. x < 65536) r) (map (λ x. fit_of ps x.name) ns)
    fits [] = none
    fits (x ∷ ns) = more (all_column 65536 _ ps (omega arith) (all_map (step_bits_below _) s.short)) (fits ns)

    others : (n : ℕ) → All (λ r. All (λ x. x < 65536) r) (replicate n (other_fit ps))
    others zero = none
    others (suc n) = more other (others n)

-- ---- every number fits 16 bits

all_below : {b : ℕ} (xs : List ℕ) → Below b xs → All (λ x. x < b) xs
all_below [] f = none
all_below (x ∷ xs) f = more (f 0) (all_below xs (λ i. f (suc i)))

pub tables_below : (ps : List Path) → Sized ps → Below 65536 (tables_of ps)
unfolding tables_of stays_of goes_of far_of lasts_of marks_of tests_of
tables_below ps s =
    let v = index_linked (paths_indexed ps s) in
    let f = names_few ps s.few s.short in
    let b = s.bytes in
    below_all (omega arith)
    (below_joined (omega arith)
    (more {x = places_of ps} (all_below (places_of ps) places)
    (more {x = lengths_of ps} (all_below (lengths_of ps) lengths)
    (more {x = (chains_of (names_of ps)).head} (all_below (chains_of (names_of ps)).head (λ i. let z = v.top i in omega arith))
    (more {x = (chains_of (names_of ps)).next} (all_below (chains_of (names_of ps)).next (λ i. let z = v.most i in omega arith))
    (more {x = rows_of ps} (all_below (rows_of ps) (rows_below ps s))
    (more {x = stays_of ps} (all_column 65536 _ ps (omega arith) (all_map (step_bits_below _) s.short))
    (more {x = goes_of ps} (all_column 65536 _ ps (omega arith) (all_map (step_bits_below _) s.short))
    (more {x = far_of ps} (all_column 65536 _ ps (omega arith) (all_map (step_bits_below _) s.short))
    (more {x = lasts_of ps} (all_column 65536 _ ps (omega arith) (all_map last_below s.short))
    (more {x = marks_of ps} (all_column 65536 _ ps (omega arith) (all_map mark_below s.short))
    (more {x = tests_of ps} (all_below (tests_of ps) tests) none))))))))))))
  where
    -- a name stands in the list, whose bytes are at most 8,192
    places : Below 65536 (places_of ps)
    places =
        below_padded 65536 512 (map (λ x. x.place) (names_of ps))
        (below_all (omega arith)
        (all_mapped (λ x. x.place) (all_map (λ x h. let i = h.inside in let b = s.bytes in omega arith) (names_stand ps))))

    lengths : Below 65536 (lengths_of ps)
    lengths =
        below_padded 65536 512 (map (λ x. length x.name) (names_of ps))
        (below_all (omega arith)
        (all_mapped (λ x. length x.name) (all_map (λ x h. let i = h.inside in let b = s.bytes in omega arith) (names_stand ps))))

    tests : Below 65536 (tests_of ps)
    tests =
        below_padded 65536 32 (test_places 0 ps)
        (below_all (omega arith) (places_below 65536 0 ps (let b = s.bytes in omega arith)))
