-- What a caller uses: the tables of a sound list, taken out of all of them.
-- The parts for names are those that `find` asks for; the row of a name is its fit.
use mathlib.Core.Path.{◌≡◌, refl, sym, ap, ◌∙◌}
use mathlib.Core.List.{List, [], ◌++◌}
use Prim.Native.Nat.{ℕ, ◌+◌, ◌*◌, ◌≤◌}
use native.Mathlib.Omega.{arith}
use lib.ListN.{length, take, drop, length-drop}
use lib.Seq.{take_at, drop_at, drop-drop, take-append-le, drop-append-le}
use Rattle.std.specs.Prelude.{Ok}
use Rattle.paths.specs.Path.{Path}
use Rattle.paths.specs.Judge.{list_answer, list_paths}
use Rattle.paths.proofs.Meaning.{paths_print}
use Rattle.lookup.specs.Names.{names_of, chains_of, place_of}
use Rattle.lookup.specs.Index.{Indexed, Tables}
use Rattle.lookup.proofs.Places.{place_least}
use Rattle.compiled.specs.Bits.{fit_of, stays_of, goes_of, far_of, lasts_of, marks_of}
use Rattle.compiled.specs.Sizes.{Sized}
use Rattle.compiled.specs.Compiled.{rows_of, places_of, lengths_of, tests_of, tables_of}
use Rattle.compiled.proofs.Firsts.{names_few}
use Rattle.compiled.proofs.NameRows.{rows_fit}
use Rattle.compiled.proofs.Stand.{paths_indexed}
use Rattle.compiled.proofs.Sizes.{Long, tables_long}
use Rattle.compiled.proofs.OverLines.{sound_sized}

-- ---- a table, and what is behind it

module _ (t : List ℕ) (i n : ℕ) (x y : List ℕ) (e : drop i t ≡ x ++ y) (l : length x ≡ n) where
  table_here : take n (drop i t) ≡ x
  table_here = rw e (take_at x y n l)

  behind : drop (i + n) t ≡ y
  behind = sym (drop-drop n i t) ∙ ap (drop n) e ∙ drop_at x y n l

-- ---- the tables of the paths ps

module _ (ps : List Path) (s : Sized ps) where
  abbrev head : List ℕ
  head = (chains_of (names_of ps)).head

  abbrev next : List ℕ
  next = (chains_of (names_of ps)).next

  -- the columns from one of them on
  abbrev marks_on : List ℕ
  marks_on = marks_of ps ++ (tests_of ps ++ [])

  abbrev lasts_on : List ℕ
  lasts_on = lasts_of ps ++ marks_on

  abbrev far_on : List ℕ
  far_on = far_of ps ++ lasts_on

  abbrev goes_on : List ℕ
  goes_on = goes_of ps ++ far_on

  abbrev columns : List ℕ
  columns = stays_of ps ++ goes_on

  abbrev behind_len : List ℕ
  behind_len = head ++ (next ++ (rows_of ps ++ columns))

  long : Long ps
  long = tables_long ps s

  from_at : drop 0 (tables_of ps) ≡ places_of ps ++ (lengths_of ps ++ behind_len)
  unfolding tables_of
  from_at = refl

  from_len : drop 512 (tables_of ps) ≡ lengths_of ps ++ behind_len
  from_len = behind (tables_of ps) 0 512 (places_of ps) (lengths_of ps ++ behind_len) from_at long.at

  from_head : drop 1024 (tables_of ps) ≡ behind_len
  from_head = behind (tables_of ps) 512 512 (lengths_of ps) behind_len from_len long.len

  from_next : drop 1280 (tables_of ps) ≡ next ++ (rows_of ps ++ columns)
  from_next = behind (tables_of ps) 1024 256 head (next ++ (rows_of ps ++ columns)) from_head long.head

  from_rows : drop 1792 (tables_of ps) ≡ rows_of ps ++ columns
  from_rows = behind (tables_of ps) 1280 512 next (rows_of ps ++ columns) from_next long.next

  from_stays : drop 18208 (tables_of ps) ≡ columns
  from_stays = behind (tables_of ps) 1792 16416 (rows_of ps) columns from_rows long.rows

  from_goes : drop 18240 (tables_of ps) ≡ goes_on
  from_goes = behind (tables_of ps) 18208 32 (stays_of ps) goes_on from_stays long.stays

  from_far : drop 18272 (tables_of ps) ≡ far_on
  from_far = behind (tables_of ps) 18240 32 (goes_of ps) far_on from_goes long.goes

  from_lasts : drop 18304 (tables_of ps) ≡ lasts_on
  from_lasts = behind (tables_of ps) 18272 32 (far_of ps) lasts_on from_far long.far

  from_marks : drop 18336 (tables_of ps) ≡ marks_on
  from_marks = behind (tables_of ps) 18304 32 (lasts_of ps) marks_on from_lasts long.lasts

  from_tests : drop 18368 (tables_of ps) ≡ tests_of ps ++ []
  from_tests = behind (tables_of ps) 18336 32 (marks_of ps) (tests_of ps ++ []) from_marks long.marks

  pub stays_part : take 32 (drop 18208 (tables_of ps)) ≡ stays_of ps
  stays_part = table_here (tables_of ps) 18208 32 (stays_of ps) goes_on from_stays long.stays

  pub goes_part : take 32 (drop 18240 (tables_of ps)) ≡ goes_of ps
  goes_part = table_here (tables_of ps) 18240 32 (goes_of ps) far_on from_goes long.goes

  pub far_part : take 32 (drop 18272 (tables_of ps)) ≡ far_of ps
  far_part = table_here (tables_of ps) 18272 32 (far_of ps) lasts_on from_far long.far

  pub lasts_part : take 32 (drop 18304 (tables_of ps)) ≡ lasts_of ps
  lasts_part = table_here (tables_of ps) 18304 32 (lasts_of ps) marks_on from_lasts long.lasts

  pub marks_part : take 32 (drop 18336 (tables_of ps)) ≡ marks_of ps
  marks_part = table_here (tables_of ps) 18336 32 (marks_of ps) (tests_of ps ++ []) from_marks long.marks

  pub tests_part : take 32 (drop 18368 (tables_of ps)) ≡ tests_of ps
  tests_part = table_here (tables_of ps) 18368 32 (tests_of ps) [] from_tests long.tests

  -- the place of a name is that of a row
  pub row_in : (n : List ℕ) → place_of (names_of ps) n ≤ 512
  row_in n = let a = place_least (names_of ps) n in let b = names_few ps s.few s.short in omega arith

  -- the row of a name is its fit
  pub row_part : (n : List ℕ) → take 32 (drop (1792 + 32 * place_of (names_of ps) n) (tables_of ps)) ≡ fit_of ps n
  row_part n =
      let k = 32 * place_of (names_of ps) n in
      let h = row_in n in
      let l = long.rows in
      ap (take 32) (sym (drop-drop k 1792 (tables_of ps)) ∙ ap (drop k) from_rows ∙ drop-append-le k (rows_of ps) columns (omega arith))
      ∙ take-append-le 32 (drop k (rows_of ps)) columns (let z = length-drop k (rows_of ps) in omega arith)
      ∙ rows_fit ps s n

  pub part_indexed : {d : List ℕ}
      → Indexed d (places_of ps) (lengths_of ps) head next (names_of ps)
      → Indexed d (take 512 (drop 0 (tables_of ps))) (take 512 (drop 512 (tables_of ps))) (take 256 (drop 1024 (tables_of ps)))
      (take 512 (drop 1280 (tables_of ps))) (names_of ps)
  part_indexed i =
      rw (
        table_here (tables_of ps) 0 512 (places_of ps) (lengths_of ps ++ behind_len) from_at long.at,
        table_here (tables_of ps) 512 512 (lengths_of ps) behind_len from_len long.len,
        table_here (tables_of ps) 1024 256 head (next ++ (rows_of ps ++ columns)) from_head long.head,
        table_here (tables_of ps) 1280 512 next (rows_of ps ++ columns) from_next long.next,
      ) i

-- ---- a sound list

module _ {d : List ℕ} (e : list_answer d ≡ Ok tt) {t : List ℕ} (q : t ≡ tables_of (list_paths d)) where
  pub lookup_indexed : Indexed d (take 512 (drop 0 t)) (take 512 (drop 512 t)) (take 256 (drop 1024 t)) (take 512 (drop 1280 t))
      (names_of (list_paths d))
  lookup_indexed =
      rw q
      (part_indexed (list_paths d) (sound_sized d e) (rw (paths_print d e).0 at (paths_indexed (list_paths d) (sound_sized d e))))

  pub lookup_tables : Tables d (take 512 (drop 0 t)) (take 512 (drop 512 t)) (take 256 (drop 1024 t)) (take 512 (drop 1280 t))
  lookup_tables = record { names = names_of (list_paths d); indexed = lookup_indexed }
