-- `row_of`, `fit_by`, `fit_of`: the tables of a sound list serve a search, and the row of the place found, with the list's columns, is the
-- name's fit. A caller has what `fit_of` asks for from the contract of `read`.
use mathlib.Core.Path.{◌≡◌, ap, ◌∙◌}
use mathlib.Core.List.{List}
use Prim.Native.Nat.{ℕ, ◌+◌, ◌*◌, ◌≤◌}
use lib.ListN.{take, drop}
use Rattle.paths.specs.Path.{Path}
use Rattle.paths.specs.Judge.{list_paths}
use Rattle.lookup.specs.Names.{names_of, place_of}
use Rattle.lookup.specs.Index.{Indexed, Tables, Found}
use Rattle.compiled.specs.Bits.{fit_of, stays_of, goes_of, far_of, lasts_of, marks_of}
use Rattle.compiled.specs.Compiled.{tables_of}
use Rattle.compiled.proofs.Lookup.{lookup_indexed, lookup_tables, row_in, row_part, stays_part, goes_part, far_part, lasts_part, marks_part}
use Rattle.compiled.proofs.OverLines.{sound_sized}
use Rattle.matcher.specs.Fit.{fit_for, fit_at, Serves}
use Rattle.matcher.specs.declared.fit.Fit.{Fit}

-- a fit is its parts
fit_parts : (ps : List Path) (n : List ℕ) {passes stays goes far lasts marks : List ℕ} → passes ≡ fit_of ps n → stays ≡ stays_of ps
    → goes ≡ goes_of ps → far ≡ far_of ps → lasts ≡ lasts_of ps → marks ≡ marks_of ps
    → ◌≡◌ {A = Fit} (record { passes = passes; stays = stays; goes = goes; far = far; lasts = lasts; marks = marks }) (fit_for ps n)
unfolding fit_for
fit_parts ps n a b c e g h = rw (a, b, c, e, g, h)

module _ {d t : List ℕ} (v : Serves d t) where
  -- the parts of the tables that `find` asks for
  abbrev at : List ℕ
  at = take 512 (drop 0 t)

  abbrev len : List ℕ
  len = take 512 (drop 512 t)

  abbrev head : List ℕ
  head = take 256 (drop 1024 t)

  abbrev next : List ℕ
  next = take 512 (drop 1280 t)

  indexed : Indexed d at len head next (names_of (list_paths d))
  indexed = lookup_indexed v.sound v.tables

  pub serves_tables : Tables d at len head next
  serves_tables = lookup_tables v.sound v.tables

  -- the place that is found is the name's
  pub serves_place : {n : List ℕ} {k : ℕ} → Found d at len head next n k → k ≡ place_of (names_of (list_paths d)) n
  serves_place f = f.is (names_of (list_paths d)) indexed

  module _ (n : List ℕ) {k : ℕ} (k_is : k ≡ place_of (names_of (list_paths d)) n) where
    pub row_few : k ≤ 512
    row_few = rw k_is (row_in (list_paths d) (sound_sized d v.sound) n)

    -- the row of a name has its fit
    pub row_fit : fit_at t k ≡ fit_for (list_paths d) n
    unfolding fit_at
    row_fit =
        let ps = list_paths d in
        let s = sound_sized d v.sound in
        let column : (i : ℕ) → take 32 (drop i t) ≡ take 32 (drop i (tables_of ps)) =
        λ i. ap (λ (u : List ℕ). take 32 (drop i u)) v.tables in
        let p : take 32 (drop (1792 + 32 * k) t) ≡ fit_of ps n =
        ap (λ (j : ℕ). take 32 (drop (1792 + 32 * j) t)) k_is
        ∙ column (1792 + 32 * place_of (names_of ps) n)
        ∙ row_part ps s n in
        let q : take 32 (drop 18208 t) ≡ stays_of ps = column 18208 ∙ stays_part ps s in
        let r : take 32 (drop 18240 t) ≡ goes_of ps = column 18240 ∙ goes_part ps s in
        let u : take 32 (drop 18272 t) ≡ far_of ps = column 18272 ∙ far_part ps s in
        let w : take 32 (drop 18304 t) ≡ lasts_of ps = column 18304 ∙ lasts_part ps s in
        let x : take 32 (drop 18336 t) ≡ marks_of ps = column 18336 ∙ marks_part ps s in
        fit_parts ps n p q r u w x

-- what the columns and a row of the tables make
pub fit_made : (t : List ℕ) (k : ℕ) {passes stays goes far lasts marks : List ℕ} → passes ≡ take 32 (drop (1792 + 32 * k) t)
    → stays ≡ take 32 (drop 18208 t) → goes ≡ take 32 (drop 18240 t) → far ≡ take 32 (drop 18272 t)
    → lasts ≡ take 32 (drop 18304 t) → marks ≡ take 32 (drop 18336 t)
    → ◌≡◌ {A = Fit} (record { passes = passes; stays = stays; goes = goes; far = far; lasts = lasts; marks = marks }) (fit_at t k)
unfolding fit_at
fit_made t k a b c e g h = rw (a, b, c, e, g, h)
