-- What an element's name passes, with what the list says of each step;
-- and the tables of a sound list, in which a name is looked up.
use Rattle.std.specs.Prelude.{◌≡◌, List, ℕ, ◌+◌, ◌*◌, take, drop, Ok}
use Rattle.paths.specs.Path.{Path}
use Rattle.paths.specs.Judge.{list_answer, list_paths}
use Rattle.compiled.specs.Bits.{fit_of, stays_of, goes_of, far_of, lasts_of, marks_of}
use Rattle.compiled.specs.Compiled.{tables_of}
use Rattle.matcher.specs.declared.fit.Fit.{Fit}

unfoldable pub fit_for : List Path → List ℕ → Fit
fit_for ps n =
    record { passes = fit_of ps n; stays = stays_of ps; goes = goes_of ps; far = far_of ps; lasts = lasts_of ps; marks = marks_of ps }

-- by the tables of a list: row k, and the list's columns. `row_fit` of proofs/Serving.antt says that a name's row has its fit
unfoldable pub fit_at : List ℕ → ℕ → Fit
fit_at t k =
    record {
      passes = take 32 (drop (1792 + 32 * k) t);
      stays = take 32 (drop 18208 t);
      goes = take 32 (drop 18240 t);
      far = take 32 (drop 18272 t);
      lasts = take 32 (drop 18304 t);
      marks = take 32 (drop 18336 t);
    }

-- the tables are those of the paths of a sound list
pub record Serves (list t : List ℕ) : Type 0 where
  pub sound : list_answer list ≡ Ok tt
  pub tables : t ≡ tables_of (list_paths list)
