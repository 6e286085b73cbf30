-- What the functions of the crates below answer, in the words of readers: where white space ends, a name, where a text stands first.
-- Readings of other kinds are by `reading_answers` of the crate readers.
use mathlib.Core.Path.{◌≡◌, refl, sym, ◌∙◌}
use mathlib.Core.Bool.{Bool, true, false}
use mathlib.Core.List.{List}
use mathlib.Core.Option.{Option as Maybe, none, some, none-ne-some}
use Prim.Native.Nat.{ℕ, ◌≤◌}
use native.Mathlib.Omega.{arith}
use lib.Dec.{leb}
use borrow.Author.Tests.{leb-true, leb-false}
use lib.ListN.{length, drop}
use Rattle.xml.specs.Productions.{is_name_start}
use Rattle.xml.proofs.Run.{starts_nil}
use Rattle.utf8.specs.Place.{ends_at, Stands}
use Rattle.utf8.proofs.Place.{drop_end}
use Rattle.chars.specs.Space.{space_end}
use Rattle.chars.specs.Name.{name_of, name_at, reading_at}
use Rattle.std.specs.Prelude.{Option}
use Rattle.readers.specs.Read.{skip, seek}
use Rattle.readers.specs.Answer.{Answers, ends, faults}
use Rattle.readers.proofs.Left.{skip_end, name_leaves, end_stands, end_ahead}
use Rattle.scans.proofs.Seeks.{sought_rest, sought_inside}

-- ---- white space

module _ (d : List ℕ) (at : ℕ) {r : ℕ} (e : r ≡ space_end d at) where
  by_skip : r ≡ ends_at d at (skip (drop at d))
  unfolding skip space_end
  by_skip = e

  pub space_ahead : at ≤ r
  space_ahead = rw by_skip (end_ahead d at (skip (drop at d)))

  pub space_stands : at ≤ length d → Stands d r (skip (drop at d))
  space_stands l = rw by_skip (end_stands d at l (skip_end (drop at d)))

-- ---- names

-- nothing is a name's beginning past the end
name_some : (d : List ℕ) (at : ℕ) (t : List ℕ) → name_of (drop at d) ≡ some t → at ≤ length d
unfolding name_of
name_some d at t e = go (leb (length d) at) refl
  where
    go : (b : Bool) → leb (length d) at ≡ b → at ≤ length d
    go true q =
        absurd (none-ne-some t
        (sym (rw (drop_end d at (leb-true (length d) at q), starts_nil is_name_start)) ∙ e))
    go false q = let z = leb-false (length d) at q in omega arith

pub name_answers : (d : List ℕ) (at : ℕ) {r : Option ℕ} → r ≡ name_at d at → Answers d at r (name_of (drop at d))
unfolding name_at
name_answers d at {r} e = rw e (go (name_of (drop at d)) refl)
  where
    go : (o : Maybe (List ℕ)) → name_of (drop at d) ≡ o → Answers d at (reading_at d at o) o
    go none q = faults
    go (some t) q = ends (end_stands d at (name_some d at t q) (name_leaves.ends (drop at d) t q)) (end_ahead d at t)

-- ---- a text sought

module _ (d : List ℕ) (at : ℕ) (w : List ℕ) {r : ℕ} (e : r ≡ ends_at d at (seek w (drop at d))) where
  pub seek_stands : at ≤ length d → Stands d r (seek w (drop at d))
  seek_stands l = record { rest = sought_rest d at w e; inside = sought_inside d at w e l }
