-- Layouts, worked out by document 02's words and computed by antt: each fault with its offset, the first of two, and sound batches.
use mathlib.Core.Path.{◌≡◌, refl}
use mathlib.Core.List.{List, [], ◌∷◌, map}
use Prim.Native.Nat.{ℕ}
use Rattle.std.specs.Prelude.{Result, Ok}
use lib.ListN.{replicate}
use Rattle.bundle.specs.Batch.{print_batch, entries_of, reach_of, fault_at, layout_of}
use Rattle.bundle.specs.declared.LayoutError.{LayoutError}

pub record Row : Type 0 where
  pub batch : List ℕ
  pub layout : Result (Unit {0}) LayoutError

infix 10 ◌is◌
abbrev ◌is◌ : List ℕ → Result (Unit {0}) LayoutError → Row
b is l = record { batch = b; layout = l }

pub rows : List Row
rows =
    -- "an empty batch"; the version byte alone is a batch of no documents
    ([] is fault_at 0)
    ∷ (1 ∷ [] is Ok tt)
    -- "another version", whatever follows
    ∷ (0 ∷ [] is fault_at 0)
    ∷ (2 ∷ 0 ∷ 0 ∷ 0 ∷ 0 ∷ [] is fault_at 0)
    -- a document of no bytes; of one; of 256
    ∷ (1 ∷ 0 ∷ 0 ∷ 0 ∷ 0 ∷ [] is Ok tt)
    ∷ (1 ∷ 0 ∷ 0 ∷ 0 ∷ 1 ∷ 60 ∷ [] is Ok tt)
    ∷ (1 ∷ 0 ∷ 0 ∷ 1 ∷ 0 ∷ replicate 256 60 is Ok tt)
    -- "cut short": 1, 2 and 3 bytes of a length
    ∷ (1 ∷ 0 ∷ [] is fault_at 1)
    ∷ (1 ∷ 0 ∷ 0 ∷ [] is fault_at 1)
    ∷ (1 ∷ 0 ∷ 0 ∷ 0 ∷ [] is fault_at 1)
    -- "runs past the end": by one; by much; a length read from the wrong end
    ∷ (1 ∷ 0 ∷ 0 ∷ 0 ∷ 2 ∷ 60 ∷ [] is fault_at 1)
    ∷ (1 ∷ 255 ∷ 255 ∷ 255 ∷ 255 ∷ 60 ∷ [] is fault_at 1)
    ∷ (1 ∷ 1 ∷ 0 ∷ 0 ∷ 0 ∷ 60 ∷ [] is fault_at 1)
    -- "the first length": the offset of the second where the first is whole, the last too
    ∷ (1 ∷ 0 ∷ 0 ∷ 0 ∷ 1 ∷ 60 ∷ 0 ∷ 0 ∷ 0 ∷ 2 ∷ 60 ∷ [] is fault_at 6)
    ∷ (1 ∷ 0 ∷ 0 ∷ 0 ∷ 1 ∷ 60 ∷ 0 ∷ 0 ∷ [] is fault_at 6)
    ∷ (1 ∷ 0 ∷ 0 ∷ 0 ∷ 0 ∷ 0 ∷ 0 ∷ 0 ∷ 9 ∷ 60 ∷ 0 ∷ 0 ∷ [] is fault_at 5)
    ∷ []

pub layouts : map (λ r. layout_of r.batch) rows ≡ map (λ r. r.layout) rows
unfolding rows layout_of reach_of entries_of
layouts = refl

-- the print of two documents, and what is read of it
pub two : List (List ℕ)
two = (60 ∷ 103 ∷ 62 ∷ []) ∷ [] ∷ []

pub two_printed : print_batch two ≡ 1 ∷ 0 ∷ 0 ∷ 0 ∷ 3 ∷ 60 ∷ 103 ∷ 62 ∷ 0 ∷ 0 ∷ 0 ∷ 0 ∷ []
unfolding two
two_printed = refl

pub two_read : entries_of (print_batch two) ≡ two
unfolding two entries_of
two_read = refl
