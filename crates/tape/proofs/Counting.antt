-- How many tags are among the items: at most one for each, no fewer among more, and each has its entry before those behind it.
use mathlib.Core.Path.{◌≡◌}
use mathlib.Core.List.{List}
use mathlib.Core.Logic.{⊎_elim}
use Prim.Native.Nat.{ℕ, zero, suc, ◌≤◌, ◌<◌}
use native.Mathlib.Nat.{eq-or-lt_of_le}
use native.Mathlib.Omega.{arith}
use Rattle.tags.specs.declared.Item.{Item}
use Rattle.tags.specs.declared.Item.TheVariants.{Declaration, Instruction, Comment, Section, Reference, Text, Start, Finish}
use Rattle.tags.specs.declared.Item.TheVariants.{Doctype, Malformed, TooLarge, Nothing}
use Rattle.tape.specs.Tape.{tags_of}
use Rattle.tape.specs.Taped.{Spot, item_of, behind, tags_in}

pub one_most : (i : Item) → tags_of i ≤ 1
one_most (Declaration e) = omega arith
one_most (Instruction e) = omega arith
one_most (Comment e) = omega arith
one_most (Section e) = omega arith
one_most (Reference n e) = omega arith
one_most (Text e) = omega arith
one_most (Start n h e m t) = omega arith
one_most (Finish n e) = omega arith
one_most Doctype = omega arith
one_most Malformed = omega arith
one_most TooLarge = omega arith
one_most Nothing = omega arith

pub tags_more : (d : List ℕ) (s : Spot) (i n : ℕ) → i ≤ n → tags_in d s i ≤ tags_in d s n
tags_more d s i zero l =
    let z : i ≡ 0 = omega arith in
    rw z (omega arith)
tags_more d s i (suc n) l =
    ⊎_elim
    (λ (z : i ≡ suc n). rw z (omega arith))
    (λ (z : i < suc n).
    let h = tags_more d s i n (omega arith) in
    omega (arith, h))
    (eq-or-lt_of_le l)

pub tag_before : (d : List ℕ) (s : Spot) (j n : ℕ) → j < n → tags_of (item_of d (behind d s j)) ≡ 1 → tags_in d s j < tags_in d s n
tag_before d s j n g o =
    let h : tags_in d s (suc j) ≤ tags_in d s n = tags_more d s (suc j) n (omega arith) in
    omega (arith, h, o)
