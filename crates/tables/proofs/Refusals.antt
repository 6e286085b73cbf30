-- A table is refused as a cut is, whatever the room for either.
use mathlib.Core.Path.{◌≡◌, refl}
use mathlib.Core.Bool.{Bool, true, false, cond}
use mathlib.Core.List.{List}
use Prim.Native.Nat.{ℕ}
use native.Mathlib.Omega.{arith}
use borrow.Author.Tests.{ltb-true, ltb-false}
use lib.Dec.{ltb}
use lib.ListN.{length}
use Rattle.std.specs.Prelude.{Result, Ok, Err, ⊤}
use Rattle.paths.specs.Judge.{list_answer}
use Rattle.paths.specs.declared.ListError.{ListError}
use Rattle.document.specs.Judge.{judge_of}
use Rattle.document.specs.declared.DocumentError.{DocumentError}
use Rattle.trees.specs.Written.{count_of}
use Rattle.cutter.specs.declared.answer.Cut.{Cut}
use Rattle.refusals.specs.declared.CutError.{CutError}
use Rattle.cutter.specs.Answer.{answer_of as cut_answer, by_list, by_document}
use Rattle.rows.specs.Table.{table_of}
use Rattle.sheet.specs.Answer.{answer_of, by_room}
use Rattle.refusals.specs.declared.CutError.TheVariants as errors
use Rattle.tables.specs.Refused.{Refused, alike, short, written}

module _ (w : List ℕ) (c room : ℕ) where
  -- both sound
  by_room_lem : (a : Result Cut CutError) (z : Bool) → ltb room (length w) ≡ z
      → Refused (Ok tt) (Ok tt) w c room a (cond z (Err (errors.Short (length w))) (Ok (record { length = length w; selected = c })))
  by_room_lem a true q = short refl refl (ltb-true room (length w) q) refl refl refl
  by_room_lem a false q = written refl refl (ltb-false room (length w) q) refl refl refl

  refused : (a : Result Cut CutError) (x : Result ⊤ ListError) (y : Result ⊤ DocumentError)
      → Refused x y w c room (by_list x (by_document y a)) (by_list x (by_document y (by_room room w c)))
  refused a (Ok _) (Ok _) = by_room_lem a (ltb room (length w)) refl
  refused a (Ok _) (Err e) = alike (λ p q. let z : ◌≡◌ {A = ℕ} 0 1 = cc in omega arith) refl refl refl
  refused a (Err e) y = alike (λ p q. let z : ◌≡◌ {A = ℕ} 0 1 = cc in omega arith) refl refl refl

pub refused_as_a_cut : (list d : List ℕ) (room cut_room : ℕ)
    → Refused (list_answer list) (judge_of d) (table_of list d) (count_of list d) room (cut_answer list d cut_room) (answer_of list d room)
unfolding answer_of cut_answer
refused_as_a_cut list d room cut_room = refused (table_of list d) (count_of list d) room _ (list_answer list) (judge_of d)
