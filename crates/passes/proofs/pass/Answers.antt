-- `pass` meets its contract. The invariant is `Passing`: the code's state stands for an engine from which the rest of the pass comes to
-- what it comes to from the start, and the scan does too; what is kept of elements is known of them. Each need is handed its law of
-- proofs/Passing.antt.
use mathlib.Core.Path.{refl}
use mathlib.Core.Logic.{inl, inr}
use native.Mathlib.Omega.{arith}
use Prim.Native.Nat.{◌-◌}
use borrow.Author.Rules.{rules}
use Rattle.matcher.proofs.Serving.{row_few, row_fit}
use Rattle.passes.proofs.Passing.{pass_start, pass_fault, pass_over, pass_ready, pass_many, pass_deep, pass_within}
use Rattle.passes.proofs.Passing.{pass_next, Remembered, kept_there, known_there, known_stored, known_recalls, tests_told}
use Rattle.passes.proofs.Passing.{below_told, verdict_told_by}
use Rattle.passes.proofs.Passing.{pass_fits, pass_inside, pass_less, pass_placed, pass_other, tag_level, tag_from, tag_to}
use Rattle.passes.proofs.Passing.{tag_inside, tag_name, tag_fits, tag_less, tag_placed, tag_behind, tag_head}
use Rattle.passes.proofs.Passing.{verdict_judged, pass_tag}
use Rattle.passes.proofs.States.{stored}
use Rattle.passes.proofs.pass.Goals.{then-not-is_of, else-not-is_of, then-level-lt-LEVELS, else-level-lt-LEVELS}
use Rattle.passes.proofs.pass.Goals as goal

pub loop-why-init : goal.loop-why-init
loop-why-init c =
    pass_start _ _ _ _ _ _ c.none-opened.ensures c.none-run.ensures c.start_of-at.ensures c.fresh-fresh.ensures c.nothing-nothing.ensures

pub next_item-seen-requires : goal.next_item-seen-requires
next_item-seen-requires c =
    let v = c.loop-why.invariant in (
      v.judging.names,
      c.requires.0,
      v.opens,
      v.judging.within,
    )

pub returns-in-Fault : goal.returns-in-Fault
returns-in-Fault c =
    pass_fault c.loop-why.invariant c.next_item-seen.ensures.item_value c.next_item-seen.ensures.placed_value _ c.in-Fault.is

pub returns-in-Over : goal.returns-in-Over
returns-in-Over c =
    pass_over c.loop-why.invariant c.next_item-seen.ensures.item_value c.next_item-seen.ensures.placed_value c.in-Over.is

pub keep-requires : goal.keep-requires
keep-requires c =
    let v = c.loop-why.invariant in
    let e = c.next_item-seen.ensures.item_value in
    let q = c.next_item-seen.ensures.placed_value in
    let h = c.in-Fine.is in
    let names = v.judging.names in (
      names.starts_long,
      names.lens_long,
      pass_next v e q h c.requires.0,
    )

pub offset_bounds-states-level : goal.offset_bounds-states-level
offset_bounds-states-level c =
    let v = c.loop-why.invariant in
    let e = c.next_item-seen.ensures.item_value in
    let q = c.next_item-seen.ensures.placed_value in
    let h = c.in-Fine.is in
    let s = c.in-Start.is in
    let below = tag_level v e q h s in
    search (rules, below)

pub bounds-states-level : goal.bounds-states-level
bounds-states-level c =
    let v = c.loop-why.invariant in
    let e = c.next_item-seen.ensures.item_value in
    let q = c.next_item-seen.ensures.placed_value in
    let h = c.in-Fine.is in
    let s = c.in-Start.is in
    tag_level v e q h s

pub overflow_add-a : goal.overflow_add-a
overflow_add-a c =
    let v = c.loop-why.invariant in
    let e = c.next_item-seen.ensures.item_value in
    let q = c.next_item-seen.ensures.placed_value in
    let h = c.in-Fine.is in
    pass_fits v e q h c.requires.0

pub overflow_add-a-in-Start : goal.overflow_add-a-in-Start
overflow_add-a-in-Start c =
    let v = c.loop-why.invariant in
    let e = c.next_item-seen.ensures.item_value in
    let q = c.next_item-seen.ensures.placed_value in
    let h = c.in-Fine.is in
    let s = c.in-Start.is in
    tag_fits v e q h s c.requires.0

pub slice_bounds-row_of-end : goal.slice_bounds-row_of-end
slice_bounds-row_of-end c =
    let v = c.loop-why.invariant in
    let e = c.next_item-seen.ensures.item_value in
    let q = c.next_item-seen.ensures.placed_value in
    let h = c.in-Fine.is in
    let s = c.in-Start.is in
    let inside = tag_name v e q h s in
    search (rules, inside)

pub row_of-row-requires : goal.row_of-row-requires
row_of-row-requires c =
    c.requires.1

pub offset_bounds-slots-level : goal.offset_bounds-slots-level
offset_bounds-slots-level c =
    let v = c.loop-why.invariant in
    let e = c.next_item-seen.ensures.item_value in
    let q = c.next_item-seen.ensures.placed_value in
    let h = c.in-Fine.is in
    let s = c.in-Start.is in
    let below = tag_level v e q h s in
    search (rules, below)

pub bounds-slots-level : goal.bounds-slots-level
bounds-slots-level c =
    let v = c.loop-why.invariant in
    let e = c.next_item-seen.ensures.item_value in
    let q = c.next_item-seen.ensures.placed_value in
    let h = c.in-Fine.is in
    let s = c.in-Start.is in
    let below = tag_level v e q h s in
    let long = v.slots_long in
    omega (arith, below, long)

pub offset_bounds-memo-slot : goal.offset_bounds-memo-slot
offset_bounds-memo-slot c =
    let l = c.slot_of-slot.ensures.1 in
    search (rules, l)

pub bounds-memo-slot : goal.bounds-memo-slot
bounds-memo-slot c =
    let l = c.slot_of-slot.ensures.1 in
    let long = c.loop-why.invariant.memo_long in
    omega (arith, l, long)

pub made-requires : goal.made-requires
made-requires c =
    row_few c.requires.1 _ c.row_of-row.ensures

pub offset_bounds-memo-slot-then-not-is_of : goal.offset_bounds-memo-slot-then-not-is_of
offset_bounds-memo-slot-then-not-is_of c =
    let l = c.slot_of-slot.ensures.1 in
    search (rules, l)

pub bounds-memo-slot-then-not-is_of : goal.bounds-memo-slot-then-not-is_of
bounds-memo-slot-then-not-is_of c =
    let l = c.slot_of-slot.ensures.1 in
    let long = c.loop-why.invariant.memo_long in
    omega (arith, l, long)

pub offset_bounds-memo-slot-in-Start : goal.offset_bounds-memo-slot-in-Start
offset_bounds-memo-slot-in-Start c =
    let l = c.slot_of-slot.ensures.1 in
    search (rules, l)

pub bounds-memo-slot-in-Start : goal.bounds-memo-slot-in-Start
bounds-memo-slot-in-Start c =
    let v = c.loop-why.invariant in
    let l = c.slot_of-slot.ensures.1 in
    let long = v.memo_long in
    let there = kept_there l long in
    let few = row_few c.requires.1 _ c.row_of-row.ensures in
    let known : Remembered _ _ _ _ c.loop-why.memo _ c.if-not-is_of.memo =
    elim c.if-not-is_of.branch [
      | then-not-is_of w ↦ known_stored _ _ _ _ c.loop-why.memo _ there w.made.ensures w.memo-is
      | else-not-is_of w ↦ known_there c.loop-why.memo v.recalls _ there few _ c.is_of.ensures w.if-not-is_of.false w.memo-is
    ] in
    let same = known.3 in
    omega (arith, l, long, same)

pub overflow_cast-tests : goal.overflow_cast-tests
overflow_cast-tests c =
    let v = c.loop-why.invariant in
    let l = c.slot_of-slot.ensures.1 in
    let long = v.memo_long in
    let there = kept_there l long in
    let few = row_few c.requires.1 _ c.row_of-row.ensures in
    let known : Remembered _ _ _ _ c.loop-why.memo _ c.if-not-is_of.memo =
    elim c.if-not-is_of.branch [
      | then-not-is_of w ↦ known_stored _ _ _ _ c.loop-why.memo _ there w.made.ensures w.memo-is
      | else-not-is_of w ↦ known_there c.loop-why.memo v.recalls _ there few _ c.is_of.ensures w.if-not-is_of.false w.memo-is
    ] in
    let bound = known.2 in
    search (rules, bound)

pub overflow_add-tests : goal.overflow_add-tests
overflow_add-tests c =
    let v = c.loop-why.invariant in
    let e = c.next_item-seen.ensures.item_value in
    let q = c.next_item-seen.ensures.placed_value in
    let h = c.in-Fine.is in
    let l = c.slot_of-slot.ensures.1 in
    let long = v.memo_long in
    let there = kept_there l long in
    let few = row_few c.requires.1 _ c.row_of-row.ensures in
    let known : Remembered _ _ _ _ c.loop-why.memo _ c.if-not-is_of.memo =
    elim c.if-not-is_of.branch [
      | then-not-is_of w ↦ known_stored _ _ _ _ c.loop-why.memo _ there w.made.ensures w.memo-is
      | else-not-is_of w ↦ known_there c.loop-why.memo v.recalls _ there few _ c.is_of.ensures w.if-not-is_of.false w.memo-is
    ] in
    pass_many v c.requires.0 (pass_within v e q h) known.2

pub judged-verdict-requires : goal.judged-verdict-requires
judged-verdict-requires c =
    let v = c.loop-why.invariant in
    let e = c.next_item-seen.ensures.item_value in
    let q = c.next_item-seen.ensures.placed_value in
    let h = c.in-Fine.is in
    let s = c.in-Start.is in
    let l = c.slot_of-slot.ensures.1 in
    let long = v.memo_long in
    let there = kept_there l long in
    let few = row_few c.requires.1 _ c.row_of-row.ensures in
    let known : Remembered _ _ _ _ c.loop-why.memo _ c.if-not-is_of.memo =
    elim c.if-not-is_of.branch [
      | then-not-is_of w ↦ known_stored _ _ _ _ c.loop-why.memo _ there w.made.ensures w.memo-is
      | else-not-is_of w ↦ known_there c.loop-why.memo v.recalls _ there few _ c.is_of.ensures w.if-not-is_of.false w.memo-is
    ] in (
      c.requires.1,
      c.any-tested.ensures,
      tag_behind v e q h s,
      tag_head v e q h s,
      few,
      verdict_told_by _ _ _ _ (known.1, known.2),
    )

pub overflow_add-level : goal.overflow_add-level
overflow_add-level c =
    let v = c.loop-why.invariant in
    let e = c.next_item-seen.ensures.item_value in
    let q = c.next_item-seen.ensures.placed_value in
    let h = c.in-Fine.is in
    let s = c.in-Start.is in
    let below = tag_level v e q h s in
    search (rules, below)

pub bounds-slots-level-then-level-lt-LEVELS : goal.bounds-slots-level-then-level-lt-LEVELS
bounds-slots-level-then-level-lt-LEVELS c =
    let long = c.loop-why.invariant.slots_long in
    let l = c.if-level-lt-LEVELS.true in
    omega (arith, l, long)

pub tag_step-run-requires : goal.tag_step-run-requires
tag_step-run-requires c =
    let v = c.loop-why.invariant in
    let e = c.next_item-seen.ensures.item_value in
    let q = c.next_item-seen.ensures.placed_value in
    let h = c.in-Fine.is in
    let s = c.in-Start.is in
    let k = c.keep.ensures in (
      pass_ready v c.requires.0 c.requires.2 (pass_within v e q h),
      v.stands.behind,
      v.order,
      tag_from v e q h s,
      tag_to v e q h s,
      tag_inside v e q h s,
      tag_placed v e q h s k.starts_after k.lens_after,
    )

pub after-opened-requires : goal.after-opened-requires
after-opened-requires c =
    pass_deep c.loop-why.invariant c.requires.0

pub loop-why-smaller-in-Start : goal.loop-why-smaller-in-Start
loop-why-smaller-in-Start c =
    let v = c.loop-why.invariant in
    let e = c.next_item-seen.ensures.item_value in
    let q = c.next_item-seen.ensures.placed_value in
    let h = c.in-Fine.is in
    let s = c.in-Start.is in
    tag_less v e q h s

pub loop-why-preserved-in-Start : goal.loop-why-preserved-in-Start
loop-why-preserved-in-Start c =
    let v = c.loop-why.invariant in
    let e = c.next_item-seen.ensures.item_value in
    let q = c.next_item-seen.ensures.placed_value in
    let h = c.in-Fine.is in
    let s = c.in-Start.is in
    let k = c.keep.ensures in
    let serves = c.requires.1 in
    let f = row_fit serves _ c.row_of-row.ensures in
    let l = c.slot_of-slot.ensures.1 in
    let long = v.memo_long in
    let there = kept_there l long in
    let few = row_few c.requires.1 _ c.row_of-row.ensures in
    let known : Remembered _ _ _ _ c.loop-why.memo _ c.if-not-is_of.memo =
    elim c.if-not-is_of.branch [
      | then-not-is_of w ↦ known_stored _ _ _ _ c.loop-why.memo _ there w.made.ensures w.memo-is
      | else-not-is_of w ↦ known_there c.loop-why.memo v.recalls _ there few _ c.is_of.ensures w.if-not-is_of.false w.memo-is
    ] in
    pass_tag v e q h s k.starts_after k.lens_after serves.sound refl f
    (verdict_judged v e q h s k.starts_after k.lens_after serves.sound refl f c.judged-verdict.ensures)
    (elim c.if-level-lt-LEVELS.branch [
      | then-level-lt-LEVELS w ↦ stored _ w.if-level-lt-LEVELS.true (below_told _ _ _ _ (known.1, known.2)) w.states-is
      | else-level-lt-LEVELS w ↦ inr (w.if-level-lt-LEVELS.false, w.states-is)
    ])
    _ known.0 (known_recalls _ _ _ _ (known.1, known.2))
    (elim c.if-level-lt-LEVELS.branch [ then-level-lt-LEVELS w ↦ inl (_, _, w.slots-is) | else-level-lt-LEVELS w ↦ inr w.slots-is ])
    (tests_told _ _ _ _ (known.1, known.2)) c.tag_step-run.ensures c.after-opened.ensures

pub other_step-run-requires : goal.other_step-run-requires
other_step-run-requires c =
    let v = c.loop-why.invariant in
    let e = c.next_item-seen.ensures.item_value in
    let q = c.next_item-seen.ensures.placed_value in
    let h = c.in-Fine.is in (
      pass_ready v c.requires.0 c.requires.2 (pass_within v e q h),
      v.stands.behind,
      v.order,
      pass_inside v e q h,
      v.judging.within,
      pass_placed v e q h,
    )

pub after-opened-requires-in-Fine : goal.after-opened-requires-in-Fine
after-opened-requires-in-Fine c =
    pass_deep c.loop-why.invariant c.requires.0

pub loop-why-smaller : goal.loop-why-smaller
loop-why-smaller c =
    let v = c.loop-why.invariant in
    let e = c.next_item-seen.ensures.item_value in
    let q = c.next_item-seen.ensures.placed_value in
    let h = c.in-Fine.is in
    pass_less v e q h c.end_of-at.ensures

pub loop-why-preserved : goal.loop-why-preserved
loop-why-preserved c =
    let v = c.loop-why.invariant in
    let e = c.next_item-seen.ensures.item_value in
    let q = c.next_item-seen.ensures.placed_value in
    let h = c.in-Fine.is in
    pass_other v e q h c.in_default.not-Start c.other_step-run.ensures c.after-opened-in-Fine.ensures c.end_of-at.ensures
