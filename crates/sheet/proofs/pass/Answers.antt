-- `pass` meets its contract. The invariant is `Walking`: the records laid so far and those of what is left are the records of the document,
-- and so are the elements counted. Each goal is handed its law of proofs/Walking.antt.
use mathlib.Core.Path.{refl}
use mathlib.Core.Logic.{inl, inr}
use native.Mathlib.Omega.{arith}
use Prim.Native.Nat.{◌-◌}
use borrow.Author.Rules.{rules}
use Rattle.matcher.proofs.Serving.{row_few, row_fit}
use Rattle.passes.proofs.Passing.{known_recalls, below_told, verdict_told_by}
use Rattle.passes.proofs.States.{stored}
use Rattle.sheet.proofs.Walking.{walk_start, walk_fault, walk_over, walk_near, walk_few, walk_other, walk_tag}
use Rattle.sheet.proofs.Walking.{header_short, item_next, item_fits, item_less, tag_level, tag_inside, tag_name, tag_fits}
use Rattle.sheet.proofs.Walking.{tag_less, tag_behind, tag_head, tag_plain, tag_judged}
use Rattle.sheet.proofs.pass.Goals.{then-level-lt-LEVELS, else-level-lt-LEVELS}
use Rattle.sheet.proofs.pass.Goals as goal

pub loop-why-init : goal.loop-why-init
loop-why-init c =
    walk_start _ _ _ _ c.none-opened.ensures c.start_of-at.ensures c.fresh-fresh.ensures c.nothing-nothing.ensures

pub next_item-seen-requires : goal.next_item-seen-requires
next_item-seen-requires c =
    let v = c.loop-why.invariant in (
      v.judging.names,
      c.requires.0,
      v.opens,
      v.judging.within,
    )

pub returns-in-Fault : goal.returns-in-Fault
returns-in-Fault c =
    walk_fault c.loop-why.invariant c.next_item-seen.ensures.item_value c.next_item-seen.ensures.placed_value _ _ c.in-Fault.is

pub returns-in-Over : goal.returns-in-Over
returns-in-Over c =
    walk_over c.loop-why.invariant c.next_item-seen.ensures.item_value c.next_item-seen.ensures.placed_value c.lay_header-header.ensures
    c.in-Over.is

pub keep-requires : goal.keep-requires
keep-requires c =
    let v = c.loop-why.invariant in
    let e = c.next_item-seen.ensures.item_value in
    let q = c.next_item-seen.ensures.placed_value in
    let h = c.in-Fine.is in
    let names = v.judging.names in (
      names.starts_long,
      names.lens_long,
      item_next v.judging e q h c.requires.0,
    )

pub offset_bounds-states-level : goal.offset_bounds-states-level
offset_bounds-states-level c =
    let v = c.loop-why.invariant in
    let e = c.next_item-seen.ensures.item_value in
    let q = c.next_item-seen.ensures.placed_value in
    let h = c.in-Fine.is in
    let s = c.in-Start.is in
    let below = tag_level v.judging e q h s in
    search (rules, below)

pub bounds-states-level : goal.bounds-states-level
bounds-states-level c =
    let v = c.loop-why.invariant in
    let e = c.next_item-seen.ensures.item_value in
    let q = c.next_item-seen.ensures.placed_value in
    let h = c.in-Fine.is in
    let s = c.in-Start.is in
    tag_level v.judging e q h s

pub overflow_add-a : goal.overflow_add-a
overflow_add-a c =
    let v = c.loop-why.invariant in
    let e = c.next_item-seen.ensures.item_value in
    let q = c.next_item-seen.ensures.placed_value in
    let h = c.in-Fine.is in
    item_fits v.judging e q h c.requires.0

pub overflow_add-a-in-Start : goal.overflow_add-a-in-Start
overflow_add-a-in-Start c =
    let v = c.loop-why.invariant in
    let e = c.next_item-seen.ensures.item_value in
    let q = c.next_item-seen.ensures.placed_value in
    let h = c.in-Fine.is in
    let s = c.in-Start.is in
    tag_fits v.judging e q h s c.requires.0

pub slice_bounds-row_of-end : goal.slice_bounds-row_of-end
slice_bounds-row_of-end c =
    let v = c.loop-why.invariant in
    let e = c.next_item-seen.ensures.item_value in
    let q = c.next_item-seen.ensures.placed_value in
    let h = c.in-Fine.is in
    let s = c.in-Start.is in
    let inside = tag_name v.judging e q h s in
    search (rules, inside)

pub row_of-row-requires : goal.row_of-row-requires
row_of-row-requires c =
    c.requires.1

pub offset_bounds-slots-level : goal.offset_bounds-slots-level
offset_bounds-slots-level c =
    let v = c.loop-why.invariant in
    let e = c.next_item-seen.ensures.item_value in
    let q = c.next_item-seen.ensures.placed_value in
    let h = c.in-Fine.is in
    let s = c.in-Start.is in
    let below = tag_level v.judging e q h s in
    search (rules, below)

pub bounds-slots-level : goal.bounds-slots-level
bounds-slots-level c =
    let v = c.loop-why.invariant in
    let e = c.next_item-seen.ensures.item_value in
    let q = c.next_item-seen.ensures.placed_value in
    let h = c.in-Fine.is in
    let s = c.in-Start.is in
    let below = tag_level v.judging e q h s in
    let long = v.slots_long in
    omega (arith, below, long)

pub offset_bounds-memo-slot : goal.offset_bounds-memo-slot
offset_bounds-memo-slot c =
    let l = c.slot_of-slot.ensures.1 in
    search (rules, l)

pub bounds-memo-slot : goal.bounds-memo-slot
bounds-memo-slot c =
    let l = c.slot_of-slot.ensures.1 in
    let long = c.loop-why.invariant.memo_long in
    omega (arith, l, long)

pub renewed-known-requires : goal.renewed-known-requires
renewed-known-requires c =
    let v = c.loop-why.invariant in
    let l = c.slot_of-slot.ensures.1 in
    let long = v.memo_long in (
      v.recalls _ (omega (arith, l, long)),
      row_few c.requires.1 _ c.row_of-row.ensures,
    )

pub offset_bounds-memo-slot-in-Start : goal.offset_bounds-memo-slot-in-Start
offset_bounds-memo-slot-in-Start c =
    let l = c.slot_of-slot.ensures.1 in
    search (rules, l)

pub bounds-memo-slot-in-Start : goal.bounds-memo-slot-in-Start
bounds-memo-slot-in-Start c =
    let l = c.slot_of-slot.ensures.1 in
    let long = c.loop-why.invariant.memo_long in
    omega (arith, l, long)

pub judged-verdict-requires : goal.judged-verdict-requires
judged-verdict-requires c =
    let v = c.loop-why.invariant in
    let e = c.next_item-seen.ensures.item_value in
    let q = c.next_item-seen.ensures.placed_value in
    let h = c.in-Fine.is in
    let s = c.in-Start.is in (
      c.requires.1,
      c.any-tested.ensures,
      tag_behind v.judging e q h s,
      tag_head v.judging e q h s,
      row_few c.requires.1 _ c.row_of-row.ensures,
      verdict_told_by _ _ _ _ c.renewed-known.ensures,
    )

pub overflow_add-level : goal.overflow_add-level
overflow_add-level c =
    let v = c.loop-why.invariant in
    let e = c.next_item-seen.ensures.item_value in
    let q = c.next_item-seen.ensures.placed_value in
    let h = c.in-Fine.is in
    let s = c.in-Start.is in
    let below = tag_level v.judging e q h s in
    search (rules, below)

pub bounds-slots-level-then-level-lt-LEVELS : goal.bounds-slots-level-then-level-lt-LEVELS
bounds-slots-level-then-level-lt-LEVELS c =
    let long = c.loop-why.invariant.slots_long in
    let l = c.if-level-lt-LEVELS.true in
    omega (arith, l, long)

pub start-run-requires : goal.start-run-requires
start-run-requires c =
    let v = c.loop-why.invariant in
    let e = c.next_item-seen.ensures.item_value in
    let q = c.next_item-seen.ensures.placed_value in
    let h = c.in-Fine.is in
    let s = c.in-Start.is in
    let k = c.keep.ensures in (
      c.requires.0,
      tag_inside v.judging e q h s,
      tag_plain v.judging e q h s k.starts_after k.lens_after v.opens,
      walk_near v e q h c.requires.0 (header_short c.lay_header-header.ensures),
      walk_few v e q h c.requires.0,
    )

pub after-opened-requires : goal.after-opened-requires
after-opened-requires c =
    c.loop-why.invariant.judging.names.deep

pub loop-why-smaller-in-Start : goal.loop-why-smaller-in-Start
loop-why-smaller-in-Start c =
    let v = c.loop-why.invariant in
    let e = c.next_item-seen.ensures.item_value in
    let q = c.next_item-seen.ensures.placed_value in
    let h = c.in-Fine.is in
    let s = c.in-Start.is in
    tag_less v.judging e q h s

pub loop-why-preserved-in-Start : goal.loop-why-preserved-in-Start
loop-why-preserved-in-Start c =
    let v = c.loop-why.invariant in
    let e = c.next_item-seen.ensures.item_value in
    let q = c.next_item-seen.ensures.placed_value in
    let h = c.in-Fine.is in
    let s = c.in-Start.is in
    let k = c.keep.ensures in
    let serves = c.requires.1 in
    let f = row_fit serves _ c.row_of-row.ensures in
    let known = c.renewed-known.ensures in
    walk_tag v e q h k.starts_after k.lens_after s serves.sound refl f
    (tag_judged v e q h k.starts_after k.lens_after s serves.sound refl f c.judged-verdict.ensures)
    (elim c.if-level-lt-LEVELS.branch [
      | then-level-lt-LEVELS w ↦ stored _ w.if-level-lt-LEVELS.true (below_told _ _ _ _ known) w.states-is
      | else-level-lt-LEVELS w ↦ inr (w.if-level-lt-LEVELS.false, w.states-is)
    ])
    _ refl (known_recalls _ _ _ _ known)
    (elim c.if-level-lt-LEVELS.branch [ then-level-lt-LEVELS w ↦ inl (_, _, w.slots-is) | else-level-lt-LEVELS w ↦ inr w.slots-is ])
    c.start-run.ensures c.after-opened.ensures

pub after-opened-requires-in-Fine : goal.after-opened-requires-in-Fine
after-opened-requires-in-Fine c =
    c.loop-why.invariant.judging.names.deep

pub loop-why-smaller : goal.loop-why-smaller
loop-why-smaller c =
    let v = c.loop-why.invariant in
    let e = c.next_item-seen.ensures.item_value in
    let q = c.next_item-seen.ensures.placed_value in
    let h = c.in-Fine.is in
    item_less v.judging e q h c.end_of-at.ensures

pub loop-why-preserved : goal.loop-why-preserved
loop-why-preserved c =
    let v = c.loop-why.invariant in
    let e = c.next_item-seen.ensures.item_value in
    let q = c.next_item-seen.ensures.placed_value in
    let h = c.in-Fine.is in
    let k = c.keep.ensures in
    walk_other v e q h k.starts_after k.lens_after c.in_default.not-Start c.after-opened-in-Fine.ensures c.end_of-at.ensures
