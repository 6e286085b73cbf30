-- `all_through` meets its contract. The invariant is `Gone`: from wherever the client stood, what it has come to is a pass in itself, and
-- it stands behind k tags. Each need is handed its law of proofs/Going.antt.
-- where the client began, and whether at the document's first item, is asked for no more
use mathlib.Core.Path.{refl}
use mathlib.Core.Logic.{inl, inr}
use native.Mathlib.Omega.{arith}
use borrow.Author.Rules.{rules}
use Rattle.matcher.proofs.Serving.{row_few, row_fit}
use Rattle.passes.proofs.Passing.{pass_ready, pass_many, pass_deep, Remembered, kept_there, known_there, known_stored, known_recalls}
use Rattle.passes.proofs.Passing.{tests_told, below_told, verdict_told_by}
use Rattle.passes.proofs.States.{stored}
use Rattle.seats.proofs.Going.{begun_placed, gone_start, going, going_near, going_placed, going_level, going_from, going_to}
use Rattle.seats.proofs.Going.{going_end, going_name, going_behind, going_head, going_deeper, going_tag}
use Rattle.seats.proofs.Going.{turn, turn_on, turn_start, turn_inside, turn_other, gone_over}
use Rattle.seats.proofs.seat.all_through.Goals.{then-not-is_of, else-not-is_of, then-level-lt-LEVELS, else-level-lt-LEVELS}
use Rattle.seats.proofs.seat.all_through.Goals as goal

pub states_of-made-requires : goal.states_of-made-requires
states_of-made-requires c = (
  c.requires.3,
  c.requires.0,
  begun_placed c.requires.4,
)

pub loop-k-init : goal.loop-k-init
loop-k-init c =
    λ a b g y. gone_start _ g y.taped c.states_of-made.ensures c.nothing-nothing.ensures

pub begin_on-at-requires : goal.begin_on-at-requires
begin_on-at-requires c =
    let few = c.requires.2 in
    let l = c.loop-k-test.true in
    omega (arith, few, l)

pub tag_on-next-requires : goal.tag_on-next-requires
tag_on-next-requires c =
    let few = c.requires.2 in
    let l = c.loop-k-test.true in
    omega (arith, few, l)

pub keep-requires : goal.keep-requires
keep-requires c =
    let u = turn (c.loop-k.invariant _ _ c.requires.4 c.requires.5) c.loop-k-test.true
    c.begin_on-at.ensures in
    let w = u.going in
    let names = (going w).judging.names in
    let near = going_near w u.near in
    let small = c.requires.0 in
    (names.starts_long, names.lens_long, omega (arith, near, small))

pub offset_bounds-states-level : goal.offset_bounds-states-level
offset_bounds-states-level c =
    let u = turn (c.loop-k.invariant _ _ c.requires.4 c.requires.5) c.loop-k-test.true c.begin_on-at.ensures in
    let below = going_level u.going u.near (turn_start u c.tag_on-next.ensures c.in-Start.is).1 in
    search (rules, below)

pub bounds-states-level : goal.bounds-states-level
bounds-states-level c =
    let u = turn (c.loop-k.invariant _ _ c.requires.4 c.requires.5) c.loop-k-test.true c.begin_on-at.ensures in
    let below = going_level u.going u.near (turn_start u c.tag_on-next.ensures c.in-Start.is).1 in
    let long = (going u.going).long in
    omega (arith, below, long)

pub overflow_add-a : goal.overflow_add-a
overflow_add-a c =
    let u = turn (c.loop-k.invariant _ _ c.requires.4 c.requires.5) c.loop-k-test.true c.begin_on-at.ensures in
    let near = going_near u.going u.near in
    let small = c.requires.0 in
    omega (arith, near, small)

pub overflow_add-a-in-Start : goal.overflow_add-a-in-Start
overflow_add-a-in-Start c =
    let u = turn (c.loop-k.invariant _ _ c.requires.4 c.requires.5) c.loop-k-test.true c.begin_on-at.ensures in
    let inside = going_name u.going u.near (turn_start u c.tag_on-next.ensures
    c.in-Start.is).1 in
    let small = c.requires.0 in
    omega (arith, inside, small)

pub slice_bounds-row_of-end : goal.slice_bounds-row_of-end
slice_bounds-row_of-end c =
    let u = turn (c.loop-k.invariant _ _ c.requires.4 c.requires.5) c.loop-k-test.true c.begin_on-at.ensures in
    let inside = going_name u.going u.near (turn_start u c.tag_on-next.ensures
    c.in-Start.is).1 in
    search (rules, inside)

pub row_of-row-requires : goal.row_of-row-requires
row_of-row-requires c =
    c.requires.3

pub offset_bounds-slots-level : goal.offset_bounds-slots-level
offset_bounds-slots-level c =
    let u = turn (c.loop-k.invariant _ _ c.requires.4 c.requires.5) c.loop-k-test.true c.begin_on-at.ensures in
    let below = going_level u.going u.near (turn_start u c.tag_on-next.ensures c.in-Start.is).1
    in
    search (rules, below)

pub bounds-slots-level : goal.bounds-slots-level
bounds-slots-level c =
    let u = turn (c.loop-k.invariant _ _ c.requires.4 c.requires.5) c.loop-k-test.true c.begin_on-at.ensures in
    let below = going_level u.going u.near (turn_start u c.tag_on-next.ensures c.in-Start.is).1
    in
    let long = (going u.going).slots_long in
    omega (arith, below, long)

pub offset_bounds-memo-slot : goal.offset_bounds-memo-slot
offset_bounds-memo-slot c =
    let l = c.slot_of-slot.ensures.1 in
    search (rules, l)

pub bounds-memo-slot : goal.bounds-memo-slot
bounds-memo-slot c =
    let u = turn (c.loop-k.invariant _ _
    c.requires.4 c.requires.5) c.loop-k-test.true c.begin_on-at.ensures in
    let l = c.slot_of-slot.ensures.1 in
    let long = (going u.going).memo_long in
    omega (arith, l, long)

pub made-requires : goal.made-requires
made-requires c =
    row_few c.requires.3 _ c.row_of-row.ensures

pub offset_bounds-memo-slot-then-not-is_of : goal.offset_bounds-memo-slot-then-not-is_of
offset_bounds-memo-slot-then-not-is_of c =
    let l = c.slot_of-slot.ensures.1 in
    search (rules, l)

pub bounds-memo-slot-then-not-is_of : goal.bounds-memo-slot-then-not-is_of
bounds-memo-slot-then-not-is_of c =
    let u = turn (c.loop-k.invariant _ _ c.requires.4 c.requires.5) c.loop-k-test.true c.begin_on-at.ensures in
    let l = c.slot_of-slot.ensures.1 in
    let long = (going u.going).memo_long in
    omega (arith, l, long)

pub offset_bounds-memo-slot-in-Start : goal.offset_bounds-memo-slot-in-Start
offset_bounds-memo-slot-in-Start c =
    let l = c.slot_of-slot.ensures.1 in
    search (rules, l)

pub bounds-memo-slot-in-Start : goal.bounds-memo-slot-in-Start
bounds-memo-slot-in-Start c =
    let u = turn (c.loop-k.invariant _ _ c.requires.4
    c.requires.5) c.loop-k-test.true c.begin_on-at.ensures in
    let v = going u.going in
    let l = c.slot_of-slot.ensures.1 in
    let there = kept_there l v.memo_long in
    let few = row_few c.requires.3 _ c.row_of-row.ensures in
    let known : Remembered _ _ _ _ c.loop-k.memo _ c.if-not-is_of.memo =
    elim c.if-not-is_of.branch [
      | then-not-is_of w ↦ known_stored _ _ _ _ c.loop-k.memo _ there w.made.ensures w.memo-is
      | else-not-is_of w ↦ known_there c.loop-k.memo v.recalls _ there few _ c.is_of.ensures w.if-not-is_of.false w.memo-is
    ] in
    let long = v.memo_long in
    let same = known.3 in
    omega (arith, l, long, same)

pub overflow_cast-tests : goal.overflow_cast-tests
overflow_cast-tests c =
    let u = turn (c.loop-k.invariant _ _ c.requires.4 c.requires.5) c.loop-k-test.true c.begin_on-at.ensures in
    let v = going u.going in
    let l = c.slot_of-slot.ensures.1 in
    let there = kept_there l v.memo_long in
    let few = row_few c.requires.3
    _ c.row_of-row.ensures in
    let known : Remembered _ _ _ _ c.loop-k.memo _ c.if-not-is_of.memo =
    elim c.if-not-is_of.branch [
      | then-not-is_of w ↦ known_stored _ _ _ _ c.loop-k.memo _ there w.made.ensures w.memo-is
      | else-not-is_of w ↦ known_there c.loop-k.memo v.recalls _ there few _ c.is_of.ensures w.if-not-is_of.false w.memo-is
    ] in
    let bound = known.2 in
    search (rules, bound)

pub overflow_add-tests : goal.overflow_add-tests
overflow_add-tests c =
    let u = turn (c.loop-k.invariant _ _ c.requires.4 c.requires.5) c.loop-k-test.true c.begin_on-at.ensures in
    let v = going u.going in
    let l = c.slot_of-slot.ensures.1 in
    let there = kept_there l v.memo_long in
    let few = row_few c.requires.3
    _ c.row_of-row.ensures in
    let known : Remembered _ _ _ _ c.loop-k.memo _ c.if-not-is_of.memo =
    elim c.if-not-is_of.branch [
      | then-not-is_of w ↦ known_stored _ _ _ _ c.loop-k.memo _ there w.made.ensures w.memo-is
      | else-not-is_of w ↦ known_there c.loop-k.memo v.recalls _ there few _ c.is_of.ensures w.if-not-is_of.false w.memo-is
    ] in
    pass_many v c.requires.0
    (going_near u.going u.near) known.2

pub judged-verdict-requires : goal.judged-verdict-requires
judged-verdict-requires c =
    let u = turn (c.loop-k.invariant _ _ c.requires.4 c.requires.5) c.loop-k-test.true c.begin_on-at.ensures in
    let v = going u.going in
    let l = c.slot_of-slot.ensures.1 in
    let there = kept_there l v.memo_long in
    let few = row_few c.requires.3
    _ c.row_of-row.ensures in
    let known : Remembered _ _ _ _ c.loop-k.memo _ c.if-not-is_of.memo =
    elim c.if-not-is_of.branch [
      | then-not-is_of w ↦ known_stored _ _ _ _ c.loop-k.memo _ there w.made.ensures w.memo-is
      | else-not-is_of w ↦ known_there c.loop-k.memo v.recalls _ there few _ c.is_of.ensures w.if-not-is_of.false w.memo-is
    ] in
    let w = u.going in
    let n = u.near in
    let s = (turn_start u c.tag_on-next.ensures c.in-Start.is).1 in (
      c.requires.3,
      c.any-tested.ensures,
      going_behind w n s,
      going_head w n s,
      few,
      verdict_told_by _ _ _ _ (known.1, known.2),
    )

pub overflow_add-level : goal.overflow_add-level
overflow_add-level c =
    let u = turn (c.loop-k.invariant _ _ c.requires.4 c.requires.5) c.loop-k-test.true c.begin_on-at.ensures in
    let below = going_level u.going u.near (turn_start u c.tag_on-next.ensures c.in-Start.is).1 in
    search (rules, below)

pub bounds-slots-level-then-level-lt-LEVELS : goal.bounds-slots-level-then-level-lt-LEVELS
bounds-slots-level-then-level-lt-LEVELS c =
    let u = turn (c.loop-k.invariant _ _ c.requires.4 c.requires.5) c.loop-k-test.true c.begin_on-at.ensures in
    let long = (going u.going).slots_long in
    let l = c.if-level-lt-LEVELS.true in
    omega (arith, l, long)

pub tag_step-run-requires : goal.tag_step-run-requires
tag_step-run-requires c =
    let u = turn (c.loop-k.invariant _ _ c.requires.4 c.requires.5) c.loop-k-test.true c.begin_on-at.ensures in
    let w = u.going in
    let l = u.near in
    let s = (turn_start u c.tag_on-next.ensures c.in-Start.is).1 in
    let k = c.keep.ensures in (
      pass_ready (going w) c.requires.0 c.requires.1
          (going_near w l),
      (going w).stands.behind,
      (going w).order,
      going_from w l s,
      going_to w l s,
      going_end w l s,
      going_deeper w l s k.starts_after k.lens_after,
    )

pub after-opened-requires : goal.after-opened-requires
after-opened-requires c =
    let u = turn (c.loop-k.invariant _ _ c.requires.4 c.requires.5) c.loop-k-test.true c.begin_on-at.ensures in
    pass_deep (going u.going) c.requires.0

pub loop-k-preserved-in-Start : goal.loop-k-preserved-in-Start
loop-k-preserved-in-Start c =
    λ a b g y.
    let u = turn (c.loop-k.invariant a b g
    y) c.loop-k-test.true c.begin_on-at.ensures in
    let v = going u.going in
    let l = c.slot_of-slot.ensures.1 in
    let there = kept_there l v.memo_long in
    let few = row_few c.requires.3 _ c.row_of-row.ensures in
    let known : Remembered _ _ _ _ c.loop-k.memo _ c.if-not-is_of.memo =
    elim c.if-not-is_of.branch [
      | then-not-is_of w ↦ known_stored _ _ _ _ c.loop-k.memo _ there w.made.ensures w.memo-is
      | else-not-is_of w ↦ known_there c.loop-k.memo v.recalls _ there few _ c.is_of.ensures w.if-not-is_of.false w.memo-is
    ] in
    let serves = c.requires.3 in
    let k = c.keep.ensures in
    turn_on u (going_tag u.going u.near (turn_start u c.tag_on-next.ensures c.in-Start.is).1 k.starts_after k.lens_after
    serves.sound refl
    (row_fit serves _ c.row_of-row.ensures) c.judged-verdict.ensures
    (elim c.if-level-lt-LEVELS.branch [
      | then-level-lt-LEVELS w ↦ stored _ w.if-level-lt-LEVELS.true (below_told _ _ _ _ (known.1, known.2)) w.states-is
      | else-level-lt-LEVELS w ↦ inr (w.if-level-lt-LEVELS.false, w.states-is)
    ])
    _ known.0 (known_recalls _ _ _ _ (known.1, known.2))
    (elim c.if-level-lt-LEVELS.branch [ then-level-lt-LEVELS w ↦ inl (_, _, w.slots-is) | else-level-lt-LEVELS w ↦ inr w.slots-is ])
    (tests_told _ _ _ _ (known.1, known.2)) c.tag_step-run.ensures c.after-opened.ensures)

pub other_step-run-requires : goal.other_step-run-requires
other_step-run-requires c =
    let u = turn (c.loop-k.invariant _ _ c.requires.4 c.requires.5) c.loop-k-test.true
    c.begin_on-at.ensures in
    let w = u.going in
    let l = u.near in (
      pass_ready (going w) c.requires.0 c.requires.1
          (going_near w l),
      (going w).stands.behind,
      (going w).order,
      turn_inside u c.tag_on-next.ensures c.in_default.not-Start,
      (going w).judging.within,
      going_placed w l,
    )

pub after-opened-requires-in-loop-k : goal.after-opened-requires-in-loop-k
after-opened-requires-in-loop-k c =
    let u = turn (c.loop-k.invariant _ _
    c.requires.4 c.requires.5) c.loop-k-test.true c.begin_on-at.ensures in
    pass_deep (going u.going) c.requires.0

pub loop-k-preserved : goal.loop-k-preserved
loop-k-preserved c =
    λ a b g y.
    turn_other (turn (c.loop-k.invariant a b g y) c.loop-k-test.true c.begin_on-at.ensures) c.tag_on-next.ensures c.in_default.not-Start
    c.other_step-run.ensures
    c.after-opened-in-loop-k.ensures

pub shape_of-out : goal.shape_of-out
shape_of-out c =
    let e = (gone_over (c.loop-k.invariant _ _ c.requires.4 c.requires.5) c.loop-k-test.false c.requires.5.to_is
    c.requires.5.first_is).room in
    search (rules, e)

pub shape_of-log : goal.shape_of-log
shape_of-log c =
    let e = (gone_over (c.loop-k.invariant _ _ c.requires.4 c.requires.5) c.loop-k-test.false c.requires.5.to_is
    c.requires.5.first_is).log_room in
    search (rules, e)

pub returns : goal.returns
returns c =
    λ y. gone_over (c.loop-k.invariant _ _ c.requires.4 y) c.loop-k-test.false y.to_is y.first_is
