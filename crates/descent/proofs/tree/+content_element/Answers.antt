-- `element` and `content` meet their contracts. proofs/Reading.antt has the laws of content, proofs/Ending.antt those of an element.
use Rattle.std.proofs.Common.{[], arith}
use borrow.Author.Rules.{rules}
use Rattle.std.proofs.lemmas.Result.{err_from_is_err_and}
use Rattle.descent.proofs.Reading.{reading, read_finish, read_aside, read_ready, read_from, read_to, read_level}
use Rattle.descent.proofs.Reading.{read_behind, read_head, read_tag, read_inner_fault}
use Rattle.descent.proofs.Ending.{begin_ready, element_empty, element_fault, element_ends, finish_from, finish_to}
use Rattle.descent.proofs.tree.+content_element.Goals as goal

pub content-place-requires : goal.content-place-requires
content-place-requires t c = search reading

pub content-returns-in-Fault : goal.content-returns-in-Fault
content-returns-in-Fault t c = search reading

pub content-returns-in-Finish : goal.content-returns-in-Finish
content-returns-in-Finish t c =
    read_finish c.loop-why.invariant c.item-next.ensures c.place.ensures (search rules) c.in-Finish.is

pub content-element-requires : goal.content-element-requires
content-element-requires t c =
    let pre = c.requires in
    let inv = c.loop-why.invariant in
    let item = c.item-next.ensures in
    let place = c.place.ensures in
    let fine = c.in-Fine.is in
    let is = c.in-Start.is in
    let deep = read_level inv item place fine is in (
      omega (arith, deep),
      (
        pre.0,
        deep,
        inv.safe,
        read_behind inv item place fine is,
        read_head inv item place fine is,
        read_tag inv item place fine is,
      ),
    )

pub content-returns-in_err-inner-in-Fine : goal.content-returns-in_err-inner-in-Fine
content-returns-in_err-inner-in-Fine t c =
    let x = err_from_is_err_and c.from_residual.result c.from_residual.ensures.1 in
    rw (x.1, x.2)
    (read_inner_fault c.loop-why.invariant c.item-next.ensures c.place.ensures c.in-Fine.is c.in-Start.is _ _ c.element.ensures
    c.in_err-inner-in-Fine.was)

pub content-aside-run-requires : goal.content-aside-run-requires
content-aside-run-requires t c = (
  read_ready c.loop-why.invariant c.item-next.ensures c.place.ensures (search rules),
  read_from c.loop-why.invariant c.item-next.ensures c.place.ensures (search rules) c.end_of-end.ensures,
  read_to c.loop-why.invariant c.item-next.ensures c.place.ensures (search rules) c.end_of-end.ensures,
)

pub content-loop-why-smaller : goal.content-loop-why-smaller
content-loop-why-smaller t c = search reading

pub content-loop-why-preserved : goal.content-loop-why-preserved
content-loop-why-preserved t c =
    let inv = c.loop-why.invariant in
    let item = c.item-next.ensures in
    let fine = c.in-Fine.is in
    let unfinished = c.in_default.not-Finish in
    let unstarted = c.in_default-next.not-Start in
    let aside = c.aside-run.ensures in
    read_aside inv item c.place.ensures fine unfinished unstarted c.end_of-end.ensures aside.moves aside.level_stays

pub element-returns-then-empty : goal.element-returns-then-empty
element-returns-then-empty t c =
    let h = c.requires in
    let a = c.args in
    rw c.if-empty.true
    (element_empty _ _ _ _ _ _ _ a.tag _ h.1 h.2 h.3 h.4 h.5 _ c.said_of-said.ensures _ _
    c.start-begun.ensures.moves c.start-begun.ensures.level_after _ _
    (rw c.is_entry.ensures at c.finish-run.ensures.moves) (rw c.is_entry.ensures at c.finish-run.ensures.level_stays))

pub element-finish-run-requires-2 : goal.element-finish-run-requires-2
element-finish-run-requires-2 t c =
    let h = c.requires in
    let a = c.args in
    let w = rw (c.in_ok-inner.was, c.is_entry.ensures) at c.content-read.ensures in
    rw c.is_entry.ensures (
      begin_ready w.safe,
      w.safe.order,
      w.safe.entry,
      finish_from _ _ _ _ _ _ _ a.tag _ h.1 h.2 h.3 h.4 h.5 _ c.said_of-said.ensures _ _
          c.start-begun.ensures.moves c.start-begun.ensures.level_after _ _ _ _ w,
      finish_to _ _ _ _ _ _ _ a.tag _ h.1 h.2 h.3 h.4 h.5 _ c.said_of-said.ensures _ _
          c.start-begun.ensures.moves c.start-begun.ensures.level_after _ _ _ _ w,
      w.safe.placed,
    )

pub element-returns-in_err-inner : goal.element-returns-in_err-inner
element-returns-in_err-inner t c =
    let h = c.requires in
    let a = c.args in
    let x = err_from_is_err_and c.from_residual.result c.from_residual.ensures.1 in
    let w = rw (c.in_err-inner.was, c.is_entry.ensures) at c.content-read.ensures in
    rw (x.1, x.2, c.if-empty.false) (element_fault _ _ _ _ _ _ _ a.tag _ h.1 h.2 h.3 h.4 h.5 _ c.said_of-said.ensures _ _
    c.start-begun.ensures.moves c.start-begun.ensures.level_after [] w)

pub element-returns : goal.element-returns
element-returns t c =
    let h = c.requires in
    let a = c.args in
    let w = rw (c.in_ok-inner.was, c.is_entry.ensures) at c.content-read.ensures in
    rw c.if-empty.false
    (element_ends _ _ _ _ _ _ _ a.tag _ h.1 h.2 h.3 h.4 h.5 _ c.said_of-said.ensures _ _
    c.start-begun.ensures.moves c.start-begun.ensures.level_after _ _ _ _ w _ _
    (rw c.is_entry.ensures at c.finish-run-2.ensures.moves) (rw c.is_entry.ensures at c.finish-run-2.ensures.level_stays))
