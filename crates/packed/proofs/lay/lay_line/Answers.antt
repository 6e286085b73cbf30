-- `lay_line` meets its contract: its parts are measured, and laid one behind another. A sound line has an end.
-- proofs/Laying.antt has the laws.
use native.Mathlib.Omega.{arith}
use borrow.Author.Rules.{rules}
use Rattle.packed.proofs.Laying.{line_small, line_few, line_no_fault, line_parts, line_laid}
use Rattle.packed.proofs.lay.lay_line.Goals as goal

pub lay_steps-measured-requires : goal.lay_steps-measured-requires
lay_steps-measured-requires c =
    let p = c.requires in
    (line_small p.0, omega (arith, p.0.some), p.1, omega arith)

pub test_length-requires : goal.test_length-requires
test_length-requires c =
    let p = line_parts c.requires.0 c.lay_steps-measured.ensures c.end_at.ensures c.in-Some.is in
    (p.name_small, p.value_small)

pub lay_head-a-requires : goal.lay_head-a-requires
lay_head-a-requires c =
    let p = c.requires in
    let v = c.lay_steps-measured.ensures in
    let n = v.near in
    let i = v.inside in
    let t = c.test_length.ensures.1 in
    (omega arith, omega (arith, line_few p.0 v), p.2)

pub lay_steps-laid-requires : goal.lay_steps-laid-requires
lay_steps-laid-requires c =
    let p = c.requires in
    let h = c.lay_head-a.ensures.long in
    (line_small p.0, omega (arith, p.0.some), p.1, omega arith)

pub lay_test-e-requires : goal.lay_test-e-requires
lay_test-e-requires c =
    let q = c.requires in
    let p = line_parts q.0 c.lay_steps-measured.ensures c.end_at.ensures c.in-Some.is in
    let v = c.lay_steps-laid.ensures in
    let n = v.near in
    let i = v.inside in
    let h = c.lay_head-a.ensures.long in
    (p.name_small, p.value_small, p.name_inside, p.value_inside, omega arith)

pub returns-in-Some : goal.returns-in-Some
returns-in-Some c =
    let q = c.requires in
    let p = line_parts q.0 c.lay_steps-measured.ensures c.end_at.ensures c.in-Some.is in
    line_laid p c.lay_steps-measured.ensures c.test_length.ensures c.lay_head-a.ensures
    c.lay_steps-laid.ensures c.lay_test-e.ensures

pub returns-in-None : goal.returns-in-None
returns-in-None c =
    line_no_fault c.requires.0 c.lay_steps-measured.ensures c.end_at.ensures (search rules)
