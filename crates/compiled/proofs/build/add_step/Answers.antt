-- `add_step` meets its contract:
-- there is room for one more name, the bit fits its cell, and the tables are those with the step.
use Rattle.compiled.proofs.Stepped.{step_held, step_names_lem, step_inside, step_bytes, step_path}
use Rattle.compiled.proofs.Stepped.{step_rows, step_number, step_fits, step_done}
use Rattle.compiled.proofs.build.add_step.Goals as goal

pub with_name-m-requires : goal.with_name-m-requires
with_name-m-requires c =
    let v = c.requires in
    (step_names_lem v, step_inside v, step_bytes v, step_held v)

pub add_bit-requires : goal.add_bit-requires
add_bit-requires c =
    let v = c.requires in
    let e = c.with_name-m.ensures in
    (step_rows v, step_number v e, step_path v, step_fits v e)

pub returns : goal.returns
returns c =
    step_done c.with_name-m.ensures c.add_bit.ensures
