-- `passes` meets its contract: no path of the number, no test, or the test that stands at the entry. proofs/OnePath.antt has the laws.
use native.Mathlib.Omega.{arith}
use Prim.Native.Nat.{◌+◌}
use Rattle.tests.proofs.OnePath.{by_path}
use Rattle.tests.proofs.passes.Goals as goal

pub returns-then-t-p-eq0 : goal.returns-then-t-p-eq0
returns-then-t-p-eq0 c = search by_path

pub overflow_cast-place : goal.overflow_cast-place
overflow_cast-place c = omega (arith, c.shared_slice_known-5-1.given (18368 + c.args.p))

pub returns-then-place-eq0 : goal.returns-then-place-eq0
returns-then-place-eq0 c = search by_path

pub overflow_add-name_end : goal.overflow_add-name_end
overflow_add-name_end c = search by_path

pub overflow_add-value_end : goal.overflow_add-value_end
overflow_add-value_end c = search by_path

pub slice_bounds-has-end : goal.slice_bounds-has-end
slice_bounds-has-end c = search by_path

pub returns-in-Some : goal.returns-in-Some
returns-in-Some c = search by_path

pub returns-in-None : goal.returns-in-None
returns-in-None c = search by_path

pub slice_bounds-has-end-in-Some : goal.slice_bounds-has-end-in-Some
slice_bounds-has-end-in-Some c = search by_path
