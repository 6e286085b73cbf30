-- The laws of `add_step`:
-- there is room for one more name, its bit fits, and the tables are those with the step.
use mathlib.Core.Path.{◌≡◌, refl, sym, ◌∙◌}
use mathlib.Core.List.{List, [], ◌∷◌, ◌++◌}
use Prim.Native.Nat.{ℕ, ◌+◌, ◌*◌, ◌^◌, ◌≤◌, ◌<◌}
use native.Mathlib.Nat.{pow-le-pow_right}
use native.Mathlib.Omega.{arith}
use lib.ListN.{length, get_or, set, length-append}
use Rattle.paths.specs.Path.{none, more}
use Rattle.lookup.specs.Names.{names_of}
use Rattle.compiled.specs.Built.{Held, Numbers, Entered, longer, AtStep, StepDone}
use Rattle.compiled.specs.declared.build.Numbered.{Numbered}
use Rattle.compiled.proofs.Alls.{all_append}
use Rattle.compiled.proofs.Firsts.{names_few}
use Rattle.compiled.proofs.Numbers.{built_long, names_longer, names_room, number_in, last_cell, rows_longer}

module _ {d at len head next rows : List ℕ} {names p bit a n : ℕ} (v : AtStep d at len head next rows names p bit a n) where
  pub step_held : Held d at len head next names
  step_held = record { all = names_of (v.done ++ v.path ∷ []); indexed = v.built.indexed; count = v.built.count }

  pub step_names_lem : names < 512
  step_names_lem = rw v.built.count (names_room v.done v.path v.few v.short v.room)

  pub step_inside : a + n ≤ length d
  step_inside = v.inside

  pub step_bytes : length d ≤ 8192
  step_bytes = v.bytes

  pub step_path : p < 32
  step_path = rw v.p_is v.few

  pub step_rows : length rows ≡ 16416
  step_rows = built_long v.done v.path v.built v.few

  bit_below : bit ≤ 32768
  bit_below =
      let i : length v.path.steps ≤ 15 = let r = v.room in omega arith in
      let y : 2 ^ length v.path.steps ≤ 2 ^ 15 = pow-le-pow_right {n = 2} (omega arith) i in
      let z : 2 ^ 15 ≡ 32768 = refl in
      let e = v.bit_is in
      omega arith

  pub step_bit : bit < 65536
  step_bit = let z = bit_below in omega arith

  few : length (names_of (v.done ++ longer v.path v.step ∷ [])) ≤ 512
  few =
      let f = v.few in
      let r = v.room in
      let ps = v.done ++ longer v.path v.step ∷ [] in
      names_few ps (rw (length-append v.done (longer v.path v.step ∷ [])) (omega arith))
      (all_append v.short (more (rw (length-append v.path.steps (v.step ∷ [])) (omega arith)) none))

  module _ {at' len' head' next' : List ℕ} {r : Numbered} (e : Entered d at len head next names a n at' len' head' next' r) where
    entered : Numbers d at' len' head' next' (names_of (v.done ++ longer v.path v.step ∷ [])) v.step.test r
    entered =
        rw (names_longer v.done v.path v.step, ← v.test_is, ← v.a_is)
        (e.is (names_of (v.done ++ v.path ∷ [])) v.built.indexed v.built.count)

    pub step_number : r.number < 513
    step_number = rw entered.number (number_in v.done v.path v.step v.few few)

    pub step_fits : get_or rows (32 * r.number + p) 0 + bit < 65536
    step_fits =
        let z = last_cell v.done v.path v.step v.few few in
        let b = v.bit_is in
        let c = bit_below in
        rw (v.built.rows_are, entered.number, v.p_is) (omega arith)

pub step_done : {d at len head next rows : List ℕ} {names p bit a n : ℕ} {at' len' head' next' rows' : List ℕ} {r : Numbered}
    → Entered d at len head next names a n at' len' head' next' r
    → rows' ≡ set rows (32 * r.number + p) (get_or rows (32 * r.number + p) 0 + bit)
    → StepDone d at len head next rows names p bit a n at' len' head' next' rows' r.names
step_done e q =
    record {
      is = λ v. let i = entered v e in
          record {
            indexed = i.indexed;
            count = i.names;
            rows_are =
                q
                ∙ rw (v.built.rows_are, i.number, v.p_is, v.bit_is) (sym (rows_longer v.done v.path v.step v.few (few v)));
          };
    }
