-- How long a packed form can be: at most one byte more for each step than the text, four for each line, and the version. So the packed form
-- of a sound list has at most 8,833 bytes, and the length of a line fits its two bytes.
use mathlib.Core.Path.{◌≡◌, ap}
use mathlib.Core.List.{List, [], ◌∷◌, ◌++◌}
use mathlib.Core.Option.{Option, none as nothing, some}
use Prim.Native.Nat.{ℕ, ◌+◌, ◌*◌, ◌≤◌}
use native.Mathlib.Omega.{arith}
use lib.ListN.{length, length-append}
use Rattle.std.specs.Prelude.{Ok}
use Rattle.paths.specs.Path.{Test, any, named, Step, AttributeTest, Path, print_all, print_kind, print_test, print_step, print_attribute}
use Rattle.paths.specs.Path.{print_mark, print_line, print_list, All, none, more, test_size, IfAny, SmallAttribute, Good}
use Rattle.paths.specs.Answer.{Says, sound}
use Rattle.paths.specs.Judge.{list_answer, list_paths}
use Rattle.paths.specs.declared.Kind.{Kind}
use Rattle.paths.proofs.Steps.{kind_slash}
use Rattle.paths.proofs.Meaning.{says, paths_print}
use Rattle.packed.specs.Packed.{pack_test, pack_step, pack_attribute, pack_record, pack_line, pack_list, pack_of}

pub kind_some : (k : Kind) → 1 ≤ length (print_kind k)
kind_some k = rw (ap length (kind_slash k)) (omega arith)

test_bound : (t : Test) → length (pack_test t) ≤ length (print_test t) + 1
test_bound any = omega arith
test_bound (named n) = omega arith

step_bound : (s : Step) → length (pack_step s) ≤ length (print_step s) + 1
unfolding pack_step print_step
step_bound s =
    let a = kind_some s.kind in
    let b = test_bound s.test in
    omega (arith, length-append (print_kind s.kind) (print_test s.test))

steps_bound : (xs : List Step) → length (print_all pack_step xs) ≤ length (print_all print_step xs) + length xs
steps_bound [] = omega arith
steps_bound (x ∷ xs) =
    let a = step_bound x in
    let b = steps_bound xs in
    omega (arith, length-append (pack_step x) (print_all pack_step xs), length-append (print_step x) (print_all print_step xs))

attribute_bound : (x : Option AttributeTest) → length (pack_attribute x) ≤ length (print_attribute x) + 1
attribute_bound nothing = omega arith
attribute_bound (some x) =
    let a = length-append x.name (length x.value ∷ x.value) in
    let b : length (print_attribute (some x)) ≡ 2 + length x.name + 2 + length x.value + 2 = simp length-append (omega arith) in
    omega arith

record_long : (p : Path) → length (pack_record p) ≡ 2 + length (print_all pack_step p.steps) + length (pack_attribute p.test)
unfolding pack_record
record_long p = omega (arith, length-append (print_all pack_step p.steps) (pack_attribute p.test))

pub line_bound : (p : Path) → Good p → length (pack_line p) ≤ length (print_line p) + 20
unfolding pack_line print_line
line_bound p g =
    let a = steps_bound p.steps in
    let b = attribute_bound p.test in
    let c = record_long p in
    let h = g.within.steps in
    let l : length (((print_all print_step p.steps ++ print_attribute p.test) ++ print_mark p.marked) ++ 10 ∷ [])
    ≡ length (print_all print_step p.steps) + length (print_attribute p.test) + length (print_mark p.marked) + 1 =
    simp length-append (omega arith) in
    omega arith

lines_bound : (ps : List Path) → All Good ps → length (print_all pack_line ps) ≤ length (print_list ps) + 20 * length ps
unfolding print_list
lines_bound [] none = omega arith
lines_bound (p ∷ ps) (more g gs) =
    let a = line_bound p g in
    let b = lines_bound ps gs in
    omega (arith, length-append (pack_line p) (print_all pack_line ps), length-append (print_line p) (print_all print_line ps))

pub sound_short : (s : List ℕ) → list_answer s ≡ Ok tt → length s ≤ 8192
sound_short s e = go (rw e at (says s))
  where
    go : Says s (Ok tt) → length s ≤ 8192
    go (sound l ps b n) = l

-- no sound list has a longer packed form
pub pack_bound : (s : List ℕ) → list_answer s ≡ Ok tt → length (pack_of s) ≤ 8833
unfolding pack_of pack_list
pack_bound s e =
    let (p, g, n) = paths_print s e in
    let a = lines_bound (list_paths s) g in
    let b = sound_short s e in
    let c = ap length p in
    omega arith

-- ---- the length of a line fits its two bytes

steps_few : (xs : List Step) → All (λ s. test_size s.test ≤ 255) xs → length (print_all pack_step xs) ≤ 257 * length xs
unfolding pack_step
steps_few [] none = omega arith
steps_few (x ∷ xs) (more h hs) =
    let a = steps_few xs hs in
    let b = few x.test h in
    omega (arith, length-append (pack_step x) (print_all pack_step xs))
  where
    few : (t : Test) → test_size t ≤ 255 → length (pack_test t) ≤ 256
    few any l = omega arith
    few (named n) l = omega arith

attribute_few : (x : Option AttributeTest) → IfAny SmallAttribute x → length (pack_attribute x) ≤ 512
attribute_few nothing h = omega arith
attribute_few (some x) h =
    let a = h.name in
    let b = h.value in
    omega (arith, length-append x.name (length x.value ∷ x.value))

pub record_bound : (p : Path) → Good p → length (pack_record p) ≤ 4626
record_bound p g =
    let a = record_long p in
    let b = steps_few p.steps g.within.names in
    let c = attribute_few p.test g.within.test in
    let h = g.within.steps in
    omega arith
