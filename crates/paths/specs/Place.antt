-- What stands at a place of a list, in places: the test of a step, a step, a value's end, the test of a line, a line's end. Nothing stands
-- past the end. `Maybe` is the Option of the library of proofs, which the definitions of paths are in.
use Rattle.std.specs.Prelude.{Bool, List, ◌++◌, ℕ, ◌+◌, length, drop, Option, None, Some}
use Rattle.std.proofs.Math.Option.{Option as Maybe, none, some}
use Rattle.xml.specs.Notation.{bytes}
use Rattle.xml.specs.Character.{run}
use Rattle.utf8.specs.Place.{ends_at}
use Rattle.paths.specs.Path.{Test, Step, AttributeTest, test_size, print_kind, print_test, print_step, print_attribute, print_mark}
use Rattle.paths.specs.Path.{is_value}
use Rattle.paths.specs.Reader.{test_at, step_at, attribute_at, Ending, print_end, mark_at, end_at}
use Rattle.paths.specs.declared.Kind.{Kind}
use Rattle.paths.specs.declared.Step.{Step as PlacedStep}
use Rattle.paths.specs.declared.Test.{Test as PlacedTest}
use Rattle.paths.specs.declared.LineEnd.{LineEnd}

-- a step of the kind k whose test stands at the place at
abbrev pub test_placed : Kind → ℕ → Maybe Test → Option PlacedStep
test_placed k at none = None
test_placed k at (some x) = Some (record { kind = k; name = at; len = test_size x; end = at + length (print_test x) })

unfoldable pub test_end_at : Kind → List ℕ → ℕ → Option PlacedStep
test_end_at k d at = test_placed k at (test_at (drop at d))

-- the step x at the place at: its name's place and length (0 for `*`), and its end
abbrev pub step_placed : ℕ → Maybe Step → Option PlacedStep
step_placed at none = None
step_placed at (some x) =
    Some (
    record {
      kind = x.kind;
      name = at + length (print_kind x.kind);
      len = test_size x.test;
      end = at + length (print_step x);
    }
    )

unfoldable pub step_end_at : List ℕ → ℕ → Option PlacedStep
step_end_at d at = step_placed at (step_at (drop at d))

-- where the characters of a value from a place on end
unfoldable pub value_end : List ℕ → ℕ → ℕ
value_end d at = ends_at d at (run is_value 0 (drop at d))

-- where the value of the test x stands that begins at the place at: behind `[@`, the name and `="`
abbrev pub value_from : ℕ → AttributeTest → ℕ
value_from at x = at + 2 + length x.name + 2

-- a line's test x at the place at: the places and lengths of its name and its value, and its end
abbrev pub attribute_placed : ℕ → Maybe AttributeTest → Option PlacedTest
attribute_placed at none = None
attribute_placed at (some x) =
    Some (
    record {
      name = at + 2;
      len = length x.name;
      value = value_from at x;
      size = length x.value;
      end = at + length (print_attribute (some x));
    }
    )

unfoldable pub attribute_end_at : List ℕ → ℕ → Option PlacedTest
attribute_end_at d at = attribute_placed at (attribute_at (drop at d))

-- the end of a line at the place at, with the test x, the mark m and the next line's place: where there is no test, its places and lengths
-- are 0
abbrev pub ended : ℕ → Maybe AttributeTest → Bool → ℕ → LineEnd
ended at none m next = record { name = 0; len = 0; value = 0; size = 0; marked = m; next = next }
ended at (some x) m next =
    record { name = at + 2; len = length x.name; value = value_from at x; size = length x.value; marked = m; next = next }

abbrev pub end_placed : ℕ → Maybe Ending → Option LineEnd
end_placed at none = None
end_placed at (some e) = Some (ended at e.test e.marked (at + length (print_end e)))

unfoldable pub line_end_at : List ℕ → ℕ → Option LineEnd
line_end_at d at = end_placed at (end_at (drop at d))

-- a mark or none and LF at the place at, behind a test whose places are given
abbrev pub mark_placed : ℕ → ℕ → ℕ → ℕ → ℕ → Maybe Bool → Option LineEnd
mark_placed name len value size at none = None
mark_placed name len value size at (some m) =
    Some (
    record {
      name = name;
      len = len;
      value = value;
      size = size;
      marked = m;
      next = at + length (print_mark m ++ bytes "\n");
    }
    )

unfoldable pub mark_end_at : ℕ → ℕ → ℕ → ℕ → List ℕ → ℕ → Option LineEnd
mark_end_at name len value size d at = mark_placed name len value size at (mark_at (drop at d))
