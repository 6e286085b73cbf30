-- When a wide line stands for a narrow one, by places and bytes, and whether some line of a list does. proofs/Stood.antt shows that this
-- is what `stands_for` says of their paths.
use Rattle.std.specs.Prelude.{Bool, false, cond, not, ◌&&◌, ◌||◌, List, [], ◌∷◌, ℕ, ◌/◌, eqb}
use Rattle.xml.specs.Productions.{same}
use Rattle.matcher.specs.Picked.{odd}
use Rattle.covers.specs.Line.{part}
use Rattle.covers.specs.declared.line.Line.{Line}

-- by the two marks; whether both are plain; whether a sending exists; whether b has no test, or the same; whether they are the same
abbrev pub stood : Bool → Bool → Bool → Bool → Bool → Bool → Bool → Bool
stood narrow_marked wide_marked both_plain sent untested same_test same_path =
    cond both_plain (sent && (untested || same_test)) same_path && (not narrow_marked || wide_marked)

-- the line b of e for the line a of d
unfoldable pub stands_by : List ℕ → Line → List ℕ → Line → Bool → Bool
stands_by d a e b sent =
    stood a.marked b.marked (a.plain && b.plain) sent (eqb b.steps b.end)
    (same (part e b.steps b.end) (part d a.steps a.end)) (same (part e b.from b.end) (part d a.from a.end))

-- some line of e; bit p says that a sending of line p exists
abbrev pub some_by : List ℕ → Line → List ℕ → List Line → ℕ → Bool
some_by d a e [] bits = false
some_by d a e (b ∷ bs) bits = stands_by d a e b (odd bits) || some_by d a e bs (bits / 2)
