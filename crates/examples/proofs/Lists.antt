-- Worked examples of `list_answer` and `list_paths`, each table under one statement that antt computes: lists, and beside them the answers
-- by documents 01 and 02. In order: how the lists are written; the lines; the steps and marks of a line; names; kinds of step, and two
-- colons side by side; tests of an attribute; sizes; which fault decides; paths.
use mathlib.Core.Path.{◌≡◌, refl}
use mathlib.Core.Bool.{true, false}
use mathlib.Core.List.{List, [], ◌∷◌, ◌++◌}
use mathlib.Core.Option.{none, some}
use Prim.Native.Nat.{ℕ, zero, suc}
use Rattle.std.specs.Prelude.{Result, Ok, Err}
use Rattle.xml.specs.Utf8.{utf8, is_scalar}
use Rattle.xml.specs.Notation.{bytes}
use Rattle.xml.specs.Productions.{is_char, is_name_start, is_name_more, is_name, except}
use Rattle.xml.specs.Character.{value_of, guess, character, starts, run}
use Rattle.utf8.proofs.Examples.{Row, ◌at◌gives◌, answers, expected}
use Rattle.chars.specs.Name.{name_of}
use Rattle.paths.specs.Path.{Test, any, named, Step, Path, print_step, print_line, is_value}
use Rattle.paths.specs.Reader.{read_all, kind_at, test_at, step_at, steps, attribute_at, mark_at, end_at, line_at}
use Rattle.paths.specs.Judge.{within, sound_at, lines, judge, list_answer, list_paths}
use Rattle.paths.specs.declared.Kind.TheVariants.{Child, Descendant, SelfStep, DescendantOrSelf}
use Rattle.paths.specs.declared.ListError.{ListError}
use Rattle.paths.specs.declared.ListError.TheVariants.{TooLong, Malformed, TooLarge}

-- ---- how the lists are written

infix 10 ◌gives◌
abbrev ◌gives◌ : {A : Type 0} → List ℕ → A → Row A
s gives a = s at 0 gives a

-- n times w
abbrev times : ℕ → List ℕ → List ℕ
times zero w = []
times (suc n) w = w ++ times n w

-- n letters, n steps, n lines
abbrev letters : ℕ → List ℕ
letters n = times n (bytes "a")

abbrev many_steps : ℕ → List ℕ
many_steps n = times n (bytes "/a")

abbrev many_lines : ℕ → List ℕ
many_lines n = times n (bytes "/a\n")

-- é in one code point, and in two; U+3042, of three bytes; the first byte of é alone; an overlong `a`
abbrev composed : List ℕ
composed = 0xC3 ∷ 0xA9 ∷ []

abbrev decomposed : List ℕ
decomposed = 0x65 ∷ 0xCC ∷ 0x81 ∷ []

abbrev wide : List ℕ
wide = 0xE3 ∷ 0x81 ∷ 0x82 ∷ []

abbrev cut_off : List ℕ
cut_off = 0xC3 ∷ []

abbrev overlong : List ℕ
overlong = 0xC1 ∷ 0xA1 ∷ []

-- a line with the name n in a child step
abbrev line : List ℕ → List ℕ
line n = bytes "/" ++ n ++ bytes "\n"

-- a line with a test of the attribute n for the value v
abbrev tested : List ℕ → List ℕ → List ℕ
tested n v = bytes "/a[@" ++ n ++ bytes "=\"" ++ v ++ bytes "\"]\n"

abbrev valued : List ℕ → List ℕ
valued = tested (bytes "k")

-- ---- the lines of a list

pub whole_lines : List (Row (Result (Unit {0}) ListError))
whole_lines =
    ([] gives Ok tt)
    ∷ (bytes "/a\n" gives Ok tt)
    ∷ (bytes "//v\n" gives Ok tt)
    ∷ (bytes "/*\n" gives Ok tt)
    ∷ (bytes "/a/*//b #\n//*\n" gives Ok tt)
    ∷ (bytes "/a\n/a\n/a #\n" gives Ok tt)
    ∷ (bytes "/v" gives Err (Malformed 1))
    ∷ (bytes "/v #" gives Err (Malformed 1))
    ∷ (bytes "/v\n/w" gives Err (Malformed 2))
    ∷ (bytes "\n" gives Err (Malformed 1))
    ∷ (bytes "/v\n\n" gives Err (Malformed 2))
    ∷ (bytes "\n/v\n" gives Err (Malformed 1))
    ∷ (bytes "/a\r\n" gives Err (Malformed 1))
    ∷ []

-- ---- blanks, marks and steps

pub blanks : List (Row (Result (Unit {0}) ListError))
blanks =
    (bytes " /a\n" gives Err (Malformed 1))
    ∷ (bytes "/ a\n" gives Err (Malformed 1))
    ∷ (bytes "/a \n" gives Err (Malformed 1))
    ∷ (bytes "/a /b\n" gives Err (Malformed 1))
    ∷ (bytes "/a#\n" gives Err (Malformed 1))
    ∷ (bytes "/a  #\n" gives Err (Malformed 1))
    ∷ (bytes "/a\t#\n" gives Err (Malformed 1))
    ∷ (bytes "/a # \n" gives Err (Malformed 1))
    ∷ (bytes "/a # #\n" gives Err (Malformed 1))
    ∷ (bytes " #\n" gives Err (Malformed 1))
    ∷ (bytes "#\n" gives Err (Malformed 1))
    ∷ []

pub bad_steps : List (Row (Result (Unit {0}) ListError))
bad_steps =
    (bytes "a\n" gives Err (Malformed 1))
    ∷ (bytes "/\n" gives Err (Malformed 1))
    ∷ (bytes "//\n" gives Err (Malformed 1))
    ∷ (bytes "///a\n" gives Err (Malformed 1))
    ∷ (bytes "/a/\n" gives Err (Malformed 1))
    ∷ (bytes "/a//\n" gives Err (Malformed 1))
    ∷ (bytes "/*a\n" gives Err (Malformed 1))
    ∷ (bytes "/**\n" gives Err (Malformed 1))
    ∷ (bytes "/a*\n" gives Err (Malformed 1))
    ∷ (bytes "/@a\n" gives Err (Malformed 1))
    ∷ []

-- ---- names: production [5], in UTF-8

pub name_lines : List (Row (Result (Unit {0}) ListError))
name_lines =
    (bytes "/a-1.b:c\n" gives Ok tt)
    ∷ (bytes "/:\n" gives Ok tt)
    ∷ (bytes "/1a\n" gives Err (Malformed 1))
    ∷ (bytes "/-a\n" gives Err (Malformed 1))
    ∷ (line composed gives Ok tt)
    ∷ (line decomposed gives Ok tt)
    ∷ (line (composed ++ decomposed) gives Ok tt)
    ∷ (line (0xCC ∷ 0x81 ∷ []) gives Err (Malformed 1))
    ∷ (line (bytes "a" ++ cut_off) gives Err (Malformed 1))
    ∷ (line cut_off gives Err (Malformed 1))
    ∷ (line (bytes "a" ++ overlong) gives Err (Malformed 1))
    ∷ (line overlong gives Err (Malformed 1))
    ∷ []

-- ---- kinds of step, and two colons side by side

-- the two longer kinds, and names that only look like them
pub kind_lines : List (Row (Result (Unit {0}) ListError))
kind_lines =
    (bytes "/self::p\n" gives Ok tt)
    ∷ (bytes "/self::* #\n" gives Ok tt)
    ∷ (bytes "/descendant-or-self::p\n" gives Ok tt)
    ∷ (bytes "/descendant-or-self::* #\n" gives Ok tt)
    ∷ (bytes "/a/self::a//b/descendant-or-self::*/self::c #\n" gives Ok tt)
    ∷ (bytes "/self:::p\n" gives Ok tt)
    ∷ (bytes "/self:::\n" gives Ok tt)
    ∷ (bytes "/descendant-or-self:::p\n" gives Ok tt)
    ∷ (bytes "/self::self\n" gives Ok tt)
    ∷ (bytes "/self::self:p\n" gives Ok tt)
    ∷ (bytes "/self\n" gives Ok tt)
    ∷ (bytes "/self:\n" gives Ok tt)
    ∷ (bytes "/self:p\n" gives Ok tt)
    ∷ (bytes "//self:p\n" gives Ok tt)
    ∷ (bytes "/a:b:c:\n" gives Ok tt)
    ∷ (bytes "/descendant-or-self:p\n" gives Ok tt)
    ∷ (bytes "/self::\n" gives Err (Malformed 1))
    ∷ (bytes "/descendant-or-self::\n" gives Err (Malformed 1))
    ∷ (bytes "/self:: #\n" gives Err (Malformed 1))
    ∷ (bytes "/self::/a\n" gives Err (Malformed 1))
    ∷ (bytes "/self::1\n" gives Err (Malformed 1))
    ∷ (bytes "/self::**\n" gives Err (Malformed 1))
    ∷ (bytes "self::p\n" gives Err (Malformed 1))
    ∷ []

pub colon_lines : List (Row (Result (Unit {0}) ListError))
colon_lines =
    (bytes "//self::p\n" gives Err (Malformed 1))
    ∷ (bytes "//descendant-or-self::p\n" gives Err (Malformed 1))
    ∷ (bytes "//self::*\n" gives Err (Malformed 1))
    ∷ (bytes "/self::::p\n" gives Err (Malformed 1))
    ∷ (bytes "/self::::\n" gives Err (Malformed 1))
    ∷ (bytes "/self::self::p\n" gives Err (Malformed 1))
    ∷ (bytes "/self::a::b\n" gives Err (Malformed 1))
    ∷ (bytes "/self::p::\n" gives Err (Malformed 1))
    ∷ (bytes "/descendant-or-self::self::p\n" gives Err (Malformed 1))
    ∷ (bytes "/a::b\n" gives Err (Malformed 1))
    ∷ (bytes "/a:::b\n" gives Err (Malformed 1))
    ∷ (bytes "/::\n" gives Err (Malformed 1))
    ∷ (bytes "/p::\n" gives Err (Malformed 1))
    ∷ (bytes "/:::p\n" gives Err (Malformed 1))
    ∷ (bytes "/child::p\n" gives Err (Malformed 1))
    ∷ (bytes "/descendant::p\n" gives Err (Malformed 1))
    ∷ (bytes "/Self::p\n" gives Err (Malformed 1))
    ∷ (bytes "/myself::p\n" gives Err (Malformed 1))
    ∷ (bytes "/a\n/b/c::d #\n" gives Err (Malformed 2))
    ∷ (line (composed ++ bytes "::" ++ composed) gives Err (Malformed 1))
    ∷ []

-- ---- tests of an attribute, on the last step

-- each kind of step, `*` and names, marked or not; values with all that may stand in them, at the edge of what may not; colons in a name
pub test_lines : List (Row (Result (Unit {0}) ListError))
test_lines =
    (bytes "//place[@type=\"village\"]\n" gives Ok tt)
    ∷ (bytes "/a[@k=\"x\"]\n" gives Ok tt)
    ∷ (bytes "/a[@k=\"x\"] #\n" gives Ok tt)
    ∷ (bytes "/*[@k=\"x\"] #\n" gives Ok tt)
    ∷ (bytes "//*[@k=\"x\"]\n" gives Ok tt)
    ∷ (bytes "/self::*[@k=\"x\"]\n" gives Ok tt)
    ∷ (bytes "/a/self::b[@k=\"x\"] #\n" gives Ok tt)
    ∷ (bytes "/descendant-or-self::*[@k=\"x\"] #\n" gives Ok tt)
    ∷ (bytes "/descendant-or-self::b[@k=\"x\"]\n" gives Ok tt)
    ∷ (bytes "/a[@k=\"x\"]\n/a[@k=\"y\"] #\n/a\n" gives Ok tt)
    ∷ (bytes "/a[@k=\"\"]\n" gives Ok tt)
    ∷ (bytes "/a[@k=\" #\"]\n" gives Ok tt)
    ∷ (bytes "/a[@k=\" #\"] #\n" gives Ok tt)
    ∷ (bytes "/a[@k=\"]\"]\n" gives Ok tt)
    ∷ (bytes "/a[@k=\"'/>][@=# x'\"]\n" gives Ok tt)
    ∷ (bytes "/a[@_k-1.2=\"x\"]\n" gives Ok tt)
    ∷ (bytes "/a[@xml:lang=\"de\"]\n" gives Ok tt)
    ∷ (bytes "/a[@a::b=\"x\"]\n" gives Ok tt)
    ∷ (bytes "/a[@::=\"x\"]\n" gives Ok tt)
    ∷ (tested composed decomposed gives Ok tt)
    ∷ (valued (0x7F ∷ []) gives Ok tt)
    ∷ (valued (0xC2 ∷ 0x85 ∷ []) gives Ok tt)
    ∷ (valued (0xEF ∷ 0xBF ∷ 0xBD ∷ []) gives Ok tt)
    ∷ (valued (0xF4 ∷ 0x8F ∷ 0xBF ∷ 0xBF ∷ []) gives Ok tt)
    ∷ []

-- any other shape
pub bad_tests : List (Row (Result (Unit {0}) ListError))
bad_tests =
    (bytes "/a[@k=\"x\"]/b\n" gives Err (Malformed 1))
    ∷ (bytes "/a[@k=\"x\"]/b[@k=\"x\"]\n" gives Err (Malformed 1))
    ∷ (bytes "[@k=\"x\"]\n" gives Err (Malformed 1))
    ∷ (bytes "/[@k=\"x\"]\n" gives Err (Malformed 1))
    ∷ (bytes "/a[@k=\"x\"][@l=\"y\"]\n" gives Err (Malformed 1))
    ∷ (bytes "/a[@*=\"x\"]\n" gives Err (Malformed 1))
    ∷ (bytes "/a[@k]\n" gives Err (Malformed 1))
    ∷ (bytes "/a[@k=]\n" gives Err (Malformed 1))
    ∷ (bytes "/a[@k=x]\n" gives Err (Malformed 1))
    ∷ (bytes "/a[@k='x']\n" gives Err (Malformed 1))
    ∷ (bytes "/a[@=\"x\"]\n" gives Err (Malformed 1))
    ∷ (bytes "/a[@1=\"x\"]\n" gives Err (Malformed 1))
    ∷ (bytes "/a[k=\"x\"]\n" gives Err (Malformed 1))
    ∷ (bytes "/a[]\n" gives Err (Malformed 1))
    ∷ (bytes "/a[1]\n" gives Err (Malformed 1))
    ∷ (bytes "/a@k=\"x\"\n" gives Err (Malformed 1))
    ∷ (bytes "/a/@k\n" gives Err (Malformed 1))
    ∷ (bytes "/a [@k=\"x\"]\n" gives Err (Malformed 1))
    ∷ (bytes "/a[ @k=\"x\"]\n" gives Err (Malformed 1))
    ∷ (bytes "/a[@ k=\"x\"]\n" gives Err (Malformed 1))
    ∷ (bytes "/a[@k =\"x\"]\n" gives Err (Malformed 1))
    ∷ (bytes "/a[@k= \"x\"]\n" gives Err (Malformed 1))
    ∷ (bytes "/a[@k=\"x\" ]\n" gives Err (Malformed 1))
    ∷ (bytes "/a[@k=\"x\"] \n" gives Err (Malformed 1))
    ∷ (bytes "/a[@k=\"x\"]#\n" gives Err (Malformed 1))
    ∷ (bytes "/a[@k=\"x\"]  #\n" gives Err (Malformed 1))
    ∷ (bytes "/a[@k=\"x\"] # \n" gives Err (Malformed 1))
    ∷ (bytes "/a #[@k=\"x\"]\n" gives Err (Malformed 1))
    ∷ (bytes "/a[@k=\"x\" #]\n" gives Err (Malformed 1))
    ∷ (bytes "/a[@k=\"x\"\n" gives Err (Malformed 1))
    ∷ (bytes "/a[@k=\"x]\n" gives Err (Malformed 1))
    ∷ (bytes "/a[@k=\"x #\n" gives Err (Malformed 1))
    ∷ (bytes "/a[@k=\"x\"]" gives Err (Malformed 1))
    ∷ (bytes "/a[@k=\"x\"] #" gives Err (Malformed 1))
    ∷ (bytes "/a\n/b[@k=\"x\"]]\n" gives Err (Malformed 2))
    ∷ (bytes "/a::b[@k=\"x\"]\n" gives Err (Malformed 1))
    ∷ []

-- characters that can't stand in a value
pub bad_values : List (Row (Result (Unit {0}) ListError))
bad_values =
    (valued (bytes "\"") gives Err (Malformed 1))
    ∷ (valued (bytes "a\"b") gives Err (Malformed 1))
    ∷ (valued (bytes "<") gives Err (Malformed 1))
    ∷ (valued (bytes "a<b") gives Err (Malformed 1))
    ∷ (valued (bytes "&") gives Err (Malformed 1))
    ∷ (valued (bytes "&amp;") gives Err (Malformed 1))
    ∷ (valued (bytes "\t") gives Err (Malformed 1))
    ∷ (valued (bytes "\n") gives Err (Malformed 1))
    ∷ (valued (bytes "\r") gives Err (Malformed 1))
    ∷ (valued (0x00 ∷ []) gives Err (Malformed 1))
    ∷ (valued (0x1F ∷ []) gives Err (Malformed 1))
    ∷ (valued cut_off gives Err (Malformed 1))
    ∷ (valued overlong gives Err (Malformed 1))
    ∷ (valued (0x80 ∷ []) gives Err (Malformed 1))
    ∷ (valued (0xED ∷ 0xA0 ∷ 0x80 ∷ []) gives Err (Malformed 1))
    ∷ (valued (0xEF ∷ 0xBF ∷ 0xBE ∷ []) gives Err (Malformed 1))
    ∷ (valued (0xF4 ∷ 0x90 ∷ 0x80 ∷ 0x80 ∷ []) gives Err (Malformed 1))
    ∷ []

-- 255 bytes of a name and of a value, whatever their characters; malformed comes first
pub test_sizes : List (Row (Result (Unit {0}) ListError))
test_sizes =
    (valued (letters 255) gives Ok tt)
    ∷ (valued (letters 256) gives Err (TooLarge 1))
    ∷ (valued (letters 253 ++ composed) gives Ok tt)
    ∷ (valued (letters 254 ++ composed) gives Err (TooLarge 1))
    ∷ (valued (letters 252 ++ wide) gives Ok tt)
    ∷ (valued (letters 253 ++ wide) gives Err (TooLarge 1))
    ∷ (valued (times 85 wide) gives Ok tt)
    ∷ (valued (times 86 wide) gives Err (TooLarge 1))
    ∷ (tested (letters 255) (bytes "x") gives Ok tt)
    ∷ (tested (letters 256) (bytes "x") gives Err (TooLarge 1))
    ∷ (tested (letters 253 ++ composed) [] gives Ok tt)
    ∷ (tested (letters 254 ++ composed) [] gives Err (TooLarge 1))
    ∷ (tested (letters 255) (letters 255) gives Ok tt)
    ∷ (tested (letters 256) (letters 256) gives Err (TooLarge 1))
    ∷ ((bytes "/" ++ letters 255 ++ bytes "[@k=\"x\"] #\n") gives Ok tt)
    ∷ ((bytes "/" ++ letters 256 ++ bytes "[@k=\"x\"] #\n") gives Err (TooLarge 1))
    ∷ ((many_steps 16 ++ bytes "[@k=\"x\"]\n") gives Ok tt)
    ∷ ((many_steps 17 ++ bytes "[@k=\"x\"]\n") gives Err (TooLarge 1))
    ∷ ((many_steps 17 ++ bytes "[@k='x']\n") gives Err (Malformed 1))
    ∷ (valued (letters 256 ++ bytes "<") gives Err (Malformed 1))
    ∷ (valued (bytes "<" ++ letters 256) gives Err (Malformed 1))
    ∷ (valued (letters 256 ++ bytes "&") gives Err (Malformed 1))
    ∷ (valued (letters 256 ++ bytes "\t") gives Err (Malformed 1))
    ∷ (valued (letters 256 ++ cut_off) gives Err (Malformed 1))
    ∷ (valued (letters 256 ++ bytes "\"") gives Err (Malformed 1))
    ∷ (tested (letters 256) (bytes "<") gives Err (Malformed 1))
    ∷ (tested (letters 256 ++ bytes "!") [] gives Err (Malformed 1))
    ∷ ((bytes "/a\n" ++ valued (letters 256) ++ bytes "x\n") gives Err (TooLarge 2))
    ∷ []

-- ---- sizes

pub sizes : List (Row (Result (Unit {0}) ListError))
sizes =
    ((many_steps 16 ++ bytes "\n") gives Ok tt)
    ∷ ((many_steps 16 ++ bytes " #\n") gives Ok tt)
    ∷ ((many_steps 17 ++ bytes "\n") gives Err (TooLarge 1))
    ∷ ((times 17 (bytes "//*") ++ bytes "\n") gives Err (TooLarge 1))
    ∷ (line (letters 255) gives Ok tt)
    ∷ (line (letters 256) gives Err (TooLarge 1))
    ∷ (line (letters 253 ++ composed) gives Ok tt)
    ∷ (line (letters 254 ++ composed) gives Err (TooLarge 1))
    ∷ (line (letters 252 ++ wide) gives Ok tt)
    ∷ (line (letters 253 ++ wide) gives Err (TooLarge 1))
    ∷ ((bytes "/b" ++ line (letters 256)) gives Err (TooLarge 1))
    ∷ (line (bytes "self::" ++ letters 255) gives Ok tt)
    ∷ (line (bytes "self::" ++ letters 256) gives Err (TooLarge 1))
    ∷ (line (bytes "self:::" ++ letters 254) gives Ok tt)
    ∷ (line (bytes "self:::" ++ letters 255) gives Err (TooLarge 1))
    ∷ (line (bytes "descendant-or-self::" ++ letters 255) gives Ok tt)
    ∷ (line (bytes "descendant-or-self::" ++ letters 256) gives Err (TooLarge 1))
    ∷ ((times 16 (bytes "/self::a") ++ bytes " #\n") gives Ok tt)
    ∷ ((times 17 (bytes "/self::a") ++ bytes " #\n") gives Err (TooLarge 1))
    ∷ ((many_steps 15 ++ bytes "/descendant-or-self::*\n") gives Ok tt)
    ∷ ((many_steps 16 ++ bytes "/descendant-or-self::*\n") gives Err (TooLarge 1))
    ∷ (many_lines 32 gives Ok tt)
    ∷ (many_lines 33 gives Err (TooLarge 33))
    ∷ (times 32 (line (letters 254)) gives Ok tt)
    ∷ ((times 31 (line (letters 254)) ++ line (letters 255)) gives Err TooLong)
    ∷ []

-- ---- which fault decides

pub first_fault : List (Row (Result (Unit {0}) ListError))
first_fault =
    ((many_steps 17 ++ bytes " \n") gives Err (Malformed 1))
    ∷ ((bytes "a" ++ many_steps 17 ++ bytes "\n") gives Err (Malformed 1))
    ∷ ((many_steps 17 ++ bytes "/\n") gives Err (Malformed 1))
    ∷ (many_steps 17 gives Err (Malformed 1))
    ∷ (line (letters 256 ++ cut_off) gives Err (Malformed 1))
    ∷ (line (letters 256 ++ bytes "!") gives Err (Malformed 1))
    ∷ (line (letters 256 ++ bytes "/") gives Err (Malformed 1))
    ∷ (line (letters 254 ++ bytes "::") gives Err (Malformed 1))
    ∷ (line (bytes "::" ++ letters 298) gives Err (Malformed 1))
    ∷ (line (bytes "self::" ++ letters 298 ++ bytes "::") gives Err (Malformed 1))
    ∷ ((many_steps 17 ++ bytes "/a::b\n") gives Err (Malformed 1))
    ∷ ((bytes "/a::b" ++ line (letters 256)) gives Err (Malformed 1))
    ∷ ((many_steps 17 ++ bytes "\nx\n") gives Err (TooLarge 1))
    ∷ ((bytes "x\n" ++ many_steps 17 ++ bytes "\n") gives Err (Malformed 1))
    ∷ ((bytes "/a\n" ++ many_steps 17 ++ bytes "\nx\n") gives Err (TooLarge 2))
    ∷ ((many_lines 31 ++ bytes "x\n") gives Err (Malformed 32))
    ∷ ((many_lines 31 ++ many_steps 17 ++ bytes "\n") gives Err (TooLarge 32))
    ∷ ((many_lines 32 ++ bytes "x\n") gives Err (TooLarge 33))
    ∷ ((many_lines 32 ++ bytes "\n") gives Err (TooLarge 33))
    ∷ ((many_lines 32 ++ bytes "/a") gives Err (TooLarge 33))
    ∷ ((many_lines 34 ++ bytes "x") gives Err (TooLarge 33))
    ∷ ((bytes "x\n" ++ many_lines 33) gives Err (Malformed 1))
    ∷ ((bytes "x\n" ++ times 32 (line (letters 254))) gives Err TooLong)
    ∷ []

-- all of them
abbrev pub lists : List (Row (Result (Unit {0}) ListError))
lists =
    whole_lines ++ blanks ++ bad_steps ++ name_lines ++ kind_lines ++ colon_lines ++ test_lines ++ bad_tests ++ bad_values ++ test_sizes
    ++ sizes
    ++ first_fault

pub answers_computed : answers (λ s k. list_answer s) lists ≡ expected lists
unfolding whole_lines blanks bad_steps name_lines kind_lines colon_lines test_lines bad_tests bad_values test_sizes sizes first_fault
    list_answer judge lines sound_at within line_at steps read_all end_at mark_at attribute_at step_at test_at kind_at print_step print_line
    name_of run starts character guess value_of utf8 is_scalar is_name_start is_name_more is_name is_value except is_char
answers_computed = refl

-- ---- the paths of a list

abbrev child : Test → Step
child x = record { kind = Child; test = x }

abbrev below : Test → Step
below x = record { kind = Descendant; test = x }

abbrev same : Test → Step
same x = record { kind = SelfStep; test = x }

abbrev same_or_below : Test → Step
same_or_below x = record { kind = DescendantOrSelf; test = x }

abbrev plain : List Step → Path
plain xs = record { steps = xs; test = none; marked = false }

abbrev marked : List Step → Path
marked xs = record { steps = xs; test = none; marked = true }

-- the same path with a test of the attribute n for the value v
infix 70 ◌having◌is◌
abbrev ◌having◌is◌ : Path → List ℕ → List ℕ → Path
p having n is v = record { steps = p.steps; test = some (record { name = n; value = v }); marked = p.marked }

-- none of an empty list and of one that is refused; the kinds of step and the mark; the two names é; names with colons; tests
pub path_lists : List (Row (List Path))
path_lists =
    ([] gives [])
    ∷ (bytes "//v\n" gives plain (below (named (bytes "v")) ∷ []) ∷ [])
    ∷ (bytes "/*//b #\n/a\n" gives marked (child any ∷ below (named (bytes "b")) ∷ []) ∷ plain (child (named (bytes "a")) ∷ []) ∷ [])
    ∷ (bytes "/a\n/a\n" gives plain (child (named (bytes "a")) ∷ []) ∷ plain (child (named (bytes "a")) ∷ []) ∷ [])
    ∷ ((line composed ++ line decomposed) gives plain (child (named composed) ∷ []) ∷ plain (child (named decomposed) ∷ []) ∷ [])
    ∷ (bytes "/self::*/descendant-or-self::b #\n" gives marked (same any ∷ same_or_below (named (bytes "b")) ∷ []) ∷ [])
    ∷ (bytes "/a/self::p\n" gives plain (child (named (bytes "a")) ∷ same (named (bytes "p")) ∷ []) ∷ [])
    ∷ (bytes "/self:::p\n/self:::\n" gives plain (same (named (bytes ":p")) ∷ []) ∷ plain (same (named (bytes ":")) ∷ []) ∷ [])
    ∷ (bytes "/self:p\n/self:\n" gives plain (child (named (bytes "self:p")) ∷ []) ∷ plain (child (named (bytes "self:")) ∷ []) ∷ [])
    ∷ (bytes "/self\n//self:p\n" gives plain (child (named (bytes "self")) ∷ []) ∷ plain (below (named (bytes "self:p")) ∷ []) ∷ [])
    ∷ (bytes "//place[@type=\"village\"]\n"
    gives plain (below (named (bytes "place")) ∷ []) having bytes "type" is bytes "village" ∷ [])
    ∷ (bytes "/a/self::*[@k=\"x\"] #\n" gives marked (child (named (bytes "a")) ∷ same any ∷ []) having bytes "k" is bytes "x" ∷ [])
    ∷ (bytes "/a[@k=\" #\"]\n" gives plain (child (named (bytes "a")) ∷ []) having bytes "k" is bytes " #" ∷ [])
    ∷ (bytes "/a[@k=\" #\"] #\n" gives marked (child (named (bytes "a")) ∷ []) having bytes "k" is bytes " #" ∷ [])
    ∷ (bytes "/a[@k=\"\"]\n/a\n"
    gives plain (child (named (bytes "a")) ∷ []) having bytes "k" is [] ∷ plain (child (named (bytes "a")) ∷ []) ∷ [])
    ∷ (bytes "/*[@a::b=\"][@c='d']\"]\n" gives plain (child any ∷ []) having bytes "a::b" is bytes "][@c='d']" ∷ [])
    ∷ (tested composed decomposed gives plain (child (named (bytes "a")) ∷ []) having composed is decomposed ∷ [])
    ∷ (bytes "/a\n/b[@k=\"<\"]\n" gives [])
    ∷ (valued (letters 256) gives [])
    ∷ (bytes "/a\n/b::c\n" gives [])
    ∷ (bytes "/a\nb\n" gives [])
    ∷ ((bytes "/a\n" ++ many_steps 17 ++ bytes "\n") gives [])
    ∷ (many_lines 33 gives [])
    ∷ []

pub paths_computed : answers (λ s k. list_paths s) path_lists ≡ expected path_lists
unfolding path_lists list_paths list_answer judge lines sound_at within line_at steps read_all end_at mark_at attribute_at step_at test_at
    kind_at print_step print_line name_of run starts character guess value_of utf8 is_scalar is_name_start is_name_more is_name is_value
    except is_char
paths_computed = refl
