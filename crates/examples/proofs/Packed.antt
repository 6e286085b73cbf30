-- Worked examples of the packed form, each table under one statement that antt computes: texts and inputs, and beside them the bytes by
-- document 02, Q-7. In order: how they are written; the packed forms of texts; those inputs back to text; inputs that are the packed form
-- of no list.
use mathlib.Core.Path.{◌≡◌, refl}
use mathlib.Core.List.{List, [], ◌∷◌, ◌++◌, map}
use mathlib.Core.Option.{none, some}
use Prim.Native.Nat.{ℕ, zero, suc}
use Rattle.std.specs.Prelude.{Ok, Err}
use Rattle.xml.specs.Utf8.{utf8, is_scalar}
use Rattle.xml.specs.Notation.{bytes}
use Rattle.xml.specs.Productions.{is_char, is_name_start, is_name_more, is_name, except}
use Rattle.xml.specs.Character.{value_of, guess, character, starts, run}
use Rattle.chars.specs.Name.{name_of}
use Rattle.paths.specs.Path.{print_step, print_line, is_value}
use Rattle.paths.specs.Reader.{read_all, kind_at, test_at, step_at, steps, attribute_at, mark_at, end_at, line_at}
use Rattle.paths.specs.Judge.{within, sound_at, lines, judge, list_answer, list_paths}
use Rattle.packed.specs.Packed.{pack_step, pack_record, pack_line, pack_list, pack_of}
use Rattle.packed.specs.Spelled.{kind_of, spell_step, spell_steps, spell_attribute, spell_line, spell_lines, spelled, same, packs, text_of}
use Rattle.packed.specs.Answer.{pack_answer, unpack_answer}
use Rattle.paths.specs.declared.ListError.TheVariants.{TooLong, Malformed, TooLarge}
use Rattle.packed.specs.declared.PackError.TheVariants.{List as OfList, NotPacked, Short}

-- ---- how they are written

-- n times w
abbrev times : ℕ → List ℕ → List ℕ
times zero w = []
times (suc n) w = w ++ times n w

abbrev letters : ℕ → List ℕ
letters n = times n (bytes "a")

-- a text, and its packed form
pub record Row : Type 0 where
  pub text : List ℕ
  pub form : List ℕ

infix 10 ◌packs_to◌
abbrev ◌packs_to◌ : List ℕ → List ℕ → Row
s packs_to d = record { text = s; form = d }

-- the line `/a`, unmarked and without a test: 6 bytes, mark, 1 step, a child, 1 byte of name, `a`, no test
abbrev line_a : List ℕ
line_a = 0 ∷ 6 ∷ 0 ∷ 1 ∷ 0 ∷ 1 ∷ 97 ∷ 0 ∷ []

-- ---- packed forms

pub rows : List Row
rows =
    ([] packs_to 1 ∷ [])
    ∷ (bytes "/a\n" packs_to 1 ∷ line_a)
    ∷ (bytes "/*\n" packs_to 1 ∷ 0 ∷ 5 ∷ 0 ∷ 1 ∷ 0 ∷ 0 ∷ 0 ∷ [])
    ∷ (bytes "/a #\n" packs_to 1 ∷ 0 ∷ 6 ∷ 1 ∷ 1 ∷ 0 ∷ 1 ∷ 97 ∷ 0 ∷ [])
    ∷ (bytes "//b\n" packs_to 1 ∷ 0 ∷ 6 ∷ 0 ∷ 1 ∷ 1 ∷ 1 ∷ 98 ∷ 0 ∷ [])
    ∷ (bytes "/self::b\n" packs_to 1 ∷ 0 ∷ 6 ∷ 0 ∷ 1 ∷ 2 ∷ 1 ∷ 98 ∷ 0 ∷ [])
    ∷ (bytes "/self:::\n" packs_to 1 ∷ 0 ∷ 6 ∷ 0 ∷ 1 ∷ 2 ∷ 1 ∷ 58 ∷ 0 ∷ [])
    ∷ (bytes "/descendant-or-self::*\n" packs_to 1 ∷ 0 ∷ 5 ∷ 0 ∷ 1 ∷ 3 ∷ 0 ∷ 0 ∷ [])
    ∷ (bytes "/a//*\n" packs_to 1 ∷ 0 ∷ 8 ∷ 0 ∷ 2 ∷ 0 ∷ 1 ∷ 97 ∷ 1 ∷ 0 ∷ 0 ∷ [])
    ∷ (bytes "/a\n/a\n" packs_to 1 ∷ line_a ++ line_a)
    ∷ (bytes "//b[@k=\"xy\"] #\n" packs_to 1 ∷ 0 ∷ 10 ∷ 1 ∷ 1 ∷ 1 ∷ 1 ∷ 98 ∷ 1 ∷ 107 ∷ 2 ∷ bytes "xy")
    ∷ (bytes "/a[@k=\"\"]\n" packs_to 1 ∷ 0 ∷ 8 ∷ 0 ∷ 1 ∷ 0 ∷ 1 ∷ 97 ∷ 1 ∷ 107 ∷ 0 ∷ [])
    ∷ ((bytes "/" ++ letters 255 ++ bytes "\n") packs_to 1 ∷ 1 ∷ 4 ∷ 0 ∷ 1 ∷ 0 ∷ 255 ∷ letters 255 ++ 0 ∷ [])
    ∷ ((bytes "/a[@k=\"" ++ letters 255 ++ bytes "\"]\n")
    packs_to 1 ∷ 1 ∷ 7 ∷ 0 ∷ 1 ∷ 0 ∷ 1 ∷ 97 ∷ 1 ∷ 107 ∷ 255 ∷ letters 255)
    ∷ ((times 16 (bytes "/*") ++ bytes "\n") packs_to 1 ∷ 0 ∷ 35 ∷ 0 ∷ 16 ∷ times 16 (0 ∷ 0 ∷ []) ++ 0 ∷ [])
    ∷ (times 32 (bytes "/a\n") packs_to 1 ∷ times 32 line_a)
    ∷ []

pub packed_computed : map (λ r. pack_of r.text) rows ≡ map (λ r. r.form) rows
unfolding rows pack_of pack_list pack_line pack_record pack_step list_paths list_answer judge lines sound_at within line_at steps read_all
    end_at mark_at attribute_at step_at test_at kind_at print_step print_line name_of run starts character guess value_of utf8 is_scalar
    is_name_start is_name_more is_name is_value except is_char
packed_computed = refl

-- and back
pub texts_computed : map (λ r. text_of r.form) rows ≡ map (λ r. some r.text) rows
unfolding rows text_of packs same spelled spell_lines spell_line spell_attribute spell_steps spell_step kind_of pack_of pack_list pack_line
    pack_record pack_step list_paths list_answer judge lines sound_at within line_at steps read_all end_at mark_at attribute_at step_at
    test_at kind_at print_step print_line name_of run starts character guess value_of utf8 is_scalar is_name_start is_name_more is_name
    is_value except is_char
texts_computed = refl

-- ---- inputs that are the packed form of no list

-- no byte; another version
pub bad_fronts : List (List ℕ)
bad_fronts = [] ∷ (0 ∷ []) ∷ (2 ∷ []) ∷ (2 ∷ line_a) ∷ line_a ∷ []

-- the length of the first line too small or too large by one, counted with its own two bytes, or little-endian; cut short; bytes behind
pub bad_lengths : List (List ℕ)
bad_lengths =
    (1 ∷ 0 ∷ 5 ∷ 0 ∷ 1 ∷ 0 ∷ 1 ∷ 97 ∷ 0 ∷ [])
    ∷ (1 ∷ 0 ∷ 7 ∷ 0 ∷ 1 ∷ 0 ∷ 1 ∷ 97 ∷ 0 ∷ [])
    ∷ (1 ∷ 0 ∷ 7 ∷ 0 ∷ 1 ∷ 0 ∷ 1 ∷ 97 ∷ 0 ∷ 0 ∷ [])
    ∷ (1 ∷ 0 ∷ 8 ∷ 0 ∷ 1 ∷ 0 ∷ 1 ∷ 97 ∷ 0 ∷ [])
    ∷ (1 ∷ 6 ∷ 0 ∷ 0 ∷ 1 ∷ 0 ∷ 1 ∷ 97 ∷ 0 ∷ [])
    ∷ (1 ∷ 0 ∷ 6 ∷ 0 ∷ 1 ∷ 0 ∷ 1 ∷ 97 ∷ [])
    ∷ (1 ∷ 0 ∷ 6 ∷ 0 ∷ 1 ∷ 0 ∷ [])
    ∷ (1 ∷ 0 ∷ 6 ∷ [])
    ∷ (1 ∷ 0 ∷ [])
    ∷ (1 ∷ 0 ∷ 0 ∷ [])
    ∷ (1 ∷ line_a ++ 0 ∷ [])
    ∷ (1 ∷ line_a ++ line_a ++ 1 ∷ [])
    ∷ []

-- the mark 2; no steps, too few, too many, 17; the kind 4
pub bad_steps : List (List ℕ)
bad_steps =
    (1 ∷ 0 ∷ 6 ∷ 2 ∷ 1 ∷ 0 ∷ 1 ∷ 97 ∷ 0 ∷ [])
    ∷ (1 ∷ 0 ∷ 3 ∷ 0 ∷ 0 ∷ 0 ∷ [])
    ∷ (1 ∷ 0 ∷ 6 ∷ 0 ∷ 0 ∷ 0 ∷ 1 ∷ 97 ∷ 0 ∷ [])
    ∷ (1 ∷ 0 ∷ 6 ∷ 0 ∷ 2 ∷ 0 ∷ 1 ∷ 97 ∷ 0 ∷ [])
    ∷ (1 ∷ 0 ∷ 37 ∷ 0 ∷ 17 ∷ times 17 (0 ∷ 0 ∷ []) ++ 0 ∷ [])
    ∷ (1 ∷ 0 ∷ 6 ∷ 0 ∷ 1 ∷ 4 ∷ 1 ∷ 97 ∷ 0 ∷ [])
    ∷ (1 ∷ 0 ∷ 6 ∷ 0 ∷ 1 ∷ 255 ∷ 1 ∷ 97 ∷ 0 ∷ [])
    ∷ []

-- a name that is no Name, `*` with a length, a name with `::` and one that would spell another kind, one that is not UTF-8, one past the
-- end
pub bad_names : List (List ℕ)
bad_names =
    (1 ∷ 0 ∷ 6 ∷ 0 ∷ 1 ∷ 0 ∷ 1 ∷ 49 ∷ 0 ∷ [])
    ∷ (1 ∷ 0 ∷ 6 ∷ 0 ∷ 1 ∷ 0 ∷ 1 ∷ 42 ∷ 0 ∷ [])
    ∷ (1 ∷ 0 ∷ 9 ∷ 0 ∷ 1 ∷ 0 ∷ 4 ∷ bytes "a::b" ++ 0 ∷ [])
    ∷ (1 ∷ 0 ∷ 12 ∷ 0 ∷ 1 ∷ 0 ∷ 7 ∷ bytes "self::p" ++ 0 ∷ [])
    ∷ (1 ∷ 0 ∷ 7 ∷ 0 ∷ 1 ∷ 0 ∷ 2 ∷ bytes "/b" ++ 0 ∷ [])
    ∷ (1 ∷ 0 ∷ 8 ∷ 0 ∷ 1 ∷ 0 ∷ 3 ∷ bytes "a/b" ++ 0 ∷ [])
    ∷ (1 ∷ 0 ∷ 6 ∷ 0 ∷ 1 ∷ 0 ∷ 1 ∷ 0xC3 ∷ 0 ∷ [])
    ∷ (1 ∷ 0 ∷ 6 ∷ 0 ∷ 1 ∷ 0 ∷ 3 ∷ 97 ∷ 0 ∷ [])
    ∷ []

-- a test's name of length 0 with bytes behind, one that is no Name, no value's length, a value that ends the test, `<` in it, one cut short
pub bad_tests : List (List ℕ)
bad_tests =
    (1 ∷ 0 ∷ 7 ∷ 0 ∷ 1 ∷ 0 ∷ 1 ∷ 97 ∷ 0 ∷ 0 ∷ [])
    ∷ (1 ∷ 0 ∷ 8 ∷ 0 ∷ 1 ∷ 0 ∷ 1 ∷ 97 ∷ 0 ∷ 1 ∷ 120 ∷ [])
    ∷ (1 ∷ 0 ∷ 8 ∷ 0 ∷ 1 ∷ 0 ∷ 1 ∷ 97 ∷ 1 ∷ 49 ∷ 0 ∷ [])
    ∷ (1 ∷ 0 ∷ 7 ∷ 0 ∷ 1 ∷ 0 ∷ 1 ∷ 97 ∷ 1 ∷ 107 ∷ [])
    ∷ (1 ∷ 0 ∷ 13 ∷ 0 ∷ 1 ∷ 0 ∷ 1 ∷ 97 ∷ 1 ∷ 107 ∷ 5 ∷ bytes "x\"] #")
    ∷ (1 ∷ 0 ∷ 9 ∷ 0 ∷ 1 ∷ 0 ∷ 1 ∷ 97 ∷ 1 ∷ 107 ∷ 1 ∷ bytes "<")
    ∷ (1 ∷ 0 ∷ 9 ∷ 0 ∷ 1 ∷ 0 ∷ 1 ∷ 97 ∷ 1 ∷ 107 ∷ 2 ∷ bytes "x")
    ∷ []

-- 33 lines; a text of 8,193 bytes, where each name is within its size
pub bad_sizes : List (List ℕ)
bad_sizes =
    (1 ∷ times 33 line_a)
    ∷ (1 ∷ times 31 (1 ∷ 3 ∷ 0 ∷ 1 ∷ 0 ∷ 254 ∷ letters 254 ++ 0 ∷ []) ++ 1 ∷ 4 ∷ 0 ∷ 1 ∷ 0 ∷ 255 ∷ letters 255 ++ 0 ∷ [])
    ∷ []

abbrev pub bad : List (List ℕ)
bad = bad_fronts ++ bad_lengths ++ bad_steps ++ bad_names ++ bad_tests ++ bad_sizes

pub bad_computed : map text_of bad ≡ map (λ d. none) bad
unfolding bad_fronts bad_lengths bad_steps bad_names bad_tests bad_sizes text_of packs same spelled spell_lines spell_line spell_attribute
    spell_steps spell_step kind_of pack_of pack_list pack_line pack_record pack_step list_paths list_answer judge lines sound_at within
    line_at steps read_all end_at mark_at attribute_at step_at test_at kind_at print_step print_line name_of run starts character guess
    value_of utf8 is_scalar is_name_start is_name_more is_name is_value except is_char
bad_computed = refl

-- a text of 8,192 bytes is inside
pub largest_computed :
    text_of (1 ∷ times 32 (1 ∷ 3 ∷ 0 ∷ 1 ∷ 0 ∷ 254 ∷ letters 254 ++ 0 ∷ [])) ≡ some (times 32 (bytes "/" ++ letters 254 ++ bytes "\n"))
unfolding text_of packs same spelled spell_lines spell_line spell_attribute spell_steps spell_step kind_of pack_of pack_list pack_line
    pack_record pack_step list_paths list_answer judge lines sound_at within line_at steps read_all end_at mark_at attribute_at step_at
    test_at kind_at print_step print_line name_of run starts character guess value_of utf8 is_scalar is_name_start is_name_more is_name
    is_value except is_char
largest_computed = refl

-- ---- answers: in a room one byte too short, and in one that suffices; 1 to 3 and 13 come before 9

pub answers_computed :
    pack_answer [] 0 ∷ pack_answer [] 1 ∷ pack_answer (bytes "/a\n") 8 ∷ pack_answer (bytes "/a\n") 9 ∷ pack_answer (bytes "/a\n/a") 0
    ∷ pack_answer (times 33 (bytes "/a\n")) 0 ∷ pack_answer (times 8193 (bytes "/")) 0 ∷ []
    ≡ Err (Short 1) ∷ Ok 1 ∷ Err (Short 9) ∷ Ok 9
    ∷ Err (OfList (Malformed 2)) ∷ Err (OfList (TooLarge 33)) ∷ Err (OfList TooLong) ∷ []
unfolding pack_answer unpack_answer text_of packs same spelled spell_lines spell_line spell_attribute spell_steps spell_step kind_of pack_of
    pack_list pack_line pack_record pack_step list_paths list_answer judge lines sound_at within line_at steps read_all end_at mark_at
    attribute_at step_at test_at kind_at print_step print_line name_of run starts character guess value_of utf8 is_scalar is_name_start
    is_name_more is_name is_value except is_char
answers_computed = refl

pub back_computed :
    unpack_answer (1 ∷ []) 0 ∷ unpack_answer (1 ∷ line_a) 2 ∷ unpack_answer (1 ∷ line_a) 3 ∷ unpack_answer (2 ∷ line_a) 0 ∷ []
    ≡ Ok 0 ∷ Err (Short 3) ∷ Ok 3 ∷ Err NotPacked ∷ []
unfolding pack_answer unpack_answer text_of packs same spelled spell_lines spell_line spell_attribute spell_steps spell_step kind_of pack_of
    pack_list pack_line pack_record pack_step list_paths list_answer judge lines sound_at within line_at steps read_all end_at mark_at
    attribute_at step_at test_at kind_at print_step print_line name_of run starts character guess value_of utf8 is_scalar is_name_start
    is_name_more is_name is_value except is_char
back_computed = refl
