-- What is answered on a list, in the order of document 01, "The path list";
-- and the numbers of its answers.
use Rattle.std.specs.Prelude.{◌≡◌, List, [], ◌++◌, ℕ, ◌+◌, ◌≤◌, ◌<◌, length, Result, Ok, Err}
use Rattle.paths.specs.Path.{Path, print_line, print_list, All, IsPath, Within, Good}
use Rattle.paths.specs.declared.ListError.{ListError}
use Rattle.paths.specs.declared.ListError.TheVariants.{TooLong, Malformed, TooLarge}

-- the numbers of a refusal: its own, and the line at fault
abbrev pub list_number : ListError → ℕ
list_number TooLong = 1
list_number (Malformed n) = 2
list_number (TooLarge n) = 3

abbrev pub list_second : ListError → ℕ
list_second TooLong = 0
list_second (Malformed n) = n
list_second (TooLarge n) = n

-- those of an answer: 0 and 0 of a sound list
abbrev pub number_of : Result (Unit {0}) ListError → ℕ
number_of (Ok u) = 0
number_of (Err e) = list_number e

abbrev pub second_of : Result (Unit {0}) ListError → ℕ
second_of (Ok u) = 0
second_of (Err e) = list_second e

-- no path prints as the line at the front of s
abbrev pub NoLine : List ℕ → Type 0
NoLine s = (p : Path) (t : List ℕ) → IsPath p → s ≡ print_line p ++ t → ⊥

-- a path prints as the line at the front of s, and is too large
pub record LargeLine (s : List ℕ) : Type 0 where
  pub path : Path
  pub rest : List ℕ
  pub prints : s ≡ print_line path ++ rest
  pub is : IsPath path
  pub over : Within path → ⊥

-- the paths ps are the first lines of s, each sound, and t follows them
pub record Before (s : List ℕ) (ps : List Path) (t : List ℕ) : Type 0 where
  pub prints : s ≡ print_list ps ++ t
  pub good : All Good ps

-- "the first line with a fault decides, and nothing after it is looked at"; "a line 33 exists if a byte follows the 32nd LF"
pub data Says (s : List ℕ) : Result (Unit {0}) ListError → Type 0 where
  long : 8192 < length s → Says s (Err TooLong)
  sound : length s ≤ 8192 → (ps : List Path) → Before s ps [] → length ps ≤ 32 → Says s (Ok tt)
  malformed : length s ≤ 8192 → (ps : List Path) (t : List ℕ) → Before s ps t → length ps < 32 → (t ≡ [] → ⊥) → NoLine t
      → Says s (Err (Malformed (length ps + 1)))
  large : length s ≤ 8192 → (ps : List Path) (t : List ℕ) → Before s ps t → length ps < 32 → LargeLine t
      → Says s (Err (TooLarge (length ps + 1)))
  past : length s ≤ 8192 → (ps : List Path) (t : List ℕ) → Before s ps t → length ps ≡ 32 → (t ≡ [] → ⊥)
      → Says s (Err (TooLarge 33))
