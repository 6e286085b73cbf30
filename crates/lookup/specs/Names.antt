-- The distinct names of a list with their places in its bytes, in the order of their first place; where a name stands among them; and
-- chains through them by a number of the name, so that a name is found without going through all.
use Rattle.std.specs.Prelude.{Bool, true, false, List, [], ◌∷◌, ◌++◌, ℕ, zero, suc, ◌+◌, ◌*◌, ◌%◌, length, get_or, set, replicate}
use Rattle.xml.specs.Productions.{same}
use Rattle.paths.specs.Path.{Test, any, named, Step, Path, print_kind, print_step, print_line}

-- a name and its place
pub record Named : Type 0 where
  pub place : ℕ
  pub name : List ℕ

abbrev pub test_names : ℕ → Test → List Named
test_names at any = []
test_names at (named n) = record { place = at; name = n } ∷ []

-- the names of steps that are printed from the place at on
abbrev pub step_names : ℕ → List Step → List Named
step_names at [] = []
step_names at (s ∷ ss) = test_names (at + length (print_kind s.kind)) s.test ++ step_names (at + length (print_step s)) ss

abbrev pub list_names : ℕ → List Path → List Named
list_names at [] = []
list_names at (p ∷ ps) = step_names at p.steps ++ list_names (at + length (print_line p)) ps

-- where the name n stands, from 1; 0 where it does not
abbrev pub placed : Bool → ℕ → ℕ
placed true k = 1
placed false zero = 0
placed false (suc k) = suc (suc k)

abbrev pub place_of : List Named → List ℕ → ℕ
place_of [] n = 0
place_of (x ∷ xs) n = placed (same x.name n) (place_of xs n)

-- each once: the first of those that are the same
abbrev pub unless : ℕ → List Named → Named → List Named
unless zero ns x = ns ++ x ∷ []
unless (suc k) ns x = ns

abbrev pub firsts : List Named → List Named → List Named
firsts ns [] = ns
firsts ns (x ∷ xs) = firsts (unless (place_of ns x.name) ns x) xs

unfoldable pub names_of : List Path → List Named
names_of ps = firsts [] (list_names 0 ps)

-- ---- chains

-- a number below 256 for a name, by all of its bytes
abbrev pub hash_from : ℕ → List ℕ → ℕ
hash_from h [] = h
hash_from h (b ∷ n) = hash_from ((h * 31 + b) % 256) n

unfoldable pub hash_of : List ℕ → ℕ
hash_of n = hash_from 0 n

-- the first name of each chain, and the next one after each name: places from 1, and 0 for none
pub record Chains : Type 0 where
  pub head : List ℕ
  pub next : List ℕ

-- name k is put before its chain
abbrev pub linked : Chains → ℕ → List ℕ → Chains
linked c k n =
    record { head = set c.head (hash_of n) (k + 1); next = set c.next k (get_or c.head (hash_of n) 0) }

abbrev pub linked_all : Chains → ℕ → List Named → Chains
linked_all c k [] = c
linked_all c k (x ∷ xs) = linked_all (linked c k x.name) (k + 1) xs

unfoldable pub chains_of : List Named → Chains
chains_of = linked_all (record { head = replicate 256 0; next = replicate 512 0 }) 0
