-- What the tables of names stand for: names by their places in a list, each once, with the chains through them;
-- and what a search says.
use Rattle.std.specs.Prelude.{◌≡◌, List, [], ◌∷◌, ◌++◌, map, ℕ, ◌+◌, ◌-◌, ◌≤◌, length, take, drop, replicate}
use Rattle.paths.specs.Path.{All}
use Rattle.lookup.specs.Names.{Named, place_of, chains_of}

-- n entries, 0 where the list has no more
unfoldable pub padded : ℕ → List ℕ → List ℕ
padded n xs = xs ++ replicate (n - length xs) 0

-- the name is in the list d at its place
pub record Stands (d : List ℕ) (x : Named) : Type 0 where
  pub inside : x.place + length x.name ≤ length d
  pub is : take (length x.name) (drop x.place d) ≡ x.name

-- names each of which is another than those before it
pub data Once : List Named → Type 0 where
  first : Once []
  another : {ns : List Named} (x : Named) → Once ns → place_of ns x.name ≡ 0 → Once (ns ++ x ∷ [])

-- the tables of the names ns
pub record Indexed (d at len head next : List ℕ) (ns : List Named) : Type 0 where
  pub few : length ns ≤ 512
  pub once : Once ns
  pub stand : All (Stands d) ns
  pub at_is : at ≡ padded 512 (map (λ x. x.place) ns)
  pub len_is : len ≡ padded 512 (map (λ x. length x.name) ns)
  pub head_is : head ≡ (chains_of ns).head
  pub next_is : next ≡ (chains_of ns).next

-- the tables of some names
pub record Tables (d at len head next : List ℕ) : Type 0 where
  pub names : List Named
  pub indexed : Indexed d at len head next names

-- r is the place of n, whatever names the tables are of
pub record Found (d at len head next n : List ℕ) (r : ℕ) : Type 0 where
  pub is : (ns : List Named) → Indexed d at len head next ns → r ≡ place_of ns n
