-- An end tag with no white space, told by its bytes after `<`: `/`, the n bytes at x, `>`. Then what is known of the n bytes at x where an
-- element was opened with that name.
use Rattle.std.specs.Prelude.{◌≡◌, Bool, ◌&&◌, List, [], ◌∷◌, ◌++◌, ℕ, ◌+◌, ◌-◌, ◌≤◌, leb, length, take, drop}
use Rattle.std.proofs.Math.Option.{some}
use Rattle.xml.specs.Character.{begins}
use Rattle.chars.specs.Name.{name_of}

unfoldable pub closes_here : List ℕ → ℕ → ℕ → ℕ → Bool
closes_here d at x n = leb (n + 3) (length d - at) && begins (0x2F ∷ (take n (drop x d) ++ (0x3E ∷ []))) (drop (at + 1) d)

-- at the place a of d stands a name of n bytes, 255 at most, and no longer one
pub record NamedAt (d : List ℕ) (a n : ℕ) : Type 0 where
  pub named : name_of (drop a d) ≡ some (drop (a + n) d)
  pub small : n ≤ 255
