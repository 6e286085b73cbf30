-- What the code's numbers and names stand for: an engine of the crate trees. And a step, which makes of whatever engine they stand for what
-- f makes of it. Names by level, rows of them and text laid are defined in the crate output, whose code is not used here.
use Rattle.std.specs.Prelude.{◌≡◌, Bool, true, false, List, ℕ, ◌+◌, ◌-◌, ◌≤◌, ◌<◌, length}
use Rattle.trees.specs.Engine.{Engine, kept_of, pend_of, done_of, out_of, num_of}
use Rattle.output.specs.Levels.{name_at, span, Laid}
use Rattle.descent.specs.declared.ink.Run.{Run}
use Rattle.descent.specs.declared.select.Verdict.{Verdict}
use Rattle.descent.specs.declared.select.Verdict.TheVariants.{Unselected, Selected, Marked}

-- whether an element is a kept entry
abbrev pub is_marked : Verdict → Bool
is_marked Unselected = false
is_marked Selected = false
is_marked Marked = true

-- `level` elements are open in the input, `reached` of them in the output; o₀ is the buffer at the beginning, o the buffer now
pub record Stands (d starts lens o₀ : List ℕ) (level reached : ℕ) (kept : Bool) (len count : ℕ) (o : List ℕ) (e : Engine) : Type 0 where
  pub kept_is : kept_of e ≡ kept
  pub pend_is : pend_of e ≡ span (name_at d starts lens) reached (level - reached)
  pub done_is : done_of e ≡ span (name_at d starts lens) 0 reached
  pub num_is : num_of e ≡ count
  pub text : Laid o₀ len o (out_of e)

-- one step: it writes at most 2^31 bytes, and selects one element at most
pub record Moved (d starts lens : List ℕ) (level reached : ℕ) (kept : Bool) (len count : ℕ) (o : List ℕ) (f : Engine → Engine)
    (level' reached' : ℕ) (kept' : Bool) (len' count' : ℕ) (o' : List ℕ) : Type 0 where
  pub moves : (o₀ : List ℕ) (e : Engine) → Stands d starts lens o₀ level reached kept len count o e
      → Stands d starts lens o₀ level' reached' kept' len' count' o' (f e)
  pub order : reached' ≤ level'
  pub far : len' ≤ len + 2147483648
  pub few : count' ≤ count + 1
  pub same : length o' ≡ length o

abbrev pub Moves : List ℕ → List ℕ → List ℕ → ℕ → Bool → Run → List ℕ → (Engine → Engine) → ℕ → Bool → Run → List ℕ → Type 0
Moves d starts lens level kept r o f level' kept' r' o' =
    Moved d starts lens level r.reached.0 kept r.len r.count o f level' r'.reached.0 kept' r'.len r'.count o'

-- no number that a step reckons with goes over 64 bits
pub record Ready (d : List ℕ) (r : Run) : Type 0 where
  pub small : length d ≤ 16777216
  pub near : r.len < 144115188075855872
  pub few : r.count < 144115188075855872

-- the level opened in the output, at a start and by what is said of the element: it stays in a kept entry, and an entry is not opened there
pub record Reached (kept : Bool) (v : Verdict) (level before after : ℕ) : Type 0 where
  pub stays : kept ≡ true → after ≡ before
  pub entry : kept ≡ false → is_marked v ≡ true → after ≡ level
