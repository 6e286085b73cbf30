-- What the code's numbers and arrays stand for: an engine. In order: the names kept by level; the text laid, and the bytes that are due;
-- the engine that they stand for; and a step, which makes of whatever engine they stand for what f makes of it.
use Rattle.std.specs.Prelude.{◌≡◌, Bool, true, false, List, [], ◌∷◌, ◌++◌, ◌⊎◌, ℕ, zero, suc, ◌+◌, ◌-◌, ◌*◌, ◌≤◌, ◌<◌, length, get_or}
use Rattle.std.proofs.lemmas.List.Edits.{sets}
use Rattle.xml.specs.Forest.{Name}
use Rattle.tags.specs.Kept.{name_from}
use Rattle.writer.specs.Wrote.{Wrote}
use Rattle.notes.specs.Notes.{Noted, Stood}
use Rattle.trees.specs.Grown.{part}
use Rattle.trees.specs.Engine.{Engine, kept_of, pend_of, done_of, out_of, num_of}
use Rattle.output.specs.declared.Run.{Run}

-- the name at an index: the one below the root is at 1
unfoldable pub name_at : List ℕ → List ℕ → List ℕ → ℕ → Name
name_at d starts lens i = name_from d (get_or starts i 0) (get_or lens i 0)

-- k names from the index lo on, the innermost first
abbrev pub span : (ℕ → Name) → ℕ → ℕ → List Name
span f lo zero = []
span f lo (suc k) = f (lo + k) ∷ span f lo k

-- the names of the first `level` levels are inside the document
pub record Placed (d starts lens : List ℕ) (level : ℕ) : Type 0 where
  pub deep : level ≤ 64
  pub starts_long : length starts ≡ 64
  pub lens_long : length lens ≡ 64
  pub inside : (i : ℕ) → i < level → get_or starts i 0 + get_or lens i 0 ≤ length d

-- the buffer, which was o₀, has the text w at its front as far as it reaches
pub record Laid (o₀ : List ℕ) (len : ℕ) (o w : List ℕ) : Type 0 where
  pub long : length w ≡ len
  pub laid : o ≡ sets o₀ 0 w

-- the text s was laid into the buffer o from the place len on, and noted in the log g after m notes
pub record Inked (d o g : List ℕ) (len m : ℕ) (s : List ℕ) (len' m' : ℕ) (o' g' : List ℕ) : Type 0 where
  pub wrote : Wrote o len s len' o'
  pub noted : Noted d g m s m' g'

-- ---- inside a kept entry, `kept` is one more than the place where it begins; else it is 0

abbrev pub within : ℕ → Bool
within zero = false
within (suc from) = true

-- the bytes due when the place `at` is reached
abbrev pub owed : List ℕ → ℕ → ℕ → List ℕ
owed d zero at = []
owed d (suc from) at = part d from at

-- after an item at the place `at`, where that is inside a kept entry: the same entry, or one that begins with the item
abbrev pub entry_at : ℕ → ℕ → ℕ
entry_at zero at = at + 1
entry_at (suc from) at = suc from

-- an end begins no entry
abbrev pub Stays : ℕ → ℕ → Type 0
Stays kept kept' = (kept' ≡ 0) ⊎ (kept' ≡ kept)

-- nothing is written at the end of the innermost of `level` open elements: it is not open in the output, and it waits or is inside a kept
-- entry that goes on behind it
abbrev pub Silent : ℕ → ℕ → ℕ → Type 0
Silent reached kept level = (reached < level) × ((kept ≡ 0) ⊎ (reached + 1 < level))

-- The code's state stands for an engine: `level` is the input level, `reached` the output level, `at` the place reached; o₀ is the buffer
-- at the beginning, o the buffer now, g the log with m notes. What the engine has written is what is laid, and then what is due.
pub record Stands (d starts lens o₀ : List ℕ) (level reached kept at len count m : ℕ) (o g : List ℕ) (e : Engine) : Type 0 where
  pub kept_is : kept_of e ≡ within kept
  pub inner : (kept ≡ 0) ⊎ (reached < level)
  pub behind : kept ≤ at + 1
  pub pend_is : pend_of e ≡ span (name_at d starts lens) reached (level - reached)
  pub done_is : done_of e ≡ span (name_at d starts lens) 0 reached
  pub num_is : num_of e ≡ count
  pub said : List ℕ
  pub out_is : out_of e ≡ said ++ owed d kept at
  pub text : Laid o₀ len o said
  pub notes : Stood d g m said

-- Some steps, from the place `at` to at', do what f does to whatever engine the state stands for. Each writes at most 2^31 bytes, and
-- selects one element at most.
pub record Moved (d starts lens : List ℕ) (level reached kept at len count m : ℕ) (o g : List ℕ) (f : Engine → Engine)
    (steps level' reached' kept' at' len' count' m' : ℕ) (o' g' : List ℕ) : Type 0 where
  pub moves : (o₀ : List ℕ) (e : Engine) → Stands d starts lens o₀ level reached kept at len count m o g e
      → Stands d starts lens o₀ level' reached' kept' at' len' count' m' o' g' (f e)
  pub entry : (kept' ≡ 0) ⊎ (kept' ≡ entry_at kept at)
  pub order : reached' ≤ level'
  pub far : len' ≤ len + steps * 2147483648
  pub few : count' ≤ count + steps
  pub same : length o' ≡ length o
  pub room : length g' ≡ length g

abbrev pub Moves : List ℕ → List ℕ → List ℕ → ℕ → ℕ → Run → List ℕ → List ℕ → (Engine → Engine) → ℕ → ℕ → ℕ → Run → List ℕ → List ℕ
    → Type 0
Moves d starts lens level at r o g f steps level' at' r' o' g' =
    Moved d starts lens level r.reached.0 r.kept at r.len r.count r.noted o g f steps
    level' r'.reached.0 r'.kept at' r'.len r'.count r'.noted o' g'

-- no number that a step reckons with goes over 64 bits
pub record Ready (d g : List ℕ) (r : Run) (most : ℕ) : Type 0 where
  pub small : length d ≤ 16777216
  pub log_small : length g ≤ 16777216
  pub near : r.len < most
  pub few : r.count < most
