-- What the parts of a line are laid as, for the functions that lay them. In order: text in the packed form, by the places at which the
-- readers of a list find its parts; then a packed form as text, by what is spelled at a place.
use Rattle.std.specs.Prelude.{◌≡◌, Bool, cond, List, [], ◌∷◌, ◌++◌, ℕ, ◌+◌, ◌*◌, ◌≤◌, ◌<◌, eqb, length, take, drop, get_or}
use Rattle.paths.specs.Path.{Path, print_all, print_line, Good}
use Rattle.paths.specs.Reader.{cons, steps}
use Rattle.paths.specs.Judge.{lines}
use Rattle.writer.specs.Wrote.{Wrote}
use Rattle.packed.specs.Packed.{pack_step, pack_mark, pack_line, big_endian}
use Rattle.packed.specs.Spelled.{Piece}
use Rattle.packed.specs.declared.lay.Steps.{Steps}
use Rattle.packed.specs.declared.lay.Line.{Line}
use Rattle.packed.specs.declared.spell.Part.{Part}

-- ---- text in the packed form

-- all steps from the place at on are laid into the buffer o from the place `to` on
pub record LaidSteps (d : List ℕ) (at : ℕ) (o : List ℕ) (to : ℕ) (r : Steps) (o' : List ℕ) : Type 0 where
  pub counted : r.count ≡ length (steps (drop at d)).all
  pub left : (steps (drop at d)).rest ≡ drop r.end d
  pub laid : Wrote o to (print_all pack_step (steps (drop at d)).all) r.to o'
  pub on : at ≤ r.end
  pub inside : r.end ≤ length d
  pub near : r.to + 2 * at ≤ to + 2 * r.end

-- the length, the mark and the number of steps, before a line's steps
abbrev pub pack_head : ℕ → Bool → ℕ → List ℕ
pack_head n m count = big_endian n ++ pack_mark m ∷ count ∷ []

-- a test by the lengths of its name and value: without a name there is none
abbrev pub test_length : ℕ → ℕ → ℕ
test_length len size = cond (eqb len 0) 1 (2 + len + size)

-- and by their places too
abbrev pub pack_placed : List ℕ → ℕ → ℕ → ℕ → ℕ → List ℕ
pack_placed d name len value size =
    cond (eqb len 0) (0 ∷ []) (len ∷ (take len (drop name d) ++ size ∷ take size (drop value d)))

-- at the place at nothing but sound lines is left, and one is
pub record SoundLine (d : List ℕ) (at : ℕ) : Type 0 where
  pub left : (lines (drop at d)).rest ≡ []
  pub some : at < length d

-- the line there is laid, and both places stand behind it
pub record LaidLine (d : List ℕ) (at : ℕ) (o : List ℕ) (to : ℕ) (r : Line) (o' : List ℕ) : Type 0 where
  pub path : Path
  pub good : Good path
  pub runs : lines (drop at d) ≡ cons path (lines (drop r.end d))
  pub ends : r.end ≡ at + length (print_line path)
  pub inside : r.end ≤ length d
  pub laid : Wrote o to (pack_line path) r.to o'

-- ---- a packed form as text

-- the byte at a place, or 0
pub record ByteAt (d : List ℕ) (at r : ℕ) : Type 0 where
  pub is : r ≡ get_or d at 0
  pub small : r ≤ 255

-- s is laid into the buffer o from the place `to` on, and the place moves on by at most k
pub record Lays (k : ℕ) (o : List ℕ) (to : ℕ) (s : List ℕ) (r : ℕ) (o' : List ℕ) : Type 0 where
  pub laid : Wrote o to s r o'
  pub low : r ≤ to + k

-- the piece x, spelled at the place at, is laid into the buffer o from the place `to` on; both places move on by at most k
pub record Spells (k at : ℕ) (o : List ℕ) (to : ℕ) (x : Piece) (r : Part) (o' : List ℕ) : Type 0 where
  pub ends : r.end ≡ at + x.size
  pub laid : Wrote o to x.text r.to o'
  pub near : r.end ≤ at + k
  pub low : r.to ≤ to + k
