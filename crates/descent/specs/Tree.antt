-- "an element reads its content, and content reads the elements inside it, to depth 64": what both come to, by the scan of the document and
-- the engine run over its tokens. A state is on the way where both, from its place on, come to what they come to from the start. So an
-- element takes a state that is on the way before its tag to one that is on the way behind its end, whatever buffer there was at the
-- beginning; and an item at fault is the one that the scan finds. In order: what the code needs to be safe; states on the way; where
-- content stops; an element, and content; a whole document.
use Rattle.std.specs.Prelude.{◌≡◌, Bool, true, false, List, ℕ, ◌-◌, ◌*◌, ◌≤◌, ◌<◌, length, Result, Ok, Err}
use Rattle.std.proofs.lemmas.List.Edits.{sets}
use Rattle.paths.specs.Judge.{list_paths}
use Rattle.tags.specs.declared.Item.TheVariants.{Start, Finish}
use Rattle.items.specs.Item.{item_at}
use Rattle.document.specs.Place.{Opened, placement}
use Rattle.document.specs.Levels.{names_of}
use Rattle.document.specs.Judge.{scan_from, scanned}
use Rattle.document.specs.declared.Open.{Open}
use Rattle.document.specs.declared.Placement.TheVariants.{Fine, Over}
use Rattle.document.specs.declared.ItemError.{ItemError}
use Rattle.document.specs.declared.DocumentError.TheVariants.{At}
use Rattle.trees.specs.Grown.{tokens_from, tokens_of}
use Rattle.trees.specs.Engine.{Engine, begun, run as runs}
use Rattle.trees.specs.Written.{verdicts, cut_of, count_of}
use Rattle.output.specs.Levels.{Placed}
use Rattle.descent.specs.Ink.{Stands}
use Rattle.descent.specs.declared.ink.Run.{Run}
use Rattle.descent.specs.declared.ink.Tag.{Tag}
use Rattle.descent.specs.declared.tree.End.{End}

-- ---- what the code needs: the names are inside the document, the numbers far from 64 bits, and a kept entry is open in the input alone

pub record Safe (d starts lens : List ℕ) (level : ℕ) (kept : Bool) (r : Run) (at : ℕ) : Type 0 where
  pub placed : Placed d starts lens level
  pub within : at ≤ length d
  pub small : length d ≤ 16777216
  pub order : r.reached.0 ≤ level
  pub entry : kept ≡ true → r.reached.0 < level
  pub far : r.len ≤ at * 4294967296
  pub few : r.count ≤ at * 2

-- ---- a state on the way: o₀ is the buffer at the beginning, o the buffer now

abbrev pub opening : List ℕ → List ℕ → List ℕ → ℕ → Bool → Opened
opening d starts lens level rooted = record { names = names_of d starts lens level; rooted = rooted }

pub record Going (list d starts lens o₀ : List ℕ) (level : ℕ) (rooted kept : Bool) (r : Run) (at : ℕ) (first : Bool) (o : List ℕ)
    : Type 0 where
  pub fuel : ℕ
  pub enough : length d - at < fuel
  pub scans : scan_from fuel d at first (opening d starts lens level rooted) ≡ scanned d
  pub x : Engine
  pub makes : runs (verdicts (list_paths list)) (tokens_from fuel d at first) x ≡ runs (verdicts (list_paths list)) (tokens_of d) begun
  pub stands : Stands d starts lens o₀ level r.reached.0 kept r.len r.count o x

-- ---- where content stops: at the end tag of the innermost element, from at to end, or at the end of the document

pub data Stops (d : List ℕ) (at end : ℕ) (first : Bool) (s : Opened) : Type 0 where
  closed : (n : ℕ) → Finish n end ≡ item_at first d at → placement d at (Finish n end) s ≡ Fine → Stops d at end first s
  over : placement d at (item_at first d at) s ≡ Over → end ≡ at → Stops d at end first s

-- ---- an element whose tag may stand where it stands, and content

pub record ElementEnds (list d starts lens : List ℕ) (level : ℕ) (kept : Bool) (tag : Tag) (empty : Bool) (r : Run) (o : List ℕ)
    (end : ℕ) (r' : Run) (o' : List ℕ) : Type 0 where
  pub ahead : tag.at < end
  pub safe : Safe d starts lens level kept r' end
  pub same : kept ≡ true → r'.reached.0 ≡ r.reached.0
  pub room : length o' ≡ length o
  pub goes : (o₀ : List ℕ) (first rooted twice : Bool)
      → Start tag.name tag.head tag.end empty twice ≡ item_at first d tag.at
      → placement d tag.at (Start tag.name tag.head tag.end empty twice) (opening d starts lens level rooted) ≡ Fine
      → Going list d starts lens o₀ level rooted kept r tag.at first o → Going list d starts lens o₀ level true kept r' end false o'

abbrev pub ElementIs : List ℕ → List ℕ → List ℕ → List ℕ → ℕ → Bool → Tag → Bool → Run → List ℕ → Result End ItemError
    → List ℕ → Type 0
ElementIs list d starts lens level kept tag empty r o (Ok e) o' =
    ElementEnds list d starts lens level kept tag empty r o e.end e.run o'
ElementIs list d starts lens level kept tag empty r o (Err e) o' =
    (o₀ : List ℕ) (first rooted twice : Bool)
    → Start tag.name tag.head tag.end empty twice ≡ item_at first d tag.at
    → placement d tag.at (Start tag.name tag.head tag.end empty twice) (opening d starts lens level rooted) ≡ Fine
    → Going list d starts lens o₀ level rooted kept r tag.at first o → Err (At e.why e.at) ≡ scanned d

pub record ContentEnds (list d starts lens : List ℕ) (opened : Open) (kept : Bool) (at : ℕ) (first : Bool) (r : Run) (o : List ℕ)
    (at' end : ℕ) (r' : Run) (o' : List ℕ) : Type 0 where
  pub ahead : at ≤ at'
  pub safe : Safe d starts lens opened.level.0 kept r' at'
  pub same : kept ≡ true → r'.reached.0 ≡ r.reached.0
  pub room : length o' ≡ length o
  pub rooted : Bool
  pub later : Bool
  pub still : opened.rooted ≡ true → rooted ≡ true
  pub stops : Stops d at' end later (opening d starts lens opened.level.0 rooted)
  pub goes : (o₀ : List ℕ) → Going list d starts lens o₀ opened.level.0 opened.rooted kept r at first o
      → Going list d starts lens o₀ opened.level.0 rooted kept r' at' later o'

abbrev pub ContentIs : List ℕ → List ℕ → List ℕ → List ℕ → Open → Bool → ℕ → Bool → Run → List ℕ → Result End ItemError
    → List ℕ → Type 0
ContentIs list d starts lens opened kept at first r o (Ok e) o' =
    ContentEnds list d starts lens opened kept at first r o e.at e.end e.run o'
ContentIs list d starts lens opened kept at first r o (Err e) o' =
    (o₀ : List ℕ) → Going list d starts lens o₀ opened.level.0 opened.rooted kept r at first o → Err (At e.why e.at) ≡ scanned d

-- ---- a whole document: it is sound, and its cut is laid into the buffer as far as that reaches; or the scan finds the fault

pub record WholeEnds (list d o : List ℕ) (r : Run) (o' : List ℕ) : Type 0 where
  pub sound : Ok tt ≡ scanned d
  pub long : r.len ≡ length (cut_of list d)
  pub counted : r.count ≡ count_of list d
  pub laid : o' ≡ sets o 0 (cut_of list d)

abbrev pub WholeTold : List ℕ → List ℕ → List ℕ → Result End ItemError → List ℕ → Type 0
WholeTold list d o (Ok e) o' = WholeEnds list d o e.run o'
WholeTold list d o (Err e) o' = Err (At e.why e.at) ≡ scanned d

pub record WholeIs (list d o : List ℕ) (r : Result End ItemError) (o' : List ℕ) : Type 0 where
  pub told : WholeTold list d o r o'
