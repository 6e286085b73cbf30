-- What items make, from a spot on, the first k of them: of an engine; of the number of name tests tried; of the place where a kept entry
-- begins; and of the names kept by level.
use Rattle.std.specs.Prelude.{◌≡◌, cond, List, [], ℕ, zero, suc, ◌+◌, length, set}
use Rattle.xml.specs.Forest.{Name}
use Rattle.tags.specs.declared.Item.{Item}
use Rattle.tags.specs.declared.Item.TheVariants.{Declaration, Instruction, Comment, Section, Reference, Text, Start, Finish}
use Rattle.tags.specs.declared.Item.TheVariants.{Doctype, Malformed, TooLarge, Nothing}
use Rattle.document.specs.Levels.{len_of}
use Rattle.trees.specs.Cut.{Judge}
use Rattle.trees.specs.Grown.{Token, item_tokens}
use Rattle.trees.specs.Engine.{Engine, kept_of, open_of, run, tallied}
use Rattle.output.specs.Levels.{entry_at, Stands}
use Rattle.output.specs.declared.Run.{Run}
use Rattle.tape.specs.Taped.{Spot, item_of, behind}

-- those of one item
abbrev pub tokens_at : List ℕ → Spot → List Token
tokens_at d s = item_tokens d s.at (item_of d s) []

abbrev pub engine_after : Judge → List ℕ → Spot → Engine → ℕ → Engine
engine_after v d s x zero = x
engine_after v d s x (suc k) = run v (tokens_at d (behind d s k)) (engine_after v d s x k)

abbrev pub tests_after : Judge → (List Name → ℕ) → List ℕ → Spot → Engine → ℕ → ℕ → ℕ
tests_after v f d s x t zero = t
tests_after v f d s x t (suc k) =
    tests_after v f d s x t k + tallied f (tokens_at d (behind d s k)) (open_of (engine_after v d s x k))

-- inside a kept entry one more than the place where it begins, else 0
abbrev pub entry_after : Judge → List ℕ → Spot → Engine → ℕ → ℕ → ℕ
entry_after v d s x kept zero = kept
entry_after v d s x kept (suc k) =
    cond (kept_of (engine_after v d s x (suc k))) (entry_at (entry_after v d s x kept k) (behind d s k).at) 0

-- one number of a start tag's name, or an empty tag's, is kept at the level that the tag opens: its place, or its length
abbrev pub kept_at : Item → ℕ → ℕ → List ℕ → List ℕ
kept_at (Declaration e) l y xs = xs
kept_at (Instruction e) l y xs = xs
kept_at (Comment e) l y xs = xs
kept_at (Section e) l y xs = xs
kept_at (Reference c e) l y xs = xs
kept_at (Text e) l y xs = xs
kept_at (Start n h e m t) l y xs = set xs l y
kept_at (Finish n e) l y xs = xs
kept_at Doctype l y xs = xs
kept_at Malformed l y xs = xs
kept_at TooLarge l y xs = xs
kept_at Nothing l y xs = xs

abbrev pub kept_after : (Spot → ℕ) → List ℕ → Spot → List ℕ → ℕ → List ℕ
kept_after f d s xs zero = xs
kept_after f d s xs (suc k) =
    kept_at (item_of d (behind d s k)) (length (behind d s k).opened.names) (f (behind d s k)) (kept_after f d s xs k)

abbrev pub starts_after : List ℕ → Spot → List ℕ → ℕ → List ℕ
starts_after d = kept_after (λ (p : Spot). p.at + 1) d

abbrev pub lens_after : List ℕ → Spot → List ℕ → ℕ → List ℕ
lens_after d = kept_after (λ (p : Spot). len_of (item_of d p)) d

-- The run stands for an engine, at a level and a place.
abbrev pub RunStands : List ℕ → List ℕ → List ℕ → List ℕ → ℕ → ℕ → Run → List ℕ → List ℕ → Engine → Type 0
RunStands d starts lens o₀ level at r o g x =
    Stands d starts lens o₀ level r.reached.0 r.kept at r.len r.count r.noted o g x

-- From the engine x, with t name tests tried and `kept` as the run had it, after k items: the engine, the tests and the entry are what the
-- items make of them.
pub record Came (v : Judge) (f : List Name → ℕ) (d : List ℕ) (s : Spot) (x : Engine) (t kept k : ℕ) (starts lens o₀ : List ℕ)
    (level at : ℕ) (r : Run) (tests : ℕ) (o g : List ℕ) : Type 0 where
  pub stood : RunStands d starts lens o₀ level at r o g (engine_after v d s x k)
  pub tried : tests ≡ tests_after v f d s x t k
  pub entry : r.kept ≡ entry_after v d s x kept k
