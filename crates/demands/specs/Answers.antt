-- What each answer of a cut says, in the request's words and order: "1; 2 and 3 by line; 4; 5; 6 to 8 by item; 9", and 10 "stands between 4
-- and 5". In order: the name tests; what is cut; the answers; the buffer; the place of a refusal.
-- proofs/Answers.antt shows that each call has the one answer that is said.
use Rattle.std.specs.Prelude.{◌≡◌, List, [], ◌++◌, ℕ, ◌≤◌, ◌<◌, length, drop, Err, Ok, Result}
use Rattle.xml.specs.Forest.{Forest}
use Rattle.paths.specs.Path.{Path}
use Rattle.paths.specs.Answer.{Before, Says}
use Rattle.paths.specs.declared.ListError.TheVariants as lists
use Rattle.document.specs.declared.Why.TheVariants as why
use Rattle.document.specs.declared.DocumentError.TheVariants as judged
use Rattle.matcher.specs.Says.{BySome}
use Rattle.matcher.specs.Tried.{Counted, Placing, steps_of, Tried}
use Rattle.cutter.specs.Answer.{number_of}
use Rattle.cutter.specs.declared.answer.Cut.{Cut}
use Rattle.refusals.specs.declared.CutError.{CutError}
use Rattle.refusals.specs.declared.CutError.TheVariants as errors
use Rattle.demands.specs.Elements.{Element, elements, pairs}
use Rattle.demands.specs.Judged.{Accepted, DocumentSays}
use Rattle.demands.specs.Rule.{Writes}

-- Q-13: "for each element and each step of each line, one exactly when the steps before it can be laid so that the step's place would be
-- that element", "taken over the whole document, inside kept entries too"
abbrev pub Tests : List Path → List Element → ℕ → Type 0
Tests ps xs t = Counted (λ (y : Element × Placing). Tried y.0.names y.1) (pairs xs (steps_of ps)) t

-- By a list and of a document that are accepted, w is the cut, c the number of "elements selected, those inside a kept entry too" and t
-- that of the name tests tried: the list is the print of some paths, production [1] derives the document with some forest, w is what the
-- rule writes of that forest by these paths, c of its elements are selected by one of them, and t name tests are tried at its elements.
pub record Cuts (list d w : List ℕ) (c t : ℕ) : Type 0 where
  pub listed : Says list (Ok tt)
  pub paths : List Path
  pub printed : Before list paths []
  pub forest : Forest
  pub accepted : Accepted d forest
  pub writes : Writes paths [] forest w
  pub selected : Counted (λ (x : Element). BySome paths x.names x.attributes) (elements [] forest) c
  pub tested : Tests paths (elements [] forest) t

pub data AnswerSays (list d : List ℕ) (room : ℕ) : Result Cut CutError → Type 0 where
  -- "list over 8,192 bytes"; "malformed line"; "line too large, or line 33"
  list_long : Says list (Err lists.TooLong) → AnswerSays list d room (Err (errors.List lists.TooLong))
  list_malformed : {line : ℕ} → Says list (Err (lists.Malformed line)) → AnswerSays list d room (Err (errors.List (lists.Malformed line)))
  list_large : {line : ℕ} → Says list (Err (lists.TooLarge line)) → AnswerSays list d room (Err (errors.List (lists.TooLarge line)))
  -- "document too long"; "names another encoding"; "not UTF-8, or not a Char, anywhere"; "doctype; not well-formed; over a size"
  too_long : Says list (Ok tt) → DocumentSays d (Err judged.TooLong) → AnswerSays list d room (Err (errors.Document judged.TooLong))
  in_other_encoding : {o : ℕ} → Says list (Ok tt) → DocumentSays d (Err (judged.OtherEncoding o))
      → AnswerSays list d room (Err (errors.Document (judged.OtherEncoding o)))
  not_char : {o : ℕ} → Says list (Ok tt) → DocumentSays d (Err (judged.NotChar o))
      → AnswerSays list d room (Err (errors.Document (judged.NotChar o)))
  doctype : {o : ℕ} → Says list (Ok tt) → DocumentSays d (Err (judged.At why.Doctype o))
      → AnswerSays list d room (Err (errors.Document (judged.At why.Doctype o)))
  malformed : {o : ℕ} → Says list (Ok tt) → DocumentSays d (Err (judged.At why.Malformed o))
      → AnswerSays list d room (Err (errors.Document (judged.At why.Malformed o)))
  too_large : {o : ℕ} → Says list (Ok tt) → DocumentSays d (Err (judged.At why.TooLarge o))
      → AnswerSays list d room (Err (errors.Document (judged.At why.TooLarge o)))
  -- "output shorter than the cut: length needed"; "written: length written; and a third: elements selected", and "also hands back the
  -- number of name tests tried"
  short : {w : List ℕ} {c t : ℕ} → Cuts list d w c t → room < length w → AnswerSays list d room (Err (errors.Short (length w)))
  written : {w : List ℕ} {c t : ℕ} → Cuts list d w c t → length w ≤ room
      → AnswerSays list d room (Ok (record { length = length w; selected = c; tests = t }))

-- "On 0 the bytes after the cut stay as they were; on any other number the whole output does": the buffer o before and after the call
pub data BufferSays (list d o : List ℕ) : List ℕ → Type 0 where
  on_written : {w : List ℕ} {c t : ℕ} → Cuts list d w c t → length w ≤ length o → BufferSays list d o (w ++ drop (length w) o)
  on_refused : (a : Result Cut CutError) → AnswerSays list d (length o) a → (number_of a ≡ 0 → ⊥) → BufferSays list d o o

-- "refused by a number and a place": a line is 1 to 33, an offset at most the document's length, what is needed more than the room
abbrev pub Placed : List ℕ → ℕ → Result Cut CutError → Type 0
Placed d room (Ok c) = c.length ≤ room
Placed d room (Err (errors.List lists.TooLong)) = Unit {0}
Placed d room (Err (errors.List (lists.Malformed line))) = (1 ≤ line) × (line ≤ 32)
Placed d room (Err (errors.List (lists.TooLarge line))) = (1 ≤ line) × (line ≤ 33)
Placed d room (Err (errors.Document judged.TooLong)) = Unit {0}
Placed d room (Err (errors.Document (judged.OtherEncoding o))) = o < length d
Placed d room (Err (errors.Document (judged.NotChar o))) = o < length d
Placed d room (Err (errors.Document (judged.At why.Doctype o))) = o < length d
Placed d room (Err (errors.Document (judged.At why.Malformed o))) = o ≤ length d
Placed d room (Err (errors.Document (judged.At why.TooLarge o))) = o < length d
Placed d room (Err (errors.Short n)) = room < n
