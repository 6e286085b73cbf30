-- "the header `path,text`, then one record for each selected element in the order of start tags". The names of an element and of those
-- around it stand with the element's own first, as in the crate trees.
use Rattle.std.specs.Prelude.{List, [], ◌∷◌, ◌++◌, ℕ}
use Rattle.xml.specs.Forest.{Name, Forest, nil, other, elem}
use Rattle.paths.specs.Judge.{list_paths}
use Rattle.matcher.specs.declared.Verdict.{Verdict}
use Rattle.matcher.specs.declared.Verdict.TheVariants.{Unselected, Selected, Marked}
use Rattle.trees.specs.Cut.{Judge, on}
use Rattle.trees.specs.Grown.{forest_of}
use Rattle.trees.specs.Written.{verdicts}
use Rattle.rows.specs.Field.{record_of, header}
use Rattle.rows.specs.Text.{text_in}

-- the record of an element, by its verdict: "The mark # changes nothing here"
abbrev pub record_by : Verdict → List Name → List ℕ → List ℕ
record_by Unselected up s = []
record_by Selected up s = record_of up s
record_by Marked up s = record_of up s

-- "in the order of start tags": that of an element before those of the elements inside it, and these before those after it
abbrev pub records : Judge → List Name → Forest → List ℕ
records v up nil = []
records v up (other raw rest) = records v up rest
records v up (elem t kids close rest) =
    record_by (on v t up) (t.name ∷ up) (text_in kids) ++ (records v (t.name ∷ up) kids ++ records v up rest)

-- "It reads the document, not a cut"
unfoldable pub table_of : List ℕ → List ℕ → List ℕ
table_of list d = header ++ records (verdicts (list_paths list)) [] (forest_of d)
