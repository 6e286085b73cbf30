-- The table of a document by a list is what document 02 says (specs/Table.antt), and nothing else is: `table_says` and `table_only`.
use mathlib.Core.Path.{◌≡◌, refl, sym, ap, ◌∙◌}
use mathlib.Core.List.{List, [], ◌++◌, append-nil}
use Prim.Native.Nat.{ℕ}
use Rattle.std.specs.Prelude.{Ok}
use Rattle.xml.specs.Notation.{bytes}
use Rattle.xml.specs.Forest.{Forest}
use Rattle.paths.specs.Path.{Path, print_list}
use Rattle.paths.specs.Answer.{Before}
use Rattle.paths.specs.Judge.{list_answer, list_paths}
use Rattle.paths.proofs.Meaning.{says_only, paths_print, print_once}
use Rattle.document.specs.Judge.{judge_of}
use Rattle.matcher.proofs.Tests.{counted_one}
use Rattle.trees.specs.Grown.{forest_of}
use Rattle.trees.specs.Written.{count_of}
use Rattle.demands.specs.Judged as document_says
use Rattle.demands.proofs.Accepted.{derived_forest}
use Rattle.demands.proofs.Faults.{judge_only}
use Rattle.demands.proofs.Answers.{cut_cuts}
use Rattle.rows.specs.Field.{header}
use Rattle.rows.specs.Table.{records, table_of}
use Rattle.tables.specs.Table.{RowsSay, Tables}
use Rattle.tables.proofs.Rows.{rows_only, document_rows}

-- a list is the print of one list of paths
paths_are : {list : List ℕ} {ps : List Path} → list_answer list ≡ Ok tt → Before list ps [] → ps ≡ list_paths list
paths_are {list} {ps} p x =
    let (a, b, l) = paths_print list p in
    print_once ps (list_paths list) x.good b (sym (append-nil (print_list ps)) ∙ sym x.prints ∙ sym a)

-- the table, by the paths and the forest that it is read with
table_by : (list d : List ℕ) {ps : List Path} {f : Forest} {w : List ℕ} → ps ≡ list_paths list → f ≡ forest_of d → RowsSay ps [] f w
    → table_of list d ≡ bytes "path,text\r\n" ++ w
unfolding table_of header
table_by list d {ps} {f} p q r =
    ap (λ (x : List ℕ). bytes "path,text\r\n" ++ x) (rw (← p, ← q) (rows_only ps [] f refl r))

-- a list and a document that are accepted have a table, and it is the one that is computed
pub table_says : (list d : List ℕ) → list_answer list ≡ Ok tt → judge_of d ≡ Ok tt
    → Tables list d (table_of list d) (count_of list d)
table_says list d p q =
    let c = cut_cuts list d p q in
    let (w, r) = document_rows c.paths c.accepted.derived in
    record {
      listed = c.listed;
      paths = c.paths;
      printed = c.printed;
      forest = c.forest;
      accepted = c.accepted;
      records = w;
      rows = r;
      bytes_are =
          table_by list d (paths_are p c.printed) (derived_forest d c.accepted.chars c.accepted.derived) r;
      selected = c.selected;
    }

-- and one only
pub record TableIs (list d w : List ℕ) (c : ℕ) : Type 0 where
  pub list_sound : list_answer list ≡ Ok tt
  pub document_sound : judge_of d ≡ Ok tt
  pub bytes_are : w ≡ table_of list d
  pub count_is : c ≡ count_of list d

pub table_only : {list d w : List ℕ} {c : ℕ} → Tables list d w c → TableIs list d w c
table_only {list} {d} {w} {c} x =
    let p = says_only list (Ok tt) x.listed in
    let s = judge_only d (Ok tt) (document_says.sound x.accepted) in
    let y = cut_cuts list d p s in
    let e = paths_are p x.printed in
    let f = derived_forest d x.accepted.chars x.accepted.derived in
    let g : y.paths ≡ x.paths = paths_are p y.printed ∙ sym e in
    let h : y.forest ≡ x.forest = derived_forest d y.accepted.chars y.accepted.derived ∙ sym f in
    record {
      list_sound = p;
      document_sound = s;
      bytes_are = x.bytes_are ∙ sym (table_by list d e f x.rows);
      count_is = counted_one x.selected (rw (g, h) at y.selected);
    }
