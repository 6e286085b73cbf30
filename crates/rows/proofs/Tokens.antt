-- The table token by token is the table of the forest: first of a text, then of records; so that of a sound document is the one of its
-- tokens.
use mathlib.Core.Path.{◌≡◌, refl, sym, ap, ◌∙◌}
use mathlib.Core.List.{List, [], ◌∷◌, ◌++◌, append_assoc, append-nil}
use Prim.Native.Nat.{ℕ, suc}
use Rattle.std.specs.Prelude.{Ok}
use Rattle.xml.specs.Forest.{Name, Forest, nil, other, elem}
use Rattle.paths.specs.Judge.{list_paths}
use Rattle.document.specs.Judge.{scanned}
use Rattle.trees.specs.Cut.{Judge, on}
use Rattle.trees.specs.Grown.{Token, finish, tokens, tokens_of, forest_of}
use Rattle.trees.specs.Written.{verdicts}
use Rattle.trees.proofs.Nested.{sound_tokens}
use Rattle.rows.specs.Field.{header}
use Rattle.rows.specs.Text.{said_of, text_in}
use Rattle.rows.specs.Table.{record_by, records, table_of}
use Rattle.rows.specs.Tokens.{text_over, records_over}

-- what stands deeper is passed over
over_deep : (f : Forest) (n : ℕ) (ts : List Token) → text_over (suc n) (tokens f ts) ≡ text_over (suc n) ts
over_deep nil n ts = refl
over_deep (other raw rest) n ts = over_deep rest n ts
over_deep (elem t kids close rest) n ts = over_deep kids (suc n) (finish close ∷ tokens rest ts) ∙ over_deep rest n ts

-- the text directly in an element is that of its items, up to its end
pub over_text : (f : Forest) (ts : List Token) → text_over 0 (tokens f ts) ≡ text_in f ++ text_over 0 ts
over_text nil ts = refl
over_text (other raw rest) ts = ap (λ (x : List ℕ). said_of raw ++ x) (over_text rest ts) ∙ sym (append_assoc (said_of raw) _ _)
over_text (elem t kids close rest) ts = over_deep kids 0 (finish close ∷ tokens rest ts) ∙ over_text rest ts

pub over_records : (v : Judge) (f : Forest) (up : List Name) (ts : List Token)
    → records_over v (tokens f ts) up ≡ records v up f ++ records_over v ts up
over_records v nil up ts = refl
over_records v (other raw rest) up ts = over_records v rest up ts
over_records v (elem t kids close rest) up ts =
    let own = record_by (on v t up) (t.name ∷ up) (text_in kids) in
    let below = records v (t.name ∷ up) kids in
    let text : text_over 0 (tokens kids (finish close ∷ tokens rest ts)) ≡ text_in kids =
    over_text kids (finish close ∷ tokens rest ts) ∙ append-nil (text_in kids) in
    let kin : records_over v (tokens kids (finish close ∷ tokens rest ts)) (t.name ∷ up)
    ≡ below ++ (records v up rest ++ records_over v ts up) =
    over_records v kids (t.name ∷ up) (finish close ∷ tokens rest ts) ∙ ap (λ (x : List ℕ). below ++ x) (over_records v rest up ts) in
    rw (text, kin) (simp append_assoc)

pub sound_table : (list d : List ℕ) → scanned d ≡ Ok tt
    → header ++ records_over (verdicts (list_paths list)) (tokens_of d) [] ≡ table_of list d
unfolding table_of
sound_table list d h =
    let v = verdicts (list_paths list) in
    ap (λ (x : List ℕ). header ++ x)
    (ap (λ (ts : List Token). records_over v ts []) (sym (sound_tokens d h)) ∙ over_records v (forest_of d) [] [] ∙ append-nil _)
