-- The elements selected, token by token, as the code counts them: of a sound document they are those of its forest.
use mathlib.Core.Path.{◌≡◌, sym, ap, ◌∙◌}
use mathlib.Core.List.{List, [], ◌∷◌}
use Prim.Native.Nat.{ℕ, ◌+◌}
use native.Mathlib.Omega.{arith}
use Rattle.std.specs.Prelude.{Ok}
use Rattle.xml.specs.Forest.{Name, Forest, nil, other, elem}
use Rattle.paths.specs.Judge.{list_paths}
use Rattle.document.specs.Judge.{scanned}
use Rattle.trees.specs.Cut.{Judge, on, one, count}
use Rattle.trees.specs.Grown.{Token, start, finish, aside, tokens, tokens_of, forest_of}
use Rattle.trees.specs.Engine.{outer}
use Rattle.trees.specs.Written.{verdicts, count_of}
use Rattle.trees.proofs.Nested.{sound_tokens}

-- of the elements that tokens start, inside those of the names `up`
abbrev pub selected_over : Judge → List Token → List Name → ℕ
selected_over v [] up = 0
selected_over v (start t ∷ ts) up = one (on v t up) + selected_over v ts (t.name ∷ up)
selected_over v (finish raw ∷ ts) up = selected_over v ts (outer up)
selected_over v (aside raw ∷ ts) up = selected_over v ts up

over_selected : (v : Judge) (f : Forest) (up : List Name) (ts : List Token)
    → selected_over v (tokens f ts) up ≡ count v up f + selected_over v ts up
over_selected v nil up ts = omega arith
over_selected v (other raw rest) up ts = over_selected v rest up ts
over_selected v (elem t kids close rest) up ts =
    let a = over_selected v kids (t.name ∷ up) (finish close ∷ tokens rest ts) in
    let b = over_selected v rest up ts in
    omega arith

pub sound_count : (list d : List ℕ) → scanned d ≡ Ok tt → selected_over (verdicts (list_paths list)) (tokens_of d) [] ≡ count_of list d
unfolding count_of
sound_count list d e =
    let v = verdicts (list_paths list) in
    let a = over_selected v (forest_of d) [] [] in
    ap (λ (ts : List Token). selected_over v ts []) (sym (sound_tokens d e)) ∙ (omega arith)
