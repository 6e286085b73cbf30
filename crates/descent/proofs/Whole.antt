-- A whole document: what its content, outside all elements, needs to be safe; and what it comes to.
use mathlib.Core.Path.{◌≡◌, refl, sym, ap, ◌∙◌, subst}
use mathlib.Core.Bool.{true, false, false≢true}
use mathlib.Core.List.{List}
use Prim.Native.Nat.{ℕ, ◌≤◌}
use native.Mathlib.Omega.{arith}
use lib.ListN.{length, replicate, length-replicate}
use lib.Seq.{sets}
use Rattle.std.specs.Prelude.{Result, Ok, Err}
use Rattle.document.specs.Judge.{start_of}
use Rattle.document.specs.declared.Open.{Open}
use Rattle.document.specs.declared.ItemError.{ItemError}
use Rattle.document.proofs.Judging.{judge_start}
use Rattle.trees.specs.Engine.{Engine, out_of, num_of}
use Rattle.descent.specs.Tree.{Safe, opening, Going, Stops, closed, over, ContentEnds, ContentIs, WholeEnds, WholeTold, WholeIs}
use Rattle.descent.specs.declared.ink.Run.{Run}
use Rattle.descent.specs.declared.tree.End.{End}
use Rattle.descent.proofs.Going.{going_start, going_sound, going_whole}

abbrev outermost : Open
outermost = record { level = record { 0 = 0 }; rooted = false }

module _ (d : List ℕ) {opened : Open} {r : Run} {at : ℕ} (eo : opened ≡ record { level = record { 0 = 0 }; rooted = false })
    (er : r ≡ record { reached = record { 0 = 0 }; len = 0; count = 0 }) (ea : at ≡ start_of d) where
  pub whole_safe : length d ≤ 16777216 → Safe d (replicate 64 0) (replicate 64 0) opened.level.0 false r at
  whole_safe small =
      rw (eo, er)
      (record {
        placed =
            record {
              deep = omega arith;
              starts_long = length-replicate {A = ℕ} 64 0;
              lens_long = length-replicate {A = ℕ} 64 0;
              inside = λ i h. absurd (omega arith);
            };
        within = (judge_start d eo ea).within;
        small = small;
        order = omega arith;
        entry = λ q. absurd (false≢true q);
        far = omega arith;
        few = omega arith;
      })

  module _ (list o : List ℕ) (starts lens : List ℕ) where
    -- outside all elements no end tag may stand, so content stops at the end of the document
    ended : (at' end : ℕ) (r' : Run) (o' : List ℕ) → ContentEnds list d starts lens outermost false at true r o at' end r' o'
        → WholeEnds list d o r' o'
    ended at' end r' o' w = go w.stops
      where
        g : Going list d starts lens o 0 w.rooted false r' at' w.later o'
        g = w.goes o (going_start list d o er ea starts lens)

        go : Stops d at' end w.later (opening d starts lens 0 w.rooted) → WholeEnds list d o r' o'
        go (closed n e h) = let z : false ≡ true = cc in absurd (false≢true z)
        go (over h q) =
            let z = going_whole g refl h in
            record {
              sound = going_sound g refl h;
              long = sym g.stands.text.long ∙ ap (λ (x : Engine). length (out_of x)) z;
              counted = sym g.stands.num_is ∙ ap num_of z;
              laid = g.stands.text.laid ∙ ap (λ (x : Engine). sets o 0 (out_of x)) z;
            }

    pub whole_is : (x : Result End ItemError) (o' : List ℕ) → ContentIs list d starts lens opened false at true r o x o'
        → WholeIs list d o x o'
    whole_is x o' w =
        record { told = go x (subst (λ (y : Open). ContentIs list d starts lens y false at true r o x o') eo w) }
      where
        go : (x : Result End ItemError) → ContentIs list d starts lens outermost false at true r o x o' → WholeTold list d o x o'
        go (Ok e) w = ended e.at e.end e.run o' w
        go (Err e) w = w o (going_start list d o er ea starts lens)

pub ruleset wholes = (whole_safe, whole_is)
