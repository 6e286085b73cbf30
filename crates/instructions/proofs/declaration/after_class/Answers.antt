-- Where a run of a class ends: `position` tells the first byte that does not go on.
use mathlib.Core.Path.{◌≡◌, ◌∙◌}
use mathlib.Core.Bool.{true, false}
use native.Mathlib.Omega.{arith}
use borrow.Author.Rules.{rules}
use borrow.Author.Tests.{tests}
use lib.ListN.{length, drop, length-drop}
use lib.Seq.{take_all}
use Rattle.std.proofs.lemmas.Iterator.{IsFirst-from_position, YieldsList-from_slice}
use Rattle.std.proofs.option.Match.{if_some, if_none}
use Rattle.instructions.specs.Part.{class_of}
use Rattle.instructions.proofs.Declarations.{class_stop, class_over}
use Rattle.instructions.proofs.declaration.after_class.Goals as goal

pub returns-in-Some : goal.returns-in-Some
returns-in-Some c =
    let p = c.args.part in
    let d = c.args.doc.now in
    let rest = c.iter.ensures.rest ∙ take_all _ (drop c.args.at d) (omega (arith, length-drop c.args.at d)) in
    let first =
    if_some _ _ _ c.in-Some.is
    (IsFirst-from_position _ _ _ (λ b. class_of p b ≡ false) (λ b. class_of p b ≡ true) c.position.ensures.ran
    (YieldsList-from_slice _ rest) (λ x q k. search (rules, tests)) (λ x q k. search (rules, tests)))
    in
    class_stop c.requires p first.0 (first.1 0) first.2

pub returns-in-None : goal.returns-in-None
returns-in-None c =
    let p = c.args.part in
    let d = c.args.doc.now in
    let rest = c.iter.ensures.rest ∙ take_all _ (drop c.args.at d) (omega (arith, length-drop c.args.at d)) in
    class_over c.requires p
    (if_none _ _ c.in-None.is
    (IsFirst-from_position _ _ _ (λ b. class_of p b ≡ false) (λ b. class_of p b ≡ true) c.position.ensures.ran
    (YieldsList-from_slice _ rest) (λ x q k. search (rules, tests)) (λ x q k. search (rules, tests))))
