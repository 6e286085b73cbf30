-- The bytes that a turn reads stand behind those that are there, and are what the turn consumes.
use Rattle.std.proofs.Common.{◌≡◌, ℕ, ◌+◌, ◌-◌, ◌≤◌, List, ◌++◌, length, take, sym, ap, ◌∙◌, subst, rules, length-take-le}
use Rattle.std.proofs.lemmas.List.{take-append-le}
use Rattle.std.proofs.Math.Seq.{take-append-add}
use Rattle.std.specs.Io.KnownBytes.{Consumes}
use Rattle.std.proofs.KnownBytes.{Consumes-trans}
use borrow.Rule.Slice.PartMut.{put_mid, post_of}
use Rattle.intake.proofs.read_full.Goals as goal

read_on : (a k n : ℕ) (xs ys : List ℕ) → a ≤ length xs → n ≤ length ys → take (a + n) (put_mid a k xs ys) ≡ take a xs ++ take n ys
read_on a k n xs ys within fits =
    subst
    (λ m. take (m + n) (put_mid a k xs ys) ≡ take a xs ++ take n ys)
    (length-take-le a xs within)
    (take-append-add (take a xs) (ys ++ post_of a k xs) n ∙ ap (λ l. take a xs ++ l) (take-append-le n ys (post_of a k xs) fits))

pub loop-done-preserved : goal.loop-done-preserved
loop-done-preserved g c =
    let here = c.loop-done in
    let room = length here.buf - here.done in
    let on = read_on here.done room c.in-Ok.n here.buf c.read.new.buf here.invariant.within c.in-Ok.ensures.bound.0 in
    record {
      same = search rules;
      within = search rules;
      consumed = subst (Consumes _ _) (sym on) (Consumes-trans _ _ _ _ _ here.invariant.consumed c.in-Ok.ensures.bytes.0);
    }
