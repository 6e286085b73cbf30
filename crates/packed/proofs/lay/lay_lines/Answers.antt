-- `lay_lines` meets its contract. The invariant is `Listed`: the lines before a place are laid, and nothing but sound lines is left.
-- The measure is what is left of the list.
use Rattle.packed.proofs.Laying.{listing}
use Rattle.packed.proofs.lay.lay_lines.Goals as goal

pub loop-at-init : goal.loop-at-init
loop-at-init c = search listing

pub loop-at-smaller : goal.loop-at-smaller
loop-at-smaller c = search listing

pub loop-at-preserved : goal.loop-at-preserved
loop-at-preserved c = search listing

pub returns : goal.returns
returns c = search listing
