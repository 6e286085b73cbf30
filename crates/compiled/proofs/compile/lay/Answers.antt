-- `lay` meets its contract: the part is copied to its place.
use Rattle.compiled.proofs.Laid.{lay_whole}
use Rattle.compiled.proofs.compile.lay.Goals as goal

pub returns : goal.returns
returns c = lay_whole c.args.t.now c.args.from c.args.part.now c.requires c.copy_from_slice.ensures.after
