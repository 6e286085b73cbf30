-- `four_with` meets its contract:
-- of a log of any length a part is used that is not too long.
use Rattle.cutter.proofs.Cutting.{used_short}
use Rattle.four.proofs.four_with.Goals as goal

pub listed-requires : goal.listed-requires
listed-requires c = (
  used_short _ _ c.used-n1.ensures,
  used_short _ _ c.used-n2.ensures,
  used_short _ _ c.used-n3.ensures,
  used_short _ _ c.used-n4.ensures,
)
