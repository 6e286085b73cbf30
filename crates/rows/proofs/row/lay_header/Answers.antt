-- `lay_header` meets its contract: one text, laid from the front on.
-- It is the header by computing.
use borrow.Author.Rules.{rules}
use Rattle.rows.specs.Field.{header}
use Rattle.rows.proofs.row.lay_header.Goals as goal

pub returns : goal.returns
unfolding header
returns c = search rules
