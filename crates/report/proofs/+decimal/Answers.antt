-- `decimal` meets its contract: proofs/Decimals.antt has the laws.
use Rattle.report.proofs.Decimals.{decimals, tenth_short}
use Rattle.std.proofs.Common.{arith}
use borrow.Author.Rules.{rules}
use Rattle.report.proofs.+decimal.Goals as goal

pub returns-then-n-lt10 : goal.returns-then-n-lt10
returns-then-n-lt10 t c = search decimals

pub put-requires-2 : goal.put-requires-2
put-requires-2 t c =
    omega (arith, c.requires, c.decimal-last.ensures.long, tenth_short c.args.n (search rules))

pub returns : goal.returns
returns t c = search decimals
