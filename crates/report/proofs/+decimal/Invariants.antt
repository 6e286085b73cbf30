-- `decimal` ends: it calls itself with a tenth of the number.
use Rattle.report.proofs.+decimal.Given as goal

abbrev pub decreases-decimal : goal.decreases-decimal
decreases-decimal l = l.n
