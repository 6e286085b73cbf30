-- Two results that the contract of `lay_record` or `lay_header` allows are equal, the place after the text and the buffer with it, over the
-- contracts that the toolchain makes of the source.
use Rattle.contracts.specs.One.{OneOutcome}
use Rattle.writer.proofs.OneAnswer.{wrote_one}
use Rattle.rows.proofs.row.lay_record.Reads as lay_record
use Rattle.rows.proofs.row.lay_header.Reads as lay_header

-- `lay_record`
pub lay_record_one : OneOutcome lay_record.Asked lay_record.Learnt (λ κs e. e.1.1.1.1.1.1.1.0.now)
lay_record_one κs a z z' e e' x p q = wrote_one p.0 q.0

-- `lay_header`
pub lay_header_one : OneOutcome lay_header.Asked lay_header.Learnt (λ κs e. e.0.now)
lay_header_one κs a z z' e e' x = wrote_one
