-- Laws:
-- the number for each case, and one answer. Then mending.
pub mod Numbering
pub mod Plainly
pub mod OneAnswer
pub mod Batching
pub mod PackingNumbers
pub mod CoverNumbers
pub mod Mended
