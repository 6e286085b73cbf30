-- Definitions, in the order to read them: what is answered, and what stands in the buffer afterwards; what a pass over the items of a
-- document comes to.
pub mod Answer
pub mod Passed
