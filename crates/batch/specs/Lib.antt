-- Definitions: the result of a batch by a list, what is answered, and what stands in the buffer afterwards; what is told of an entry; what
-- each answer says.
-- A batch and its bytes are defined in the crate bundle, the cut in the crate trees.
pub mod Answer
pub mod Told
pub mod Says
