-- Definitions that the contracts of private functions cite: the parts of a declaration.
-- What the public functions answer is defined in the crate readers.
pub mod Part
