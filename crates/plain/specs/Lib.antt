-- Definitions that the contracts of this crate's private functions cite;
-- what its public functions answer is defined in the crate readers.
pub mod Between
