-- Definitions: the entries of a tape, and the items of a document that they have.
-- The laws of entries are in proofs/Entries.antt.
pub mod Tape
pub mod Taped
