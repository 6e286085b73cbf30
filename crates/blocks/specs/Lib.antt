-- Definitions:
-- bytes passed in blocks; usual characters, by their bytes.
pub mod Block
pub mod Usual
