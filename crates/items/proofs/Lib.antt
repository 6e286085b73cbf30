-- Laws: the item at a place, by its first bytes; that it stands inside the document; one answer; what the answers say.
-- Worked examples are in `examples`.
pub mod Telling
pub mod Insides
pub mod OneAnswer
pub mod Meaning
