-- Laws by part of the crate: bytes of a class, plain bytes, usual characters;
-- one answer.
pub mod Until
pub mod Plain
pub mod Owed
pub mod OneAnswer
