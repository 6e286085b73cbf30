-- Laws by part of the crate: the pieces of a value; one answer.
-- The functions are proved by rulesets of these.
pub mod Pieces
pub mod OneAnswer
