-- Laws by part of the crate: what a value held against a text is made of, and the loop that does it; what the answer means; one answer.
-- The functions are proved by rulesets of these.
pub mod Compare
pub mod Comparing
pub mod Meaning
pub mod OneAnswer
