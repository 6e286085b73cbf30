-- Laws by part of the crate: numbers, sayings by their parts, the next character; what the answers mean; one answer. The functions are
-- proved by rulesets of these.
pub mod Numbers
pub mod Readings
pub mod Signs
pub mod Meaning
pub mod OneAnswer
