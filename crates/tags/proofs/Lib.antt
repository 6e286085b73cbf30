-- Laws: a name and what follows it, and end tags; names kept by their places; a tag's attributes; start tags and empty tags, and those that
-- stand as they mostly do; one answer.
-- The functions are proved by rulesets of these.
pub mod Named
pub mod Kept
pub mod Gathers
pub mod Tagging
pub mod Usuals
pub mod OneAnswer
