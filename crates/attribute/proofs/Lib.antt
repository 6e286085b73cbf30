-- Laws: the attributes of a tag, one after the other; what the answer means; one answer.
-- The functions are proved by rulesets of these.
pub mod Having
pub mod Meaning
pub mod OneAnswer
