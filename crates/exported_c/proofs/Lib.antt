-- That each function has one result.
pub mod OneAnswer
