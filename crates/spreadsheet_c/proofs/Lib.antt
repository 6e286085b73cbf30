-- That the function has one result.
pub mod OneAnswer
