-- One answer.
pub mod OneAnswer
