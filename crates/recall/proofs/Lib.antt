-- Laws of what is known, and one answer.
pub mod Knowing
pub mod OneAnswer
