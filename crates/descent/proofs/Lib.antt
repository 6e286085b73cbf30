-- The laws of the plain engine; last worked examples.
pub mod Places
pub mod Lines
pub mod Steps
pub mod Inking
pub mod Going
pub mod Elements
pub mod Reading
pub mod Ending
pub mod Whole
pub mod Answering
pub mod OneAnswer
pub mod Examples
