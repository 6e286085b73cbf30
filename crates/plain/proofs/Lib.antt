-- Laws by part of the crate: what stands between two texts, text;
-- then one answer.
pub mod Betweens
pub mod Texts
pub mod OneAnswer
