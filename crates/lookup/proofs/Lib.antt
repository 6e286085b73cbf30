-- Laws by part: lists that are filled up with zeros, names and their places, chains;
-- the ways through the code; one answer.
pub mod Padded
pub mod Places
pub mod Chains
pub mod Search
pub mod OneAnswer
