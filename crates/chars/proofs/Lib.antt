-- Laws by part of the crate: texts, runs of characters, white space, words, names, the check;
-- what the answers say, one answer, examples.
pub mod Texts
pub mod Runs
pub mod Spaces
pub mod Words
pub mod Names
pub mod Checks
pub mod Meaning
pub mod OneAnswer
pub mod Examples
