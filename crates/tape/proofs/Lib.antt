-- The laws of a tape's entries, and of how many there are. And that a call has one result.
pub mod Entries
pub mod Counting
pub mod OneAnswer
