-- Laws by part of the crate: the ways through the functions; what an end tag that is told says of the item there; what a start tag says of
-- its name. Then one answer.
pub mod Ending
pub mod Told
pub mod Opened
pub mod OneAnswer
