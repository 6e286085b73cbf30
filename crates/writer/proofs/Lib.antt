-- Laws of text laid into a buffer, and the functions that lay it.
-- And that each has one result.
pub mod Laying
pub mod Copying
pub mod OneAnswer
