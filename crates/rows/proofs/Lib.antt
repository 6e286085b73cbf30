-- Laws, in the order to read them: text laid into a field, part by part; line ends; a character; what an item says; the text of an element
-- token by token, and the table of a forest; names are plain; one answer. Worked examples are at the end.
pub mod Laying
pub mod Saying
pub mod Tokens
pub mod Gathering
pub mod Rowing
pub mod Plain
pub mod OneAnswer
mod Examples
