-- Laws: printing and reading undo each other, from kinds to lists, with the places of names and tests between; the answer is the one that
-- is said; places of line ends; the walk over a list; one answer. Worked examples are in `examples`.
pub mod Print
pub mod Names
pub mod Colons
pub mod Steps
pub mod Places
pub mod Attributes
pub mod Lines
pub mod Meaning
pub mod Ends
pub mod Here
pub mod Front
pub mod Walk
pub mod OneAnswer
