-- Definitions, in the order to read them: names with their places, and chains through them;
-- what the tables of names stand for, and what a search says.
pub mod Names
pub mod Index
