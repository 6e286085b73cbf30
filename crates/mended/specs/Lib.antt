-- Definitions: what is kept, in the grammar's words;
-- what each answer says.
pub mod Meaning
pub mod Answers
