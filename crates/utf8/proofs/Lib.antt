-- Laws by file: places; the ways through the code; the test by the rows;
-- what an answer says; examples; one answer.
pub mod Place
pub mod Rows
pub mod Formed
pub mod Meaning
pub mod Examples
pub mod OneAnswer
