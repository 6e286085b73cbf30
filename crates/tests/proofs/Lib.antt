-- Laws: the path of a number, its test and what passes it;
-- path by path to those that pass; whether there is a test; one answer.
pub mod OnePath
pub mod EachPath
pub mod AnyTest
pub mod OneAnswer
