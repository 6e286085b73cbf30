-- Definitions, in the order to read them: when a path covers another, and when every path of a list is covered, in document 02's words;
-- a test of both; what is answered on two lists. Then what the code goes by: a line by its places, a sending by bits, one line that stands
-- for another.
pub mod Cover
pub mod Test
pub mod Answer
pub mod Line
pub mod Sending
pub mod Standing
