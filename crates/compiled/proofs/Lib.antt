-- Laws by part: names, bits and rows; the ways through the code; a list read and compiled; what a caller uses, worked examples, one
-- answer.
pub mod Alls
pub mod Firsts
pub mod Bits
pub mod NameRows
pub mod Stand
pub mod Tests
pub mod Sizes
pub mod Enter
pub mod Listed
pub mod Numbers
pub mod Spreading
pub mod Stepped
pub mod InLine
pub mod Tested
pub mod Laid
pub mod OverLines
pub mod Reading
pub mod Lookup
pub mod Examples
pub mod OneAnswer
