-- Laws: an item in its place, and what is open after it; the answer on a document;
-- one answer. Worked examples are in `examples`.
pub mod Placing
pub mod After
pub mod Judging
pub mod OneAnswer
