-- What the demands are stated with beside the definitions of the other crates: the elements of a forest, and how many of some pass a test;
-- one list within another, and lists with the same outcome; an item in its place, the first item at fault, the answer on a document; what
-- is written, by the rule; what each answer of a cut says.
pub mod Elements
pub mod Within
pub mod Repeated
pub mod Position
pub mod Reached
pub mod Judged
pub mod Rule
pub mod Answers
