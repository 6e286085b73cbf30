-- Definitions, in the order to read them: what a reader must believe are the first nine; Plainly has the productions of Document as the
-- Recommendation prints them; Character and Computes find by computing what the others say, and Judged states worked examples.
pub mod Range
pub mod Utf8
pub mod Notation
pub mod Productions
pub mod Language
pub mod Sign
pub mod Encoding
pub mod Forest
pub mod Document
pub mod Plainly
pub mod Character
pub mod Computes
pub mod Judged
