-- Laws of the classes, and one answer.
-- Those of the allowed characters are in xml/proofs/Borders.
pub mod Classes
pub mod OneAnswer
