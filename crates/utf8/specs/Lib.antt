-- Definitions:
-- places and what is left, the sequence at a place with the rows as the code keeps them, and what an answer says.
pub mod Place
pub mod Sequence
pub mod Meaning
