-- Definitions, in the order to read them: a list by printing, and what is answered on it; these are what a reader must believe.
-- Then the readers and the answer by computing, and what stands at a place.
pub mod Path
pub mod Answer
pub mod Reader
pub mod Judge
pub mod Place
