-- Definitions: an item in its place; then the answer on a document.
pub mod Place
pub mod Levels
pub mod Judge
