-- Definitions: the places that steps can have, from the top, and what is said of an element by them.
pub mod Places
pub mod Lines
pub mod Ink
pub mod Tree
pub mod Answer
pub mod Agree
