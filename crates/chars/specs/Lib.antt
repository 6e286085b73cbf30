-- Definitions by part of the crate: the check, white space, names;
-- and what their answers say.
pub mod Check
pub mod Space
pub mod Name
pub mod Meaning
