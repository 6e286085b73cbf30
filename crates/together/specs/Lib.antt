-- Definitions: what a client hands over to a pass of four, and what it comes to for one.
pub mod Joined
