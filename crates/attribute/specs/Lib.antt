-- What each answer says in the grammar's words.
-- What the contract cites is in the crate `attributes`.
pub mod Meaning
