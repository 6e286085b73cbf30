-- Definitions: what each answer says in the grammar's words; what a literal character of a value is made, which the contract of a private
-- function cites. What the public one cites is in the crate `attributes`.
pub mod Meaning
pub mod Plain
