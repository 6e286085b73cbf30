-- That the table which the crate rows defines is the one of specs/Table.antt, and the only one. In order: the text of an element; fields
-- and records; the table. And that a table is refused as a cut is. Worked examples are at the end.
pub mod Said
pub mod Rows
pub mod Tables
pub mod Refusals
mod Examples
