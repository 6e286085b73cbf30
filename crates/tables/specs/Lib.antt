-- What a table is, as relations: the text directly in an element, by the productions that derive what stands in it; then fields, records
-- and the table of a document by a list; and what is refused. proofs/ has the theorems.
pub mod Said
pub mod Table
pub mod Refused
