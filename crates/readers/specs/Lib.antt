-- Definitions, in the order to read them: how readers are put together; items that end at a text; references and values; the next
-- character with its origin; items with names; what each says in the grammar's words; what an answer in places says of a reader; and what
-- it says in the grammar's words.
pub mod Read
pub mod Plain
pub mod Value
pub mod Sign
pub mod Named
pub mod Meaning
pub mod Answer
pub mod Says
