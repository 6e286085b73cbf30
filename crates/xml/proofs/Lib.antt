-- What follows from the definitions: UTF-8 by the table and by its rule, characters and runs of them, [2] by its borders, the notation's
-- ordinary meaning, what a declaration says of the encoding, the document's productions as they are printed, the notation computed, and
-- worked examples of every production.
pub mod Bools
pub mod Same
pub mod Utf8
pub mod Character
pub mod Run
pub mod Borders
pub mod Language
pub mod Encoding
pub mod Plainly
pub mod Examples
pub mod Computes
