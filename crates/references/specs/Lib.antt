-- Definitions, in the order to read them: what each answer says in the grammar's words; answers in places, of references and of the next
-- character, by what the crate readers finds; digits of a number, which the contracts of private functions cite.
pub mod Meaning
pub mod Say
pub mod Sign
pub mod Digit
