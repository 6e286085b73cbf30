-- Definitions, in the order to read them: a field and a record; the text directly in an element; the table of a document by a list. Then
-- the table and a text token by token, as the code goes through a document, and what the functions here lay into a buffer.
pub mod Field
pub mod Text
pub mod Table
pub mod Tokens
pub mod Laid
