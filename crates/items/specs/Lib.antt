-- Definitions: the item at a place; that an item stands inside the document.
-- And what each answer says of the item at a place.
pub mod Item
pub mod Inside
pub mod Meaning
