-- Definitions, in the order to read them. What is meant: a value made normal; the attributes of a tag, and that one is among them. Then how
-- each is found by computing.
pub mod Normal
pub mod Attribute
pub mod Held
