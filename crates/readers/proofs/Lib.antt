-- Laws, in the order to read them. What answers in places say; readers put together. What readers leave: an end of what they are given, a
-- shorter one for each of many pieces and for items; what may follow. Then each part as in specs/: items that end at a text; references and
-- values; characters with their origin; items with names, from instructions and declarations, with the encoding that these name, to tags,
-- and unique names. Last, what each answer says, and worked examples.
pub mod Answers
pub mod Combine
pub mod Left
pub mod Many
pub mod Shorter
pub mod Follow
pub mod Plain
pub mod Reference
pub mod Value
pub mod Signs
pub mod Instruction
pub mod Declaration
pub mod Encoding
pub mod Attributes
pub mod Tags
pub mod Unique
pub mod Says
pub mod ExamplesPlain
pub mod ExamplesSigns
pub mod ExamplesNamed
