-- Laws, in the order to read them: the engine writes the cut of a forest; a forest and its tokens; a sound document's items, tokens and
-- bytes; so the engine writes the cut of a sound document. Then the narrow cut of a wide cut.
pub mod Choices
pub mod Engine
pub mod Grown
pub mod Passes
pub mod Nested
pub mod Over
pub mod Bytes
pub mod Told
pub mod Same
