-- Laws by part of the crate: bytes and their number; operations that act byte by byte, on lists and along an expression over a word; the
-- first byte that is set; a word of a slice, and the bytes it has; masks; two words beside one another; then one answer.
pub mod Bytes
pub mod Bytewise
pub mod Each
pub mod First
pub mod Join
pub mod Part
pub mod Marks
pub mod Names
pub mod Same
pub mod OneAnswer
