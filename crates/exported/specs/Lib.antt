-- Definitions:
-- the numbers that callers in Rust and C get, and those of the plain engine, of a batch, of a packed list, of two lists and of
-- mending.
pub mod Numbers
pub mod Plain
pub mod Batch
pub mod Packing
pub mod Covers
pub mod Mending
