-- Definitions: the numbers of rows, as callers in Rust and C get them.
pub mod Numbers
