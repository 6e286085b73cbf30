-- Definitions: the numbers of four clients, as callers in Rust and C get them.
pub mod Results
