-- Definitions: what is known after some items are read, and why reading stopped.
pub mod Reeling
