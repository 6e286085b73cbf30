-- Definitions, in the order to read them: what the kinds of step share, bits, the compiled list. Then what the tables stand for on the
-- way: sizes, what is built so far, a line. The names with their places and chains, and what the tables of names stand for, are in
-- `lookup`.
pub mod Kinds
pub mod Bits
pub mod Sizes
pub mod Compiled
pub mod Built
pub mod Spread
pub mod Line
