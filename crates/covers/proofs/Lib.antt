-- Laws: the tests decide what the definitions say; the answer is the one that is said; what a covering path picks. Then the ways through
-- the code: a list line by line; a sending by bits; a line that stands for another; all narrow lines. One answer. Worked examples are in
-- `examples`.
pub mod Deciding
pub mod Answering
pub mod Picking
pub mod Lines
pub mod Sent
pub mod Stood
pub mod Going
pub mod OneAnswer
