-- Definitions: what notes stand for, and what making one does to the log; and that two results are alike, of functions that hand notes
-- over. The laws of notes are in proofs/Making.antt.
pub mod Notes
pub mod Alike
