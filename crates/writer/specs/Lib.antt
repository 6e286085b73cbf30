-- Definition: text laid into a buffer as far as it reaches.
-- Its laws are in proofs/Laying.antt.
pub mod Wrote
