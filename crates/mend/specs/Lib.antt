-- Definitions, in the order to read them: what is kept of a document; the mended document; what is answered, and what stands in the buffer
-- afterwards. Then what the code asks of an item.
pub mod Kept
pub mod Mended
pub mod Answer
pub mod Levels
