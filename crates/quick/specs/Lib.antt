-- Definitions:
-- an end tag that is told by its bytes.
pub mod End
