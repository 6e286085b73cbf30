-- Definitions: a batch and its bytes, and what is answered on its layout.
-- What the answers say stands in Layout.
pub mod Batch
pub mod Layout
