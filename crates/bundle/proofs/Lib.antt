-- Laws of the documents in a batch, and of the functions that read it; what the layout's answers say; worked examples.
-- And that each function has one result.
pub mod Entries
pub mod Judging
pub mod Layouts
pub mod Examples
pub mod OneAnswer
