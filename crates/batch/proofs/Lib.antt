-- Laws of a batch, and of the functions that cut one; what document 02 promises of a batch, for readers, in Promised.
-- And that each function has one result.
pub mod Bounds
pub mod Entering
pub mod Walking
pub mod Answering
pub mod Alone
pub mod Saying
pub mod Promised
pub mod Examples
pub mod OneAnswer
