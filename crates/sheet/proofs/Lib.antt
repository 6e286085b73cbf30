-- The table of a document: the elements selected, token by token; what is left of a pass; the verdict on an element; the pass,
-- its invariant and each way on and out; the answer. That there is one result, and examples.
pub mod Counts
pub mod Rests
pub mod Verdicts
pub mod Walking
pub mod Answering
pub mod OneAnswer
pub mod Examples
