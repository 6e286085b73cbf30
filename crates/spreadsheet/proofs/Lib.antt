-- The number for each case of an answer. And that a call has one result.
pub mod Numbers
