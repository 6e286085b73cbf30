-- The laws of four clients' numbers. And that a call has one result.
pub mod Results
