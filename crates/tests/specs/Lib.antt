-- What the functions answer by: whether there is a test,
-- and what each path passes.
pub mod Passing
