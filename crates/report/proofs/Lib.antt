-- Laws of numbers in decimal, and of what is told.
-- And that `told` has one result.
pub mod Decimals
pub mod Telling
pub mod OneAnswer
