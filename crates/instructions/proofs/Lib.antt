-- Laws: what the functions below answer; what readers step over; [16] PI; [23] XMLDecl; one answer.
-- The functions are proved by rulesets of these.
pub mod Callees
pub mod Over
pub mod Instructions
pub mod Declarations
pub mod OneAnswer
