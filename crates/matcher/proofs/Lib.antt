-- Laws by part: what the kinds of step share; places, laid step by step, and a test of them; numbers by their lowest bit; the matcher's
-- bits, for one path and for all; what the verdict means; the name tests. Then the ways through the code, one answer. Worked examples are
-- in `examples`.
pub mod Moving
pub mod Laying
pub mod Places
pub mod Digits
pub mod Telling
pub mod Hits
pub mod AllPaths
pub mod Verdicts
pub mod Meaning
pub mod Tests
pub mod Fill
pub mod Serving
pub mod Sums
pub mod Carrying
pub mod Alike
pub mod Selecting
pub mod Picking
pub mod OneAnswer
