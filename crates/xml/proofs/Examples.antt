-- Worked examples of the productions of specs/Productions.antt and of specs/Encoding.antt: for each, texts that it derives and texts that
-- it does not, by the Recommendation. A constraint that is not the production's, as attribute names that differ, is not judged here.
pub mod Characters
pub mod References
pub mod Markup
pub mod Declaration
pub mod Encoding
pub mod Tags
