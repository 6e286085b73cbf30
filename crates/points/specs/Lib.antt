-- Definitions:
-- the classes of name characters. The characters that XML allows are [2] of xml/specs/Productions.
pub mod Class
