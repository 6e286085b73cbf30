-- Definitions:
-- a number in decimal, and all that the program `cut` prints.
pub mod Decimal
pub mod Printed
