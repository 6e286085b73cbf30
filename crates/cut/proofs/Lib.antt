-- What the program prints, in worked examples.
-- The program itself has no contract: nothing can say what is read or written.
pub mod Examples
