-- Laws: what the code asks of the characters; end tags laid one after another; the mended document in a buffer; item by item
-- up to the first fault; the answer; one answer. Worked examples are in `mended`.
pub mod Asking
pub mod Closing
pub mod Laying
pub mod Keeping
pub mod Mending
pub mod OneAnswer
