-- Definitions, in the order to read them: the packed form of a list by printing; which input is one, and the text it is spelled as; what is
-- answered, and what stands in the buffer afterwards. The first is what a reader must believe. Last what a line's parts are laid as.
pub mod Packed
pub mod Spelled
pub mod Answer
pub mod Laid
