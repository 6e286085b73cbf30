-- What document 02 promises of mending. In order: "the result is always accepted by the filter": what is left by the names that are open,
-- items read again, the document that they make; "A sound document comes back unchanged"; what is kept, in document 02's words, and that
-- nothing else is; the promises, of calls; how long a mended document is; examples.
pub mod Reaching
pub mod Left
pub mod Held
pub mod Regrown
pub mod Accepted
pub mod Unchanged
pub mod Told
pub mod Only
pub mod Answered
pub mod Sizes
pub mod Examples
