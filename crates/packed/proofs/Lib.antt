-- Laws of the packed list, in order: a packed form spelled as text; how long a packed form can be; a sound list laid in the packed form;
-- the packed form and its text undo each other (`text_packed_text`, `packed_text_packed`); the answers and the buffers; one answer.
pub mod Spelling
pub mod Bound
pub mod Laying
pub mod Meaning
pub mod Answering
pub mod OneAnswer
