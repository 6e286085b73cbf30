-- What is known of an element that was matched before.
pub mod Known
