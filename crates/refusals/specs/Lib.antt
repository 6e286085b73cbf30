-- What an item at fault comes to.
pub mod Fault
