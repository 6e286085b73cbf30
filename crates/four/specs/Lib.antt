-- Definitions: what a client hands over, and what it gets back; and its part in a call, which only functions inside the crate cite.
pub mod Seats
pub mod Parts
