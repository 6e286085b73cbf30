-- Definitions: the states by level; what items make; where a client stands between two tapes; and what its way through one comes to.
pub mod Standing
pub mod Made
pub mod Seated
pub mod Went
