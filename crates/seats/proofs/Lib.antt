-- Laws: of the states by level, made again from the names by level; of tags that come back from a tape; of where a client stands between
-- two tapes; and of its way through one. And that this has one result.
pub mod Restanding
pub mod Images
pub mod Seating
pub mod Going
pub mod OneAnswer
