-- Definitions: tags in places; then what the contracts of private functions cite, the attributes' names that are kept, by their places,
-- and what is told of a tag that stands as tags mostly do.
pub mod Tag
pub mod Kept
pub mod Usual
