-- Worked examples, each table under one statement:
-- answers on lists and their paths, by `paths`; verdicts on elements, by `matcher`; items at places, by `items`; answers on documents, by
-- `document`; packed forms of lists, by `packed`; answers on two lists, by `covers`; what four clients get, by `four`.
pub mod Lists
pub mod Elements
pub mod Items
pub mod Documents
pub mod Packed
pub mod Covering
pub mod Clients
