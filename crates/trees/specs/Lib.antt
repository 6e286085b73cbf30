-- Definitions, in the order to read them: the cut of a forest; the forest of a document; the cut of a document by a list.
-- Then the engine that makes it item by item.
pub mod Cut
pub mod Grown
pub mod Written
pub mod Engine
