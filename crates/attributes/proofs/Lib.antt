-- Laws: values made normal, and the attributes of a tag, which are what is found; those of a tag at a place; what is among them. Last,
-- worked examples.
pub mod Held
pub mod Placed
pub mod Has
pub mod Examples
