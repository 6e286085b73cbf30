-- Laws: of reading, item by item. And that it has one result.
pub mod Reels
pub mod OneAnswer
