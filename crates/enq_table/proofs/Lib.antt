pub mod Marks
mod Feeds
pub mod Holders
pub mod LineText
pub mod Indexing
pub mod Taking
