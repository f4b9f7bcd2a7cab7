pub mod Members
pub mod Unrelated
pub mod Formats
pub mod Threes
pub mod ChainedFives
pub mod Uses
pub mod Extents
pub mod Found
mod Gathered
mod FivesInOrder
mod SetsByName
mod Taken
