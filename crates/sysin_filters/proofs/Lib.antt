pub mod Series
pub mod Once
pub mod Shorter
pub mod Parts
pub mod Following
pub mod Begun
pub mod Filters
mod Taking
pub mod Closing
