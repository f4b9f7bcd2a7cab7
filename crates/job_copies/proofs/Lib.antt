mod KeptNames
pub mod SetsOfRows
mod Replaced
pub mod Rows
mod Tests
pub mod Holds
mod Reasons
pub mod FreePlaces
