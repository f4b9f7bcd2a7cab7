pub mod Joins
mod Rows
pub mod Forms
pub mod Scanned
pub mod Parts
pub mod Named
pub mod Renamed
pub mod OneReading
mod OneWord
