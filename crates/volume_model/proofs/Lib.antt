pub mod Blocks
pub mod DscbRecords
pub mod Fields
pub mod Formats
pub mod Filters
mod Samples
pub mod Numbers
pub mod OneText
pub mod Addresses
pub mod OneVtoc
pub mod OneCheck
pub mod NameOrder
pub mod Units
pub mod OneLabelled
