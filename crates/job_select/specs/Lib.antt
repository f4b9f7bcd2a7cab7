pub mod Selection
pub mod Whole
