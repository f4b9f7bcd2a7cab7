pub mod Outputs
pub mod Kept
