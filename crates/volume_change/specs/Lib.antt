pub mod Spot
pub mod Runs
