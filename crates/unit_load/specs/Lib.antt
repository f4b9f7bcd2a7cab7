pub mod Hand
pub mod Reads
pub mod Kept
pub mod State
pub mod Stops
