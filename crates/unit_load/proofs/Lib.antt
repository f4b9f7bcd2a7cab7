mod Stopping
pub mod Reading
pub mod Slotted
mod Refusals
pub mod Runs
mod States
pub mod Keeping
