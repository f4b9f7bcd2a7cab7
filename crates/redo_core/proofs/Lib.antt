pub mod Crash
pub mod Transitions
mod Written
pub mod Directory
pub mod CommitMoments
pub mod Controls
pub mod Readings
mod ControlTexts
pub mod Redoing
mod Looking
mod Surveying
mod Faulting
mod Heads
pub mod Openings
pub mod Closed
mod Refusals
mod Samples
mod Formatting
mod Formatted
mod Making
mod FormatFaults
pub mod Allowed
