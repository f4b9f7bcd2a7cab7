pub mod Apart
pub mod Gaps
pub mod Ceilings
pub mod Fit
mod Counts
pub mod Takes
pub mod Gives
mod Order
mod Chosen
mod OneChoice
