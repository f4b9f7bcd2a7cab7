mod Fronts
pub mod Within
mod Passing
pub mod Ended
mod Surveyed
