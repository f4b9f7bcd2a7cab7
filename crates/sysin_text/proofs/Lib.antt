mod Samples
mod Splits
mod Cleaned
mod Fronts
mod Steps
pub mod OneMore
