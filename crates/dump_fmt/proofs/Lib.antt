mod Places
pub mod Fronts
pub mod Sizes
mod Taken
mod Written
