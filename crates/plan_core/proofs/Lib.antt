mod UsedTracks
pub mod Sums
pub mod Cylinders
pub mod Options
mod KeptTracks
