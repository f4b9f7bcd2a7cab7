pub mod Names
pub mod Spots
mod Tracks
