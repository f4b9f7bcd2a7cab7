mod Ascending
mod Recs
pub mod Texts
pub mod Tracks
