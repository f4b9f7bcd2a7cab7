pub mod Fields
pub mod Records
pub mod Tracks
pub mod Rewritten
