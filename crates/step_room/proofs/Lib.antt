pub mod SoundRows
mod Changing
mod Left
mod Counts
mod Rooms
mod Alike
pub mod Repairs
mod RunCounts
mod Stated
