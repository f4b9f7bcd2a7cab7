pub mod Bytes
mod OneMore
mod Texts
pub mod Tearing
mod Reading
mod Marking
mod Effects
mod Ordered
mod Whole
mod FileSizes
mod Left
pub mod Moments
pub mod Streams
pub mod Written
pub mod Slices
