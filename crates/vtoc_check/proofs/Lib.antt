pub mod Firsts
pub mod Steps
pub mod Ascending
pub mod Order
pub mod Keys
pub mod Targets
pub mod Marks
pub mod Bits
pub mod FirstFound
pub mod Overlapping
mod Stated
mod Numbers
mod ReadTracks
mod Walked
mod Gathered
mod Fronts
pub mod FrontRules
pub mod Readings
mod Spaces
mod Ends
pub mod Joined
pub mod VtocRead
pub mod ByPlace
mod Chains
mod Walks
pub mod Marking
pub mod ReadUpTo
