mod GroundFound
mod Below
mod Numbers
mod Lasts
mod Copies
pub mod Known
pub mod May
pub mod Places
pub mod Holds
mod Allots
mod Few
pub mod PutRows
mod PutPlaces
mod PutFaults
mod NextMark
pub mod NextRows
pub mod NextCounts
pub mod NextVolume
pub mod LoadsPlan
mod LoadsVolume
pub mod LoadsRows
mod LoadsWritten
mod LoadsAfterIs
pub mod PlacedLists
pub mod PlacedRows
pub mod PlacedTracks
pub mod PlacedSpace
pub mod PlacedTakes
mod Placed
mod Highest
mod ChangeWritten
pub mod LoadsSlots
