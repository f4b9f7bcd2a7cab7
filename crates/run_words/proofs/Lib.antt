pub mod Signs
pub mod Lists
pub mod Hyphens
pub mod Steps
pub mod Walks
pub mod Found
pub mod Taken
pub mod Same
mod Giving
pub mod OneRun
pub mod Ends
mod Chosen
mod Passed
mod Refused
