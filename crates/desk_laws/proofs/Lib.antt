pub mod Paths
pub mod Requests
pub mod Readings
pub mod Steps
