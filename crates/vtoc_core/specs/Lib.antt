pub mod Loaded
pub mod Edit
pub mod Named
