mod Naming
mod Placed
pub mod Keeping
