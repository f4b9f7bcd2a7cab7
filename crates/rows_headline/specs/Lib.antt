pub mod Again
pub mod Made
pub mod Stopped
