pub mod Lines
pub mod Cleaning
pub mod Signs
pub mod Tokens
pub mod Left
pub mod Reader
