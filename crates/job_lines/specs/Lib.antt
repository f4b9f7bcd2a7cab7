pub mod Names
pub mod Severity
pub mod Lines
pub mod Order
