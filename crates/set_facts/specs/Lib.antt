pub mod Facts
pub mod Selection
