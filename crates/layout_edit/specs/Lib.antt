pub mod Change
pub mod Space
