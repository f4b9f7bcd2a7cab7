pub mod Flow
pub mod Script
