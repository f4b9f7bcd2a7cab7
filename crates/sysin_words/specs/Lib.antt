pub mod Lead
pub mod Keyword
pub mod Code
pub mod Number
