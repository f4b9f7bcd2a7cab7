pub mod Found
pub mod Sets
pub mod Fives
