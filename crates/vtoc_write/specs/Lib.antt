pub mod Edited
pub mod Laws
pub mod Written
