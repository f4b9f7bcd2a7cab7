pub mod Lists
pub mod Holding
pub mod Places
pub mod Says
pub mod Written
pub mod Changes
