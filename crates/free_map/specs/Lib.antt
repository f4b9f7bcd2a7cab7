pub mod Runs
pub mod Free
pub mod Place
pub mod Change
pub mod Entries
pub mod Several
