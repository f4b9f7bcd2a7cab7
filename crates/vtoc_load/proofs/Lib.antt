pub mod Usable
mod SortedRows
mod Sizes
pub mod Chains
pub mod Counting
