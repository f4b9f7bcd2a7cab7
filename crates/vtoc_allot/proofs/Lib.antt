pub mod Pools
pub mod Parts
