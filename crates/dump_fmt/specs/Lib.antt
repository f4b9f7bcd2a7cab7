pub mod Head
pub mod Pieces
pub mod Parts
pub mod Front
pub mod Text
pub mod Outs
pub mod Counting
pub mod Writing
