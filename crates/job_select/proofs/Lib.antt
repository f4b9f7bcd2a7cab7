pub mod OneName
mod HasNames
pub mod Wholes
mod KeptFields
pub mod Counts
pub mod RowNames
mod Picks
