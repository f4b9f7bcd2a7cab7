pub mod LoadedRows
mod Fields
mod Fronts
mod Cuts
mod Swaps
pub mod Places
mod Puts
mod Makers
pub mod RowNames
pub mod PartPlans
