mod Fronts
pub mod Looks
mod Slots
mod TextsPut
mod Judged
mod Turned
mod RowParts
mod PartTexts
mod PartPut
mod Counted
mod Passed
pub mod InOrder
mod Changeable
