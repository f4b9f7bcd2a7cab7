pub mod Filter
pub mod Progress
pub mod Laws
