pub mod Holder
pub mod Table
pub mod HeldText
pub mod Lines
pub mod Faults
pub mod Laws
pub mod Index
