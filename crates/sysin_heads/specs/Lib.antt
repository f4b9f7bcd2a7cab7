pub mod Head
pub mod Reading
pub mod Laws
