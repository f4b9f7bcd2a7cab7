pub mod Dscb
pub mod Field
pub mod Format1
