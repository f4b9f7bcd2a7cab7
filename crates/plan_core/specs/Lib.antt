pub mod Extents
pub mod Release
pub mod Consolidate
