pub mod LoadedVtoc
pub mod Chained
pub mod Counted
