pub mod LoadedUnits
pub mod SameSessions
pub mod Standing
pub mod TwoUnits
pub mod Turning
pub mod Names
