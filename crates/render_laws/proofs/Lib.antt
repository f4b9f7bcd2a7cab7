pub mod Indicators
pub mod Before
pub mod LayoutAfter
pub mod SpaceAfter
pub mod VolumeAfter
pub mod MarkedLayout
pub mod MarkedVolume
