pub mod Chains
pub mod Numbers
mod Serials
pub mod Words
mod Headers
mod Stopping
pub mod Fed
pub mod Delimited
pub mod Bounds
mod Ends
mod Names
mod PartFields
pub mod PartChain
mod PartStops
pub mod Shapes
pub mod Leaves
mod TrackChain
pub mod TrackRecords
pub mod TrackTop
mod Windows
mod Slots
mod Labels
pub mod Counts
pub mod Going
pub mod Stages
pub mod OnWay
pub mod StandingAt
pub mod Ordered
pub mod More
pub mod Allowed
pub mod Lifted
mod Reaches
pub mod Languages
mod LiftedHeads
pub mod Ahead
mod PartEnds
mod Beginning
mod Marking
mod ReadParts
mod ReadSlots
mod ReadEnds
pub mod ReadAll
mod OneHeader
mod Parsed
mod OneDump
mod OneFront
mod Lacking
mod Faulted
mod Passing
mod TrackPlaces
mod FieldPlaces
mod NothingWrong
mod OneWrong
