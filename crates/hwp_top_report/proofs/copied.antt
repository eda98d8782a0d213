pub mod CopyEvents
pub mod CopyShown
pub mod CopyGoing
pub mod CopyCaused
pub mod LossesActed
pub mod Apart
pub mod CopyWords
