pub mod Sights
pub mod Histories
pub mod Lost
pub mod Told
pub mod Frames
pub mod Stopping
pub mod Handles
