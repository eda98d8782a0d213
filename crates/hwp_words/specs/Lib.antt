pub mod Fields
pub mod Names
pub mod Frames
pub mod Translations
pub mod Counters
pub mod Policies
pub mod Stops
