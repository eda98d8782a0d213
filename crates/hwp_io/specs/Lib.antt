pub mod Causes
pub mod Counts
pub mod Calls
pub mod Standard
