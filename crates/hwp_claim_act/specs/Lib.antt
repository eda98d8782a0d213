pub mod Abandoned
pub mod Abandons
pub mod Acting
pub mod Acts
pub mod Failing
pub mod Reads
