pub mod Deeds
pub mod Made
pub mod Needed
pub mod Beside
