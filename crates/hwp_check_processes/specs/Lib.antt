pub mod Admission
pub mod Telling
pub mod Busy
pub mod Judging
pub mod Words
pub mod Loads
