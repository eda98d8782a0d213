pub mod Met
pub mod Copied
pub mod Judged
pub mod Indexed
pub mod Walked
pub mod Cases
