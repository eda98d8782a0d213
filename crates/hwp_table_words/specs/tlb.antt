pub mod Words
pub mod Caching
pub mod Rule
pub mod Steps
