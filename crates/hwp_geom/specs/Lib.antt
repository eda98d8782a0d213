pub mod Limits
pub mod Bits
pub mod Words
pub mod Layout
pub mod Pairs
