pub mod Fits
pub mod Verbs
pub mod Words
