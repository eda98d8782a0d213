pub mod Telling
pub mod Plain
pub mod Asking
pub mod Causing
pub mod Befores
pub mod Knowing
pub mod Cases
