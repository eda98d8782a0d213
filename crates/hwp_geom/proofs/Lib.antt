pub mod Cuts
mod BitLaws
pub mod WordLaws
pub mod WordsPut
