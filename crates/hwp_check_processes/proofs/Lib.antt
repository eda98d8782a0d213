pub mod AdmissionLaws
pub mod TellingLaws
mod Folds
pub mod BusyLaws
pub mod JudgeLaws
pub mod RuleLaws
mod WordLaws
mod LoadLaws
mod PrivateLaws
