pub mod Lookups
pub mod OfCommandLaws
pub mod ScriptLaws
mod NearLaws
mod RunLaws
mod NearSteps
mod WindowLaws
mod PastLaws
mod ResultLaws
mod MarkedLaws
mod EndLaws
mod ActLaws
pub mod FoundLaws
pub mod LineLaws
pub mod LineScans
mod MarkLaws
mod ScrubScans
mod ScrubLines
mod ScrubFound
pub mod ScrubForth
pub mod ScrubBack
mod Bounds
