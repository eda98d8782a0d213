pub mod FieldLaws
pub mod FrameSteps
pub mod Packed
pub mod OtherSteps
