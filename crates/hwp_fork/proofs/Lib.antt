pub mod SubLaws
pub mod CowLaws
pub mod CopyOrder
