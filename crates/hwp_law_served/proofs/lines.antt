pub mod LowWords
pub mod Spoils
pub mod SightedLines
pub mod ScrubBank
pub mod OfRows
pub mod ToldRight
pub mod FrameRecords
pub mod Offlines
