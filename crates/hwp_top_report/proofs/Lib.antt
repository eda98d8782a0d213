pub mod marks
pub mod deeds
pub mod report_lines
pub mod copied
pub mod Shown
pub mod AnswerSights
pub mod policies
pub mod losses
pub mod endings
pub mod forks
pub mod Signalled
pub mod Ample
pub mod Answered
pub mod StopCauses
pub mod Caused
pub mod OfflinedLines
mod Guests
pub mod GuestFrames
pub mod Lawful
pub mod Settled
pub mod Retired
pub mod AllowedThere
pub mod Signals
pub mod loads
mod BoardEnds
mod Tables
mod RecordLaws
mod LineLaws
mod RowLines
mod ActLaws
pub mod Noted
pub mod Closable
pub mod Led
pub mod Came
pub mod RunLaws
mod LedBodies
mod CachedEnds
mod SwappedMarks
pub use Rattle.hwp_law_served.proofs as of_hwp_law_served
pub use Rattle.hwp_plain.proofs as of_hwp_plain
pub use Rattle.hwp_table_words.proofs.of_hwp_core_rule as of_hwp_core_rule
