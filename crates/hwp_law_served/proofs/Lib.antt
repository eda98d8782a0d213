pub mod SameEntries
pub mod Histories
pub mod Homes
pub mod Legal
pub mod Placed
pub mod Reported
pub mod turns
pub mod RunEnds
pub mod RowLines
pub mod GuestRows
pub mod RowTold
pub mod Picked
pub mod Seen
pub mod CommandKeeps
pub mod Windows
pub mod PoisonMarks
pub mod RunKeeps
pub mod StepAdds
pub mod Stops
pub mod OfflineCames
pub mod LastBoard
pub mod Sums
pub mod HomePages
pub mod AccountKeeps
pub mod Acts
pub mod Handles
pub mod CheckTells
pub mod Seats
pub mod marks
pub mod lines
pub mod deeds
pub mod losses
pub mod copied
pub mod HadStates
pub mod Rows
pub use Rattle.hwp_plain.proofs.of_hwp_core_rule as of_hwp_core_rule
pub use Rattle.hwp_law.proofs as of_hwp_law
pub use Rattle.hwp_scrub.proofs as of_hwp_scrub
