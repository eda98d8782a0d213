pub mod AnswersByRow
pub mod ActedLosses
pub mod Lawful
pub mod OfflinedFaults
pub mod InText
pub mod PastLaws
pub mod SettingLaws
pub mod StandingLaws
mod CowSteps
mod PairLaws
mod AnswerLaws
mod ActedLists
pub mod DeclaredLaws
pub use Rattle.hwp_check_event_line.proofs as of_hwp_check_event_line
pub use Rattle.hwp_law.proofs as of_hwp_law
pub use Rattle.hwp_law.proofs.of_hwp_page as of_hwp_page
