pub mod StepWords
pub mod TakeLaws
pub mod TakeCosts
pub mod FillEntry
pub mod FillLaws
pub mod FillCosts
pub mod FsyncLaws
pub mod EvictStates
pub mod EntryHome
pub mod AnswerCauses
pub mod EvictBegins
pub mod EntryFits
pub mod SlotFreed
pub mod SwapOut
pub mod EvictSteps
pub mod EvictLaws
pub mod EvictCosts
pub use Rattle.hwp_core.proofs as of_hwp_core
pub use Rattle.hwp_core.proofs.of_hwp_core_rule as of_hwp_core_rule
pub use Rattle.hwp_core.proofs.of_hwp_kill as of_hwp_kill
