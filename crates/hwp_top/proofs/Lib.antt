mod RunReportLevel
mod RunThreadLevel
pub mod RunStatuses
pub mod RunCompletes
pub mod Crews
pub mod Played
pub mod Whole
mod Tabled
pub mod ProcessorServes
pub mod ThreadsEnded
pub mod ListChoice
pub mod Ran
pub mod Crewed
pub mod Closed
pub mod Laws
pub mod ProcessorSends
pub mod ReportLevel
mod RunLevel
pub mod Statuses
mod TraceStatuses
mod WatchedRun
pub mod Completes
pub use Rattle.hwp_top_report.proofs.of_hwp_core_rule as of_hwp_core_rule
pub use Rattle.hwp_cpu.proofs as of_hwp_cpu
pub use Rattle.hwp_top_report.proofs.of_hwp_law_served as of_hwp_law_served
pub use Rattle.hwp_top_report.proofs.of_hwp_plain as of_hwp_plain
pub use Rattle.hwp_top_words.proofs.of_hwp_script_read as of_hwp_script_read
pub use Rattle.hwp_top_report.proofs as of_hwp_top_report
pub use Rattle.hwp_top_words.proofs as of_hwp_top_words
