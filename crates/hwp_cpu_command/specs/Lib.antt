pub mod Answers
pub mod Jobs
pub mod FileHandles
pub mod Begins
pub mod Runs
pub mod Settings
pub mod Stays
pub mod Done
pub use Rattle.hwp_cpu_row.specs.hwp_banks as hwp_banks
pub use Rattle.hwp_cpu_row.specs.hwp_claim as hwp_claim
pub use Rattle.hwp_cpu_row.specs.hwp_claim_act as hwp_claim_act
pub use Rattle.hwp_cpu_row.specs.hwp_claim_frame as hwp_claim_frame
pub use Rattle.hwp_evict.specs.hwp_core as hwp_core
pub use Rattle.hwp_cpu_control.specs.hwp_core_rule as hwp_core_rule
pub use Rattle.hwp_cpu_access.specs as hwp_cpu_access
pub use Rattle.hwp_cpu_control.specs as hwp_cpu_control
pub use Rattle.hwp_evict.specs as hwp_evict
pub use Rattle.hwp_cpu_access.specs.hwp_fault as hwp_fault
pub use Rattle.hwp_cpu_access.specs.hwp_fork as hwp_fork
pub use Rattle.hwp_cpu_control.specs.hwp_geom as hwp_geom
pub use Rattle.hwp_cpu_control.specs.hwp_kill as hwp_kill
pub use Rattle.hwp_cpu_row.specs.hwp_law as hwp_law
pub use Rattle.hwp_cpu_control.specs.hwp_page as hwp_page
pub use Rattle.hwp_cpu_row.specs.hwp_report_text as hwp_report_text
pub use Rattle.hwp_cpu_row.specs.hwp_script_words as hwp_script_words
pub use Rattle.hwp_scrub.specs as hwp_scrub
pub use Rattle.hwp_cpu_row.specs.hwp_severity as hwp_severity
pub use Rattle.hwp_soft.specs as hwp_soft
pub use Rattle.hwp_soft.specs.hwp_soft_move as hwp_soft_move
pub use Rattle.hwp_cpu_control.specs.hwp_words as hwp_words
