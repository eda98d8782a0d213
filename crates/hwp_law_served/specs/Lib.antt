pub mod Turns
pub mod Ends
pub mod Shown
pub mod Scrubs
pub mod Run
pub mod Copied
pub mod Causes
pub mod Accounts
pub mod Handles
pub mod Offlinings
pub mod Told
pub mod Rows
pub mod Guests
pub mod Served
pub mod Runs
pub mod Owed
pub use Rattle.hwp_law.specs.hwp_banks as hwp_banks
pub use Rattle.hwp_cpu_row.specs.hwp_claim as hwp_claim
pub use Rattle.hwp_cpu_row.specs.hwp_claim_act as hwp_claim_act
pub use Rattle.hwp_cpu_row.specs.hwp_claim_frame as hwp_claim_frame
pub use Rattle.hwp_plain.specs.hwp_core_rule as hwp_core_rule
pub use Rattle.hwp_cpu_access.specs as hwp_cpu_access
pub use Rattle.hwp_cpu_control.specs as hwp_cpu_control
pub use Rattle.hwp_cpu_row.specs as hwp_cpu_row
pub use Rattle.hwp_cpu_access.specs.hwp_evict as hwp_evict
pub use Rattle.hwp_cpu_access.specs.hwp_fault as hwp_fault
pub use Rattle.hwp_cpu_access.specs.hwp_fork as hwp_fork
pub use Rattle.hwp_law.specs.hwp_geom as hwp_geom
pub use Rattle.hwp_law.specs.hwp_kill as hwp_kill
pub use Rattle.hwp_law.specs as hwp_law
pub use Rattle.hwp_law.specs.hwp_page as hwp_page
pub use Rattle.hwp_plain.specs as hwp_plain
pub use Rattle.hwp_law.specs.hwp_report_text as hwp_report_text
pub use Rattle.hwp_law.specs.hwp_script_words as hwp_script_words
pub use Rattle.hwp_scrub.specs as hwp_scrub
pub use Rattle.hwp_law.specs.hwp_severity as hwp_severity
pub use Rattle.hwp_soft.specs as hwp_soft
pub use Rattle.hwp_soft.specs.hwp_soft_move as hwp_soft_move
pub use Rattle.hwp_plain.specs.hwp_words as hwp_words
