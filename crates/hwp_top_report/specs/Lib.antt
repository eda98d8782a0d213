pub mod Closing
pub mod Records
pub mod Finishes
pub mod Caches
pub mod Retired
pub mod Signals
pub mod GuestFrames
pub mod Loads
pub mod CopiedWords
pub use Rattle.hwp_cpu_row.specs.hwp_banks as hwp_banks
pub use Rattle.hwp_cpu_row.specs.hwp_claim as hwp_claim
pub use Rattle.hwp_cpu_row.specs.hwp_claim_act as hwp_claim_act
pub use Rattle.hwp_cpu_row.specs.hwp_claim_frame as hwp_claim_frame
pub use Rattle.hwp_cpu_row.specs.hwp_core as hwp_core
pub use Rattle.hwp_cpu_row.specs as hwp_cpu_row
pub use Rattle.hwp_law_served.specs.hwp_law as hwp_law
pub use Rattle.hwp_law_served.specs as hwp_law_served
pub use Rattle.hwp_cpu_row.specs.hwp_report_text as hwp_report_text
pub use Rattle.hwp_cpu_row.specs.hwp_severity as hwp_severity
pub use Rattle.hwp_plain.specs as hwp_plain
pub use Rattle.hwp_table_words.specs as hwp_table_words
pub use Rattle.hwp_plain.specs.hwp_script_words as hwp_script_words
pub use Rattle.hwp_table_words.specs.hwp_core_rule as hwp_core_rule
pub use Rattle.hwp_table_words.specs.hwp_geom as hwp_geom
pub use Rattle.hwp_table_words.specs.hwp_kill as hwp_kill
pub use Rattle.hwp_table_words.specs.hwp_page as hwp_page
pub use Rattle.hwp_table_words.specs.hwp_words as hwp_words
