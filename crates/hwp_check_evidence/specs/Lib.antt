pub mod Ample
pub mod Counts
pub mod Ends
pub mod Findings
pub mod Firsts
pub mod Glances
pub mod Marked
pub mod Named
pub mod Repeats
pub mod Windows
pub use Rattle.hwp_law.specs.hwp_banks as hwp_banks
pub use Rattle.hwp_law.specs.hwp_geom as hwp_geom
pub use Rattle.hwp_law.specs.hwp_kill as hwp_kill
pub use Rattle.hwp_law.specs as hwp_law
pub use Rattle.hwp_law.specs.hwp_page as hwp_page
pub use Rattle.hwp_law.specs.hwp_report_text as hwp_report_text
pub use Rattle.hwp_law.specs.hwp_script_words as hwp_script_words
