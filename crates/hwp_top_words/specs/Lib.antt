pub mod Calls
pub mod Statuses
pub mod Inputs
pub mod Checked
pub mod Reported
pub use Rattle.hwp_io.specs as hwp_io
pub use Rattle.hwp_report.specs as hwp_report
pub use Rattle.hwp_script.specs as hwp_script
pub use Rattle.hwp_script.specs.hwp_script_read as hwp_script_read
pub use Rattle.hwp_table_words.specs as hwp_table_words
