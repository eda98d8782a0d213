pub mod Cutting
pub mod Fits
pub mod Standing
pub mod Heads
pub mod Forms
pub mod Texts
pub mod Follows
pub mod Counts
pub mod SummaryText
pub use Rattle.hwp_report_text.specs.hwp_geom as hwp_geom
pub use Rattle.hwp_report_text.specs as hwp_report_text
pub use Rattle.hwp_report_words.specs.hwp_script_words as hwp_script_words
