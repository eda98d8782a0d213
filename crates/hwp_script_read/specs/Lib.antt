pub mod Context
pub mod Collects
pub mod Reasons
pub mod Sums
pub mod Refusals
pub mod Reads
pub use Rattle.hwp_script_lines.specs.hwp_geom as hwp_geom
pub use Rattle.hwp_script_lines.specs as hwp_script_lines
pub use Rattle.hwp_script_lines.specs.hwp_script_words as hwp_script_words
