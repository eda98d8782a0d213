pub mod Order
pub mod Rank
pub mod Ready
pub mod Openings
pub mod Ends
pub mod Slots
pub mod Trails
pub mod Boards
pub mod TraceText
pub mod Notes
pub mod Traced
pub use Rattle.hwp_core_rule.specs as hwp_core_rule
pub use Rattle.hwp_core_rule.specs.hwp_geom as hwp_geom
pub use Rattle.hwp_core_rule.specs.hwp_page as hwp_page
pub use Rattle.hwp_script_words.specs as hwp_script_words
pub use Rattle.hwp_core_rule.specs.hwp_words as hwp_words
