pub mod Own
pub mod Parts
pub mod Workers
pub mod Dealing
pub mod Gathering
pub use Rattle.hwp_core_rule.specs as hwp_core_rule
pub use Rattle.hwp_core_rule.specs.hwp_geom as hwp_geom
pub use Rattle.hwp_core_rule.specs.hwp_page as hwp_page
pub use Rattle.hwp_table_words.specs as hwp_table_words
