pub mod Law
pub use Rattle.hwp_table_words.specs.hwp_core_rule as hwp_core_rule
pub use Rattle.hwp_table_words.specs.hwp_geom as hwp_geom
pub use Rattle.hwp_table.specs as hwp_table
pub use Rattle.hwp_table_words.specs as hwp_table_words
