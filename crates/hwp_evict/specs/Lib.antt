pub mod Takes
pub mod Fills
pub mod Fsyncs
pub mod Evictions
pub mod Evicts
pub use Rattle.hwp_core.specs as hwp_core
pub use Rattle.hwp_core.specs.hwp_core_rule as hwp_core_rule
pub use Rattle.hwp_core.specs.hwp_geom as hwp_geom
pub use Rattle.hwp_core.specs.hwp_kill as hwp_kill
pub use Rattle.hwp_core.specs.hwp_page as hwp_page
pub use Rattle.hwp_core.specs.hwp_words as hwp_words
