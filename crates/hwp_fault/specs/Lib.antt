pub mod Touches
pub mod MapIns
pub mod Faults
pub mod Accesses
pub mod Adds
pub use Rattle.hwp_core.specs as hwp_core
pub use Rattle.hwp_core.specs.hwp_core_rule as hwp_core_rule
pub use Rattle.hwp_evict.specs as hwp_evict
pub use Rattle.hwp_page.specs.hwp_geom as hwp_geom
pub use Rattle.hwp_page.specs as hwp_page
pub use Rattle.hwp_core.specs.hwp_words as hwp_words
