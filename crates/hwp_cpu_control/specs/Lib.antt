pub mod ReadStops
pub mod Nesteds
pub mod Prctls
pub mod Forks
pub mod Denieds
pub mod Spoils
pub use Rattle.hwp_core_rule.specs as hwp_core_rule
pub use Rattle.hwp_core_rule.specs.hwp_geom as hwp_geom
pub use Rattle.hwp_core_rule.specs.hwp_kill as hwp_kill
pub use Rattle.hwp_core_rule.specs.hwp_page as hwp_page
pub use Rattle.hwp_core_rule.specs.hwp_words as hwp_words
