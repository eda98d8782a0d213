pub mod tlb
pub mod Order
pub mod Operations
pub mod Known
pub mod Stands
pub mod Rules
pub mod Carrying
pub mod Plays
pub mod CacheCounts
pub mod Seats
pub mod CachePlays
pub mod Caches
pub mod Ends
pub use Rattle.hwp_core_rule.specs as hwp_core_rule
pub use Rattle.hwp_core_rule.specs.hwp_geom as hwp_geom
pub use Rattle.hwp_core_rule.specs.hwp_kill as hwp_kill
pub use Rattle.hwp_core_rule.specs.hwp_page as hwp_page
pub use Rattle.hwp_plain.specs as hwp_plain
pub use Rattle.hwp_core_rule.specs.hwp_words as hwp_words
