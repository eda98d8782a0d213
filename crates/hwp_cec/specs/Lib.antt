pub mod Limits
pub mod Turned
pub mod Ages
pub mod Counting
pub mod Counters
pub use Rattle.hwp_geom.specs as hwp_geom
