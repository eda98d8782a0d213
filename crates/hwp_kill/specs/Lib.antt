pub mod Kill
pub mod Limits
pub mod Lowest
pub mod Members
pub mod Next
pub mod Prctl
pub use Rattle.hwp_geom.specs as hwp_geom
