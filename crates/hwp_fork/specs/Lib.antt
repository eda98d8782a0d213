pub mod Subs
pub mod Cows
pub use Rattle.hwp_geom.specs as hwp_geom
