pub mod Status
pub mod Addresses
pub mod Events
pub mod Logged
pub mod Banks
pub use Rattle.hwp_geom.specs as hwp_geom
