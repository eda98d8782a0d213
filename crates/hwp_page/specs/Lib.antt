pub mod Situations
pub mod Actions
pub mod Step
pub mod History
pub mod Refusals
pub mod Orders
pub mod Endings
pub mod Losses
pub use Rattle.hwp_kill.specs.hwp_geom as hwp_geom
pub use Rattle.hwp_kill.specs as hwp_kill
