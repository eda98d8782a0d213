pub mod Histories
mod SetUnion
mod KillSignals
pub use Rattle.hwp_kill.proofs.of_hwp_geom as of_hwp_geom
pub use Rattle.hwp_kill.proofs as of_hwp_kill
