pub mod PairsLaws
pub mod LineEnds
pub use Rattle.hwp_cec.proofs as of_hwp_cec
pub use Rattle.hwp_geom.proofs as of_hwp_geom
