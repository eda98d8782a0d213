mod Numbered
mod Parts
pub use Rattle.hwp_page.proofs.of_hwp_geom as of_hwp_geom
pub use Rattle.hwp_page.proofs as of_hwp_page
