pub mod Acts
pub mod Offlines
pub mod Terms
pub mod ReportText
pub mod Sayings
pub use Rattle.hwp_guest.specs.hwp_severity.hwp_banks as hwp_banks
pub use Rattle.hwp_page.specs.hwp_geom as hwp_geom
pub use Rattle.hwp_page.specs.hwp_kill as hwp_kill
pub use Rattle.hwp_page.specs as hwp_page
pub use Rattle.hwp_guest.specs.hwp_severity as hwp_severity
pub use Rattle.hwp_guest.specs as hwp_guest
