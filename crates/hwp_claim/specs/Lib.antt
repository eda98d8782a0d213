pub mod Done
pub mod Fails
pub mod Injects
pub mod Queue
pub mod Events
pub mod Told
pub mod Lines
pub mod Handlers
pub mod Fits
pub mod CheckDone
pub mod Checks
pub use Rattle.hwp_banks.specs as hwp_banks
pub use Rattle.hwp_claim_act.specs as hwp_claim_act
pub use Rattle.hwp_claim_frame.specs as hwp_claim_frame
pub use Rattle.hwp_claim_frame.specs.hwp_core as hwp_core
pub use Rattle.hwp_claim_frame.specs.hwp_core_rule as hwp_core_rule
pub use Rattle.hwp_banks.specs.hwp_geom as hwp_geom
pub use Rattle.hwp_law.specs.hwp_guest as hwp_guest
pub use Rattle.hwp_law.specs as hwp_law
pub use Rattle.hwp_claim_frame.specs.hwp_page as hwp_page
pub use Rattle.hwp_law.specs.hwp_report_text as hwp_report_text
pub use Rattle.hwp_law.specs.hwp_script_words as hwp_script_words
pub use Rattle.hwp_law.specs.hwp_severity as hwp_severity
pub use Rattle.hwp_claim_frame.specs.hwp_words as hwp_words
