pub mod Acts
pub mod CowLists
pub mod GuestLists
pub mod Locals
pub mod Dues
pub use Rattle.hwp_claim.specs.hwp_banks as hwp_banks
pub use Rattle.hwp_claim.specs.hwp_law.hwp_cec as hwp_cec
pub use Rattle.hwp_claim.specs as hwp_claim
pub use Rattle.hwp_claim.specs.hwp_claim_act as hwp_claim_act
pub use Rattle.hwp_claim.specs.hwp_claim_frame as hwp_claim_frame
pub use Rattle.hwp_claim.specs.hwp_core as hwp_core
pub use Rattle.hwp_claim.specs.hwp_core_rule as hwp_core_rule
pub use Rattle.hwp_claim.specs.hwp_geom as hwp_geom
pub use Rattle.hwp_claim.specs.hwp_law as hwp_law
pub use Rattle.hwp_claim.specs.hwp_page as hwp_page
pub use Rattle.hwp_claim.specs.hwp_report_text as hwp_report_text
pub use Rattle.hwp_claim.specs.hwp_script_words as hwp_script_words
pub use Rattle.hwp_claim.specs.hwp_severity as hwp_severity
