pub mod Acts
pub mod CowListLaws
pub mod GuestListLaws
pub mod DueLaws
pub use Rattle.hwp_claim.proofs.of_hwp_core_rule as of_hwp_core_rule
pub use Rattle.hwp_claim.proofs as of_hwp_claim
pub use Rattle.hwp_claim.proofs.of_hwp_law as of_hwp_law
