pub mod ActQuiet
pub mod FailLaws
pub mod FailAdds
pub mod FailLeaves
pub mod FailRank
pub mod FailTells
pub mod InjectLaws
pub mod InjectEnds
pub mod InjectRank
pub mod QueueTells
pub mod BankGrades
pub mod EventTells
pub mod CheckRoom
pub mod FailureKeeps
pub mod HandlerLaws
pub mod HandlerAdds
pub mod HandlerRank
pub use Rattle.hwp_claim_act.proofs as of_hwp_claim_act
pub use Rattle.hwp_claim_frame.proofs as of_hwp_claim_frame
pub use Rattle.hwp_claim_frame.proofs.of_hwp_core as of_hwp_core
pub use Rattle.hwp_claim_frame.proofs.of_hwp_core_rule as of_hwp_core_rule
pub use Rattle.hwp_law.proofs as of_hwp_law
