mod AfterAccess
pub mod WithoutCollector
pub mod CheckLaws
pub mod Quiet
pub mod CommandGrows
pub mod InstructionLaws
pub mod InstructionAdds
pub mod OwnEvents
pub mod FailureWords
pub mod InstructionCosts
pub mod AccessTurns
pub mod AloneTurns
pub mod InstructionRank
pub mod Resting
pub mod ToldMore
pub mod AskedSame
pub mod FreeHomes
pub mod FreeOwes
pub mod FreeLists
pub mod HomePlaces
pub mod FreeLooks
pub mod RunLaws
pub mod CowSteps
pub mod WentWell
pub mod CopyLaws
pub mod CopyRank
pub mod CopyResting
pub mod CopyAdds
pub mod CopyLists
pub mod CopiedWords
pub mod CopyEnds
pub use Rattle.hwp_fault.proofs as of_hwp_fault
pub use Rattle.hwp_claim.proofs as of_hwp_claim
pub use Rattle.hwp_fork.proofs as of_hwp_fork
