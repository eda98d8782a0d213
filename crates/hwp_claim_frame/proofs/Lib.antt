pub mod GrabLaws
pub mod GrabCosts
pub mod FrameSlots
pub mod FrameUnlocks
pub mod MeetLaws
pub mod MeetCosts
pub mod ClaimKeeps
pub mod PoisonLaws
pub mod ViewKeeps
pub mod ClaimLaws
pub mod ClaimAdds
pub mod ClaimCosts
pub mod ClaimOwns
pub mod Quiet
pub use Rattle.hwp_core.proofs as of_hwp_core
pub use Rattle.hwp_core.proofs.of_hwp_core_rule as of_hwp_core_rule
