pub mod Checks
pub mod Instructions
pub mod Fits
pub mod Costs
pub mod Done
pub mod Copyings
pub mod Looks
pub mod Runs
pub mod CopyFits
pub mod CopyCosts
pub mod CopyDone
pub use Rattle.hwp_fault.specs as hwp_fault
pub use Rattle.hwp_claim.specs as hwp_claim
pub use Rattle.hwp_fault.specs.hwp_evict as hwp_evict
pub use Rattle.hwp_fork.specs as hwp_fork
