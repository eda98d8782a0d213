pub mod OfKind
pub mod JobEnds
pub mod JobRefusals
pub mod JobLaws
mod AccessBegins
pub use Rattle.hwp_cpu_access.proofs.of_hwp_claim as of_hwp_claim
pub use Rattle.hwp_cpu_control.proofs.of_hwp_core_rule as of_hwp_core_rule
pub use Rattle.hwp_cpu_access.proofs as of_hwp_cpu_access
pub use Rattle.hwp_cpu_control.proofs as of_hwp_cpu_control
pub use Rattle.hwp_evict.proofs as of_hwp_evict
pub use Rattle.hwp_scrub.proofs as of_hwp_scrub
pub use Rattle.hwp_soft.proofs as of_hwp_soft
pub use Rattle.hwp_cpu_access.proofs.of_hwp_fault as of_hwp_fault
