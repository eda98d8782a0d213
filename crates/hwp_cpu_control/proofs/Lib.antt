pub mod EmptyHands
pub mod ReadStopLaws
pub mod NestedLaws
pub mod PrctlLaws
pub mod ForkLaws
pub mod ForkTargets
pub mod DeniedLaws
pub mod PrctlReplies
pub mod SpoilLaws
pub use Rattle.hwp_core_rule.proofs as of_hwp_core_rule
