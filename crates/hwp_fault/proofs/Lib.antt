pub mod FaultEntries
pub mod MapInLaws
pub mod MapInCosts
pub mod TranslationLoads
pub mod AccessRefusals
pub mod Deeds
pub mod FaultLaws
pub mod FaultCosts
pub mod TranslationWords
pub mod AccessHome
pub mod AccessLaws
pub mod AccessCosts
pub mod FaultRoom
pub mod FaultAdds
pub use Rattle.hwp_core.proofs as of_hwp_core
pub use Rattle.hwp_core.proofs.of_hwp_core_rule as of_hwp_core_rule
pub use Rattle.hwp_evict.proofs as of_hwp_evict
pub use Rattle.hwp_core.proofs.of_hwp_words as of_hwp_words
