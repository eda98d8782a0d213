pub mod PinLaws
pub mod ReleaseLaws
pub mod HoldLaws
pub mod UnholdLaws
pub mod HoldEnds
pub mod TaskCosts
pub mod FreeWords
pub mod ReferLaws
pub mod BodyStates
pub mod UnlockLaws
pub mod GiveUpLaws
pub mod ReferCosts
pub mod GiveUpCosts
pub mod TaskTells
pub mod BodyGrows
pub mod VacateLaws
pub mod VacateCosts
pub mod PageStates
pub mod TranslationWrites
pub mod ClearLaws
pub use Rattle.hwp_core_rule.proofs as of_hwp_core_rule
pub use Rattle.hwp_core_rule.proofs.of_hwp_kill as of_hwp_kill
pub use Rattle.hwp_core_rule.proofs.of_hwp_words as of_hwp_words
