pub mod PairsWalk
pub mod WordLaws
pub mod ContextLaws
pub mod CleanLaws
pub mod CleanLists
pub mod SumLaws
pub mod CollectLaws
pub mod JudgeLaws
pub mod NameLaws
pub mod TwinLaws
pub mod ForkLaws
pub mod GuestLaws
pub mod TallyLaws
pub mod FitLaws
pub mod ValidLaws
pub mod ReadLaws
pub mod OneScript
pub use Rattle.hwp_script_lines.proofs.of_hwp_geom as of_hwp_geom
pub use Rattle.hwp_script_lines.proofs as of_hwp_script_lines
pub use Rattle.hwp_script_lines.proofs.of_hwp_script_words as of_hwp_script_words
