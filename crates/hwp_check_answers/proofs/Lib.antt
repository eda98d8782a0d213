mod InPlace
pub mod OrderLaws
mod JudgeLaws
mod LastLaws
mod SoFarLaws
pub mod NextLaws
mod FactLaws
mod WalkLaws
mod SiftLaws
mod JoinLaws
pub mod RuleLaws
pub mod BreakLaws
mod RuleJoin
mod Places
mod Processors
mod Reports
mod OfflinedOrder
mod TallyLaws
mod OfflinedLaws
