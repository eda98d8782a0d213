mod Exits
pub mod Gaps
pub mod Chosen
pub mod Seats
pub mod RankFalls
pub mod LowestLevel
pub mod ScheduleTells
pub mod TurnTells
pub mod CrewOpens
pub mod SlotLists
pub mod AllHome
mod TakenHistories
mod BoardOpens
mod CacheRange
mod AtHome
mod Carried
pub mod TrailViews
mod Stepped
pub mod BoardTurns
mod SpacedWords
mod NumberedLists
mod StepKinds
mod LineTells
pub mod ToldTurns
pub use Rattle.hwp_core_rule.proofs as of_hwp_core_rule
