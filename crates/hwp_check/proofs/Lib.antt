mod InOrder
mod ActedVerdicts
mod ActedWhole
mod GuestJoin
mod AnswerJoin
mod PartLaws
mod LineCounts
mod JudgeLaws
