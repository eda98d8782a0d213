mod CopyLaws
mod AccessLaws
mod AccessScans
mod AskedLaws
mod RaiseLaws
mod OwnLaws
pub mod LowestMarks
pub mod CommandEvents
pub mod Walks
pub mod ValidLaws
mod JudgeLaws
pub mod IndexLaws
mod Joined
mod FirstAnswers
mod CheckCounts
mod TableLaws
mod WalkLaws
mod WalkSteps
mod CaseLaws
pub mod Verdicts
