mod Words
mod Contents
mod AnswerLines
mod Freezes
mod Shares
mod MadeStores
mod GivenAnswers
mod PageWords
pub mod Forked
mod OwnPage
mod TwinPage
mod Keeps
mod WordExamples
pub mod Private
