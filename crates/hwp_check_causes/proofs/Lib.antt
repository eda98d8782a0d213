mod TellLaws
pub mod AskLaws
mod AskedLaws
mod PlainLaws
pub mod CauseLaws
mod LineLaws
mod BeforeLaws
mod Legal
