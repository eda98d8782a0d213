mod HexLaws
pub mod NamedValues
pub mod Rests
pub mod SameWords
pub mod WordsPut
pub mod LinesPut
pub mod SameLines
mod NoLines
pub mod WordLists
mod AnswerWords
pub mod pages
