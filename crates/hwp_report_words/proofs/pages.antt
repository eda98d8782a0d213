pub mod WordsPut
pub mod SameWords
pub mod NoLines
