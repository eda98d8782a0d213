pub mod Reads
pub mod Words
pub mod Answers
pub mod Fits
pub mod LineWords
pub mod pages
pub use Rattle.hwp_script_words.specs as hwp_script_words
