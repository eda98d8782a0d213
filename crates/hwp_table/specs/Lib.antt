pub mod Seats
pub mod Turns
pub mod Boards
pub use Rattle.hwp_table_words.specs as hwp_table_words
