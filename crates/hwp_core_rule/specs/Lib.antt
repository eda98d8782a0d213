pub mod Words
pub mod Lists
pub mod Steps
pub mod Logs
pub mod SlotMoves
pub mod Views
pub mod parts
pub mod Rule
pub mod Asks
pub mod Moves
pub mod Opening
pub mod Lasting
pub mod Calls
pub mod Turns
pub mod Hands
pub mod Boards
pub mod Ranks
pub mod Classes
pub mod Known
pub mod Pages
pub use Rattle.hwp_page.specs.hwp_geom as hwp_geom
pub use Rattle.hwp_page.specs.hwp_kill as hwp_kill
pub use Rattle.hwp_page.specs as hwp_page
pub use Rattle.hwp_words.specs as hwp_words
