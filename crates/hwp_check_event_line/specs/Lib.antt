pub mod Nears
pub mod Windows
pub mod Results
pub mod Ended
pub mod Firsts
pub mod OfCommands
pub mod Found
pub mod Lines
pub mod Scrubs
pub mod Scrubbing
pub mod Accesses
pub mod Misfits
pub mod Reading
pub mod Scripts
pub use Rattle.hwp_law.specs as hwp_law
