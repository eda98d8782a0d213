pub mod Graded
pub mod Handling
pub use Rattle.hwp_banks.specs as hwp_banks
