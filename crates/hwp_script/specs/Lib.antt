pub mod Printed
pub mod Text
pub mod Round
pub mod Draws
pub mod Machine
pub mod Commands
pub mod Generated
pub use Rattle.hwp_script_read.specs as hwp_script_read
