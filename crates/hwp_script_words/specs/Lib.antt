pub mod Numbers
pub mod Words
pub mod Kinds
pub mod Limits
pub mod Commands
pub mod Forks
pub mod Guests
pub mod Valid
pub mod Printed
pub use Rattle.hwp_cec.specs as hwp_cec
pub use Rattle.hwp_geom.specs as hwp_geom
