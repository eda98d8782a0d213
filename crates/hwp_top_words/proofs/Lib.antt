pub mod Statuses
pub mod GivenBytes
pub mod Asked
pub mod Delivered
pub use Rattle.hwp_script.proofs.of_hwp_script_read as of_hwp_script_read
