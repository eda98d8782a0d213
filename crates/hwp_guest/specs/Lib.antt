pub mod Guests
pub mod GuestState
pub use Rattle.hwp_severity.specs as hwp_severity
pub use Rattle.hwp_kill.specs as hwp_kill
