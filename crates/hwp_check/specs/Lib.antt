pub mod Acting
pub mod Parting
pub mod Judging
pub mod Text
pub use Rattle.hwp_check_rules.specs as hwp_check_rules
pub use Rattle.hwp_check_rules.specs.hwp_law as hwp_law
