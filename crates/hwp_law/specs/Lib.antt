pub mod Commands
pub mod Settings
pub mod Cows
pub mod GuestRule
pub mod Outcomes
pub mod Notes
pub mod Watched
pub mod Places
pub mod History
pub mod Policies
pub mod States
pub mod Answers
pub mod Stops
pub mod PageHistory
pub mod Runs
pub mod Lines
pub mod Entries
pub mod SeenPolicies
pub mod Records
pub mod Pairings
pub mod Frames
pub mod Losses
pub mod Endings
pub mod Checks
pub mod Events
pub mod Halts
pub mod Causes
pub mod Acting
pub mod Copies
pub mod Private
pub mod Guests
pub mod Offlined
pub mod Law
pub use Rattle.hwp_report_text.specs.hwp_banks as hwp_banks
pub use Rattle.hwp_script_words.specs.hwp_cec as hwp_cec
pub use Rattle.hwp_script_words.specs.hwp_geom as hwp_geom
pub use Rattle.hwp_report_text.specs.hwp_guest as hwp_guest
pub use Rattle.hwp_report_text.specs.hwp_kill as hwp_kill
pub use Rattle.hwp_report_text.specs.hwp_page as hwp_page
pub use Rattle.hwp_report_text.specs as hwp_report_text
pub use Rattle.hwp_script_words.specs as hwp_script_words
pub use Rattle.hwp_report_text.specs.hwp_severity as hwp_severity
