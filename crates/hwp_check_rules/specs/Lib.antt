pub mod Standing
pub mod Firsts
pub mod Answered
pub mod Rules
pub mod Faults
pub mod MarkFaults
pub mod AnswerFaults
pub mod GuestFaults
pub mod Verdicts
pub mod Pasts
pub mod ActedOn
pub use Rattle.hwp_law.specs.hwp_banks as hwp_banks
pub use Rattle.hwp_check_event_line.specs as hwp_check_event_line
pub use Rattle.hwp_law.specs.hwp_geom as hwp_geom
pub use Rattle.hwp_law.specs.hwp_kill as hwp_kill
pub use Rattle.hwp_law.specs as hwp_law
pub use Rattle.hwp_law.specs.hwp_page as hwp_page
pub use Rattle.hwp_law.specs.hwp_report_text as hwp_report_text
pub use Rattle.hwp_law.specs.hwp_script_words as hwp_script_words
pub use Rattle.hwp_law.specs.hwp_guest as hwp_guest
