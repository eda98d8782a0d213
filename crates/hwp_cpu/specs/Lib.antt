pub mod Beside
pub mod Courses
pub mod Processors
pub mod Serving
pub use Rattle.hwp_cpu_command.specs.hwp_cpu_access as hwp_cpu_access
pub use Rattle.hwp_cpu_command.specs as hwp_cpu_command
pub use Rattle.hwp_cpu_command.specs.hwp_cpu_control as hwp_cpu_control
pub use Rattle.hwp_cpu_command.specs.hwp_fault as hwp_fault
pub use Rattle.hwp_law_served.specs.hwp_law as hwp_law
pub use Rattle.hwp_law_served.specs as hwp_law_served
pub use Rattle.hwp_cpu_command.specs.hwp_scrub as hwp_scrub
pub use Rattle.hwp_cpu_command.specs.hwp_soft as hwp_soft
pub use Rattle.hwp_cpu_command.specs.hwp_soft_move as hwp_soft_move
