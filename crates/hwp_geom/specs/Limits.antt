-- The limits of a machine and of a script, in any version and in each. The constants of the code are proved to be these.
use Rattle.std.specs.Prelude.{ℕ}
use Rattle.hwp_geom.specs.declared.version.Version.{Version}
use Rattle.hwp_geom.specs.declared.version.Version.TheVariants.{One, Two}

-- the digit that names a version
abbrev pub number : Version → ℕ
number One = 1
number Two = 2

-- the lines of a page
abbrev pub line_limit : ℕ
line_limit = 64

abbrev pub cpu_limit : ℕ
cpu_limit = 16

abbrev pub frame_limit : ℕ
frame_limit = 4096

abbrev pub file_limit : ℕ
file_limit = 16

abbrev pub process_limit : ℕ
process_limit = 16

abbrev pub thread_limit : ℕ
thread_limit = 32

abbrev pub page_limit : ℕ
page_limit = 4096

abbrev pub translation_limit : ℕ
translation_limit = 4096

-- the commands of a script, over all processors
abbrev pub command_limit : ℕ
command_limit = 4096

-- the limits of each version
abbrev pub cpu_limit_of : Version → ℕ
cpu_limit_of One = 8
cpu_limit_of Two = 16

abbrev pub frame_limit_of : Version → ℕ
frame_limit_of One = 256
frame_limit_of Two = 4096

abbrev pub page_limit_of : Version → ℕ
page_limit_of One = 256
page_limit_of Two = 4096

abbrev pub translation_limit_of : Version → ℕ
translation_limit_of One = 512
translation_limit_of Two = 4096
