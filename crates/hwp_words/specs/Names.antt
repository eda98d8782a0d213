-- Frames, pages and processors as words name them: a word or a field has the number plus 1, or 0 for none.
use Rattle.std.specs.Prelude.{ℕ, ◌+◌, ◌-◌, ◌%◌, ◌^◌, ◌==◌, Option, Some, None, if◌then◌else◌}
use Rattle.hwp_kill.specs.hwp_geom.declared.numbers.Frame.{Frame}
use Rattle.hwp_kill.specs.hwp_geom.declared.numbers.Page.{Page}
use Rattle.hwp_kill.specs.hwp_geom.declared.numbers.Cpu.{Cpu}

abbrev pub frame_name : Option Frame → ℕ
frame_name None = 0
frame_name (Some f) = f.0 + 1

abbrev pub page_name : Option Page → ℕ
page_name None = 0
page_name (Some q) = q.0 + 1

abbrev pub cpu_name : Option Cpu → ℕ
cpu_name None = 0
cpu_name (Some c) = c.0 + 1

-- what a number names; frames and pages are numbers of 16 bits, and a greater number counts modulo 2 ^ 16
abbrev pub frame_named : ℕ → Option Frame
frame_named n = if n == 0 then None else Some (record { 0 = (n - 1) % 2 ^ 16 })

abbrev pub page_named : ℕ → Option Page
page_named n = if n == 0 then None else Some (record { 0 = (n - 1) % 2 ^ 16 })

-- processors are numbers of 8 bits
abbrev pub cpu_named : ℕ → Option Cpu
cpu_named n = if n == 0 then None else Some (record { 0 = (n - 1) % 2 ^ 8 })
