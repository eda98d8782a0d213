-- The lines that an access meets, by what is kept of its machine checks.
use Rattle.std.specs.Prelude.{ℕ, ◌+◌, ◌-◌, List, Option, ◌++◌, length, replicate}
use Rattle.hwp_banks.specs.declared.Event.{Event}
use Rattle.hwp_check_events.specs.declared.known.Checks.{Checks}
use Rattle.hwp_check_event_line.specs.Accesses.{Access, access_of}

-- the lines that are met: those that a copy meets, and then one line so often that they are as many as there are machine checks
abbrev pub lines_met : Checks → List ℕ → List ℕ
lines_met checks copied = copied ++ replicate (checks.count - length copied) checks.at

abbrev pub access_by : Checks → List ℕ → Option Event → Access
access_by checks copied raw = access_of checks.origin (lines_met checks copied) raw
