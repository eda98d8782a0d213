-- The first line of a processor where its event lines are wrong, by what was found of them.
use Rattle.std.specs.Prelude.{ℕ, ◌+◌, cond, Option, Some, option_map}
use Rattle.hwp_check_events.specs.declared.Misfits.{Misfits}

-- its heading, where some lack; else the line of the first row that shows a wrong one
abbrev pub line_of : Misfits → ℕ → Option ℕ
line_of found heading = cond found.lacks (Some heading) (option_map (λ (row : ℕ). heading + 1 + row) found.wrong)
