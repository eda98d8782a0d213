use Rattle.std.proofs.Common.{◌≡◌, ◌++◌, filter_map, take}
use Rattle.hwp_check_rules.specs.hwp_check_event_line.Firsts.{shown_lines}
use Rattle.hwp_check_rules.specs.hwp_law.Notes.{noted_frame}
use Rattle.hwp_check_frames.proofs.notes.add_noted.Given as goal

abbrev pub invariant-loop-shown : goal.invariant-loop-shown
invariant-loop-shown l = l.frames.items ≡ l.fn.frames.items ++ filter_map (noted_frame l.fn.layout) (shown_lines (take l.shown-index l.fn.lines))
