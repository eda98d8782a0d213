use Rattle.hwp_check_rules.specs.hwp_check_event_line.Firsts.{shown_lines}
use Rattle.hwp_check_frames.specs.Noting.{AreNoted}
use Rattle.hwp_check_frames.proofs.notes.notes.Given as goal

abbrev pub invariant-loop-number : goal.invariant-loop-number
invariant-loop-number l = AreNoted l.fn.layout (shown_lines l.fn.lines) l.start l.number l.frames.items
