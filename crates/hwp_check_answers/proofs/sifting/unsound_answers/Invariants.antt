use Rattle.std.proofs.Common.{◌≡◌}
use Rattle.hwp_check_rules.specs.Standing.{cpu_line}
use Rattle.hwp_check_answers.proofs.SiftLaws.{SoundBelow}
use Rattle.hwp_check_answers.proofs.sifting.unsound_answers.Given as goal
use Rattle.hwp_check_rules.specs.hwp_check_event_line.Reading.{copies_in}

abbrev pub invariant-loop-number : goal.invariant-loop-number
invariant-loop-number l = (l.line ≡ cpu_line l.fn.report l.number) × SoundBelow l.fn.script (copies_in l.fn.copies) l.fn.report l.number
