use Rattle.std.proofs.Common.{◌≡◌, length}
use Rattle.hwp_check_event_line.specs.Reading.{copies_in}
use Rattle.hwp_check_events.specs.Copied.{AreCopied}
use Rattle.hwp_check_events.proofs.copied.copied_of.Given as goal

abbrev pub invariant-loop-number : goal.invariant-loop-number
invariant-loop-number l = (length l.lists.items ≡ l.number) × AreCopied l.fn.layout (copies_in l.fn.copies) l.fn.report l.fn.cpu l.fn.commands l.number l.lists.items
