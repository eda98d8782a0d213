use Rattle.std.proofs.Common.{◌≡◌, length, arith}
use Rattle.hwp_check_rules.specs.hwp_check_event_line.Firsts.{shown_lines}
use Rattle.hwp_check_frames.proofs.NoteLoop.{gathered, many-shown}
use Rattle.hwp_check_frames.proofs.notes.notes.Goals as goal

pub returns : goal.returns
returns c =
    let many : length (shown_lines c.args.lines.now) ≡ length c.args.lines.now = many-shown c.args.lines.now in
    gathered c.args.layout.now (shown_lines c.args.lines.now) c.loop-number.start c.loop-number.number c.loop-number.frames.items (omega (arith, many)) c.loop-number.invariant
