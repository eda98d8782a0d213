use Rattle.std.proofs.Common.{ℕ, ◌<◌, sym, subst}
use Rattle.hwp_check_rules.specs.hwp_check_event_line.Firsts.{shown_lines}
use Rattle.hwp_check_frames.proofs.NoteLoop.{closes_shown, goes-on, many-shown}
use Rattle.hwp_check_frames.proofs.notes.close.Goals as goal

pub returns-then-is_last : goal.returns-then-is_last
returns-then-is_last c =
    closes_shown c.args.layout.now c.args.lines.now c.args.start c.args.number c.args.frames.now.items _
    (subst (λ (n : ℕ). c.args.number < n) (sym (many-shown c.args.lines.now)) c.requires.within) (sym c.if-is_last.ensures) c.requires.noted c.in_ok-add_check.ensures

pub returns : goal.returns
returns c = goes-on c.args.layout.now (shown_lines c.args.lines.now) c.args.start c.args.number c.args.frames.now.items (sym c.if-is_last.ensures) c.requires.noted
