use Rattle.hwp_page.proofs.KillSignals.{is_killed}
use Rattle.hwp_page.proofs.failing.are_signals.Goals as goal

pub returns : goal.returns
returns c =
    is_killed c.args.layout.now c.args.maps.now c.args.signals_at_all c.args.always c.args.required c.args.seen.now c.signals.new.out c.args.listed.now c.are_equal.result c.signals.ensures
    (rw (c.as_slice.ensures.signals, c.as_slice-2.ensures) at c.are_equal.ensures)
