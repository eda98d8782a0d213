use Rattle.hwp_script.proofs.PrintLaws.{schedule_text}
use Rattle.hwp_script.proofs.forms.put_schedule.Goals as goal

pub returns : goal.returns
returns c = schedule_text _ _ _ _ c.args.turns.now c.in_ok-write.ensures.bytes c.in_ok-put_turns.ensures c.in_ok-writeln.ensures.bytes
