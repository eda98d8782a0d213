use Rattle.std.proofs.Common.{sym}
use Rattle.hwp_script_lines.proofs.sentences.read_sentence.Goals as goal

pub returns-in-Ok : goal.returns-in-Ok
returns-in-Ok c =
    let turns = rw c.in-Ok.is at c.in_ok-turns-in-Schedule.ensures in record { kind = sym c.in-Schedule.is; fits = turns.0; same = turns.1 }
