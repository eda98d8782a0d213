use Rattle.std.proofs.Common.{arith, []}
use Rattle.std.proofs.lemmas.List.{length-map}
use Rattle.hwp_script_lines.proofs.NumberLaws.{numbers-bad}
use Rattle.hwp_script_lines.proofs.numbers.read_numbers.Goals as goal

pub returns-in_default : goal.returns-in_default
returns-in_default c =
    (rw length-map (omega arith), numbers-bad c.args.words.now c.loop-at.at (record { ref_ptr = (0, 0); now = [] }) (omega arith) c.in_default.ensures.none)
