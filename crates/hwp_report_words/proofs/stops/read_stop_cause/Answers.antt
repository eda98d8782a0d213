use Rattle.std.proofs.Common.{[], refl, arith}
use Rattle.hwp_report_words.proofs.WordLists.{led}
use Rattle.hwp_report_words.proofs.stops.read_stop_cause.Goals as goal

pub returns-then-is_text : goal.returns-then-is_text
returns-then-is_text c = rw (led c.args.words.now (record { ref_ptr = (0, 0); now = [] }) _ (omega arith) (c.if-is_text.ensures.0 refl)) c.read_graded.ensures

pub returns-then-is_text-2 : goal.returns-then-is_text-2
returns-then-is_text-2 c = rw (led c.args.words.now (record { ref_ptr = (0, 0); now = [] }) _ (omega arith) (c.if-is_text-2.ensures.0 refl)) c.read_panic.ensures
