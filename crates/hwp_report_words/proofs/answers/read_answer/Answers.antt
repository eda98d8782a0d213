use Rattle.std.proofs.Common.{[], inl, inr, arith}
use Rattle.hwp_report_words.proofs.WordLists.{one-of, two-of, three-of, four-of, no-answer-so-long}
use Rattle.hwp_report_words.proofs.answers.read_answer.Goals as goal

pub returns-in-len1 : goal.returns-in-len1
returns-in-len1 c = rw (one-of c.args.words.now (record { ref_ptr = (0, 0); now = [] }) (omega arith)) c.read_short_answer.ensures

pub returns-in-len2 : goal.returns-in-len2
returns-in-len2 c = rw (two-of c.args.words.now (record { ref_ptr = (0, 0); now = [] }) (omega arith)) c.read_counted_answer.ensures

pub returns-in-len3 : goal.returns-in-len3
returns-in-len3 c = rw (three-of c.args.words.now (record { ref_ptr = (0, 0); now = [] }) (omega arith)) c.read_placed_answer.ensures

pub returns-in-len4 : goal.returns-in-len4
returns-in-len4 c = rw (four-of c.args.words.now (record { ref_ptr = (0, 0); now = [] }) (omega arith)) c.read_valued_answer.ensures

pub returns-in_default : goal.returns-in_default
returns-in_default c = no-answer-so-long c.args.words.now (inl c.in_default.len_below)

pub returns-in_default-2 : goal.returns-in_default-2
returns-in_default-2 c = no-answer-so-long c.args.words.now (inr c.in_default.len_at_least)
