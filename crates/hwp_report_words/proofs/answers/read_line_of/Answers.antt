use Rattle.std.proofs.Common.{[], true≢false, refl, sym, ◌∙◌, arith}
use Rattle.hwp_report_words.proofs.WordLists.{led, now-at, no-line-so-short}
use Rattle.hwp_report_words.proofs.answers.read_line_of.Goals as goal

pub returns-in_default : goal.returns-in_default
returns-in_default c = no-line-so-short c.args.seq c.args.words.now c.in_default.len_below

pub returns-then-is_text : goal.returns-then-is_text
returns-then-is_text c = rw (led c.args.words.now (record { ref_ptr = (0, 0); now = [] }) _ (omega arith) (c.if-is_text.ensures.0 refl)) c.read_event.ensures

pub returns-then-is_text-2 : goal.returns-then-is_text-2
returns-then-is_text-2 c = rw (led c.args.words.now (record { ref_ptr = (0, 0); now = [] }) _ (omega arith) (c.if-is_text-2.ensures.0 refl)) c.read_offlined.ensures

pub returns-then-is_text-3 : goal.returns-then-is_text-3
returns-then-is_text-3 c = rw (led c.args.words.now (record { ref_ptr = (0, 0); now = [] }) _ (omega arith) (c.if-is_text-3.ensures.0 refl)) c.read_guest.ensures

pub read_answer_line-requires-clause-no_event : goal.read_answer_line-requires-clause-no_event
read_answer_line-requires-clause-no_event c = λ e. true≢false (sym (c.if-is_text.ensures.1 (sym (now-at c.args.words.now 0 (record { ref_ptr = (0, 0); now = [] }) (omega arith)) ∙ e)))

pub read_answer_line-requires-clause-no_offlined : goal.read_answer_line-requires-clause-no_offlined
read_answer_line-requires-clause-no_offlined c = λ e. true≢false (sym (c.if-is_text-2.ensures.1 (sym (now-at c.args.words.now 0 (record { ref_ptr = (0, 0); now = [] }) (omega arith)) ∙ e)))

pub read_answer_line-requires-clause-no_guest : goal.read_answer_line-requires-clause-no_guest
read_answer_line-requires-clause-no_guest c = λ e. true≢false (sym (c.if-is_text-3.ensures.1 (sym (now-at c.args.words.now 0 (record { ref_ptr = (0, 0); now = [] }) (omega arith)) ∙ e)))

pub returns : goal.returns
returns c = c.read_answer_line.ensures
