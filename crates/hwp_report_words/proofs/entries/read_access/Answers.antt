use Rattle.std.proofs.Common.{drop, [], get_or, refl, sym, ap, ◌∙◌, arith}
use Rattle.hwp_report_words.proofs.WordLists.{now-at, four-of}
use Rattle.hwp_report_words.proofs.entries.read_access.Goals as goal

pub returns-in_default-read_u16 : goal.returns-in_default-read_u16
returns-in_default-read_u16 c = λ x fits e. c.in_default-read_u16.ensures x.0.0 fits.0 (sym (now-at c.args.words.now 0 (record { ref_ptr = (0, 0); now = [] }) (omega arith)) ∙ ap (λ ws. get_or ws 0 []) e)

pub returns-in_default-read_line_number : goal.returns-in_default-read_line_number
returns-in_default-read_line_number c = λ x fits e. c.in_default-read_line_number.ensures x.1 fits.1 (sym (now-at c.args.words.now 1 (record { ref_ptr = (0, 0); now = [] }) (omega arith)) ∙ ap (λ ws. get_or ws 1 []) e)

pub returns-in_default-read_met : goal.returns-in_default-read_met
returns-in_default-read_met c = λ x fits e. c.in_default-read_met.ensures x.2 fits.2 (sym (ap (drop 2) (four-of c.args.words.now (record { ref_ptr = (0, 0); now = [] }) (omega arith))) ∙ ap (drop 2) e)

pub returns : goal.returns
returns c =
    let slot = c.in-Some.ensures in let line = c.in-Some-read_line_number.ensures in let met = c.in-Some-read_met.ensures in
    ((slot.0, line.0, met.0), four-of c.args.words.now (record { ref_ptr = (0, 0); now = [] }) (omega arith) ∙ rw (slot.1, line.1, met.1) refl)
