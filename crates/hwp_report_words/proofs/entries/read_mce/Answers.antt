use Rattle.std.proofs.Common.{[], get_or, refl, sym, ap, ◌∙◌, arith}
use Rattle.hwp_report_words.proofs.WordLists.{now-at, three-of}
use Rattle.hwp_report_words.proofs.entries.read_mce.Goals as goal

pub returns-in_default-read_u16 : goal.returns-in_default-read_u16
returns-in_default-read_u16 c = λ x fits e. c.in_default-read_u16.ensures x.0.0 fits.0 (sym (now-at c.args.words.now 0 (record { ref_ptr = (0, 0); now = [] }) (omega arith)) ∙ ap (λ ws. get_or ws 0 []) e)

pub returns-in_default-read_line_number : goal.returns-in_default-read_line_number
returns-in_default-read_line_number c = λ x fits e. c.in_default-read_line_number.ensures x.1 fits.1 (sym (now-at c.args.words.now 1 (record { ref_ptr = (0, 0); now = [] }) (omega arith)) ∙ ap (λ ws. get_or ws 1 []) e)

pub returns-in_default-read_hex : goal.returns-in_default-read_hex
returns-in_default-read_hex c = λ x fits e. c.in_default-read_hex.ensures x.2.0 fits.2 (sym (now-at c.args.words.now 2 (record { ref_ptr = (0, 0); now = [] }) (omega arith)) ∙ ap (λ ws. get_or ws 2 []) e)

pub returns : goal.returns
returns c =
    let slot = c.in-Some.ensures in let line = c.in-Some-read_line_number.ensures in let mask = c.in-Some-read_hex.ensures in
    ((slot.0, line.0, mask.0), three-of c.args.words.now (record { ref_ptr = (0, 0); now = [] }) (omega arith) ∙ rw (slot.1, line.1, mask.1) refl)
