use Rattle.std.proofs.Common.{[], length, get_or, refl, sym, ap, ◌∙◌, arith}
use Rattle.std.proofs.lemmas.List.{length-map}
use Rattle.hwp_report_words.proofs.WordLists.{now-at, three-of}
use Rattle.hwp_report_words.proofs.guests.read_guest_end.Goals as goal

pub returns-in_default : goal.returns-in_default
returns-in_default c = λ end fits e. let many = sym (length-map c.args.words.now (λ w. w.now)) ∙ ap length e in omega (arith, many, c.in_default.len_below)

pub returns-in_default-2 : goal.returns-in_default-2
returns-in_default-2 c = λ end fits e. let many = sym (length-map c.args.words.now (λ w. w.now)) ∙ ap length e in omega (arith, many, c.in_default.len_at_least)

pub returns-in_default-read_hex : goal.returns-in_default-read_hex
returns-in_default-read_hex c = λ end fits e. c.in_default-read_hex.ensures end.0 fits.0 (sym (now-at c.args.words.now 0 (record { ref_ptr = (0, 0); now = [] }) (omega arith)) ∙ ap (λ ws. get_or ws 0 []) e)

pub returns-in_default-read_row : goal.returns-in_default-read_row
returns-in_default-read_row c = λ end fits e. c.in_default-read_row.ensures end.1 fits.1 (sym (now-at c.args.words.now 1 (record { ref_ptr = (0, 0); now = [] }) (omega arith)) ∙ ap (λ ws. get_or ws 1 []) e)

pub returns-in_default-read_guest_outcome : goal.returns-in_default-read_guest_outcome
returns-in_default-read_guest_outcome c = λ end fits e. c.in_default-read_guest_outcome.ensures end.2 (sym (now-at c.args.words.now 2 (record { ref_ptr = (0, 0); now = [] }) (omega arith)) ∙ ap (λ ws. get_or ws 2 []) e)

pub returns : goal.returns
returns c = ((c.in-Some.ensures.0, c.in-Some-read_row.ensures.0), three-of c.args.words.now (record { ref_ptr = (0, 0); now = [] }) (omega arith) ∙ rw (c.in-Some.ensures.1, c.in-Some-read_row.ensures.1, c.in-Some-read_guest_outcome.ensures) refl)
