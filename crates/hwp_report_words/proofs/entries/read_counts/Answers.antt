use Rattle.std.proofs.Common.{[], length, get_or, refl, sym, ap, ◌∙◌, arith}
use Rattle.std.proofs.lemmas.List.{length-map}
use Rattle.hwp_report_words.proofs.WordLists.{now-at, two-of}
use Rattle.hwp_report_words.proofs.entries.read_counts.Goals as goal

pub returns-in_default : goal.returns-in_default
returns-in_default c = λ x fits e. let many = sym (length-map c.args.words.now (λ w. w.now)) ∙ ap length e in omega (arith, many, c.in_default.len_below)

pub returns-in_default-2 : goal.returns-in_default-2
returns-in_default-2 c = λ x fits e. let many = sym (length-map c.args.words.now (λ w. w.now)) ∙ ap length e in omega (arith, many, c.in_default.len_at_least)

pub returns-in_default-read_number : goal.returns-in_default-read_number
returns-in_default-read_number c = λ x fits e. c.in_default-read_number.ensures x.0 fits.0 (sym (now-at c.args.words.now 0 (record { ref_ptr = (0, 0); now = [] }) (omega arith)) ∙ ap (λ ws. get_or ws 0 []) e)

pub returns-in_default-read_signal_count : goal.returns-in_default-read_signal_count
returns-in_default-read_signal_count c = λ x fits e. c.in_default-read_signal_count.ensures x.1 fits.1 (sym (now-at c.args.words.now 1 (record { ref_ptr = (0, 0); now = [] }) (omega arith)) ∙ ap (λ ws. get_or ws 1 []) e)

pub returns : goal.returns
returns c =
    let seen = c.in-Some.ensures in let signals = c.in-Some-read_signal_count.ensures in
    ((seen.0, signals.0), two-of c.args.words.now (record { ref_ptr = (0, 0); now = [] }) (omega arith) ∙ rw (seen.1, signals.1) refl)
