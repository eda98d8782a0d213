use Rattle.std.proofs.Common.{[], length, get_or, refl, sym, ap, ◌∙◌, arith}
use Rattle.std.proofs.lemmas.List.{length-map}
use Rattle.hwp_report_words.proofs.WordLists.{now-at, four-of}
use Rattle.hwp_report.proofs.standing.read_masks.Goals as goal

pub returns-in_default : goal.returns-in_default
returns-in_default c = λ x fits e. let many = sym (length-map c.args.words.now (λ w. w.now)) ∙ ap length e in omega (arith, many, c.in_default.len_below)

pub returns-in_default-2 : goal.returns-in_default-2
returns-in_default-2 c = λ x fits e. let many = sym (length-map c.args.words.now (λ w. w.now)) ∙ ap length e in omega (arith, many, c.in_default.len_at_least)

pub returns-in_default-read_hex : goal.returns-in_default-read_hex
returns-in_default-read_hex c = λ x fits e. c.in_default-read_hex.ensures x.0.0 fits.0 (sym (now-at c.args.words.now 1 (record { ref_ptr = (0, 0); now = [] }) (omega arith)) ∙ ap (λ ws. get_or ws 1 []) e)

pub returns-in_default-read_hex-2 : goal.returns-in_default-read_hex-2
returns-in_default-read_hex-2 c = λ x fits e. c.in_default-read_hex-2.ensures x.1.0 fits.1 (sym (now-at c.args.words.now 3 (record { ref_ptr = (0, 0); now = [] }) (omega arith)) ∙ ap (λ ws. get_or ws 3 []) e)

pub returns : goal.returns
returns c =
    let bad = c.in-Some.ensures in let weak = c.in-Some-read_hex.ensures in
    ((bad.0, weak.0), four-of c.args.words.now (record { ref_ptr = (0, 0); now = [] }) (omega arith) ∙ rw (c.if-not-is_text.ensures.0 refl, bad.1, c.if-not-is_text-2.ensures.0 refl, weak.1) refl)
