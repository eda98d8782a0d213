use Rattle.std.proofs.Common.{[], length, get_or, refl, sym, ap, ◌∙◌, arith}
use Rattle.std.proofs.lemmas.List.{length-map}
use Rattle.hwp_report_words.proofs.WordLists.{now-at, three-of}
use Rattle.hwp_report_words.proofs.stops.read_bits.Goals as goal

pub returns-in_default : goal.returns-in_default
returns-in_default c = λ bits fits e. let many = sym (length-map c.args.words.now (λ w. w.now)) ∙ ap length e in omega (arith, many, c.in_default.len_below)

pub returns-in_default-2 : goal.returns-in_default-2
returns-in_default-2 c = λ bits fits e. let many = sym (length-map c.args.words.now (λ w. w.now)) ∙ ap length e in omega (arith, many, c.in_default.len_at_least)

pub returns-in_default-read_flag : goal.returns-in_default-read_flag
returns-in_default-read_flag c = λ bits fits e. c.in_default-read_flag.ensures bits.0.ripv (sym (now-at c.args.words.now 0 (record { ref_ptr = (0, 0); now = [] }) (omega arith)) ∙ ap (λ ws. get_or ws 0 []) e)

pub returns-in_default-read_flag-2 : goal.returns-in_default-read_flag-2
returns-in_default-read_flag-2 c = λ bits fits e. c.in_default-read_flag-2.ensures bits.0.eipv (sym (now-at c.args.words.now 1 (record { ref_ptr = (0, 0); now = [] }) (omega arith)) ∙ ap (λ ws. get_or ws 1 []) e)

pub returns-in_default-read_mode : goal.returns-in_default-read_mode
returns-in_default-read_mode c = λ bits fits e. c.in_default-read_mode.ensures bits.1 (sym (now-at c.args.words.now 2 (record { ref_ptr = (0, 0); now = [] }) (omega arith)) ∙ ap (λ ws. get_or ws 2 []) e)

pub returns : goal.returns
returns c = (tt, three-of c.args.words.now (record { ref_ptr = (0, 0); now = [] }) (omega arith) ∙ rw (c.in-Some.ensures, c.in-Some-read_flag.ensures, c.in-Some-read_mode.ensures) refl)
