use Rattle.std.proofs.Common.{[], ◌∷◌, length, get_or, sym, ap, ◌∙◌, arith}
use Rattle.std.proofs.lemmas.List.{length-map}
use Rattle.hwp_report_words.proofs.WordLists.{now-at, one-of}
use Rattle.hwp_report_words.proofs.entries.read_slot.Goals as goal

pub returns-in_default : goal.returns-in_default
returns-in_default c = λ x fits e. let many = sym (length-map c.args.words.now (λ w. w.now)) ∙ ap length e in omega (arith, many, c.in_default.len_below)

pub returns-in_default-2 : goal.returns-in_default-2
returns-in_default-2 c = λ x fits e. let many = sym (length-map c.args.words.now (λ w. w.now)) ∙ ap length e in omega (arith, many, c.in_default.len_at_least)

pub returns-in_default-read_u16 : goal.returns-in_default-read_u16
returns-in_default-read_u16 c = λ x fits e. c.in_default-read_u16.ensures x.0 fits (sym (now-at c.args.words.now 0 (record { ref_ptr = (0, 0); now = [] }) (omega arith)) ∙ ap (λ ws. get_or ws 0 []) e)

pub returns : goal.returns
returns c = (c.in-Some.ensures.0, one-of c.args.words.now (record { ref_ptr = (0, 0); now = [] }) (omega arith) ∙ ap (λ w. w ∷ []) c.in-Some.ensures.1)
