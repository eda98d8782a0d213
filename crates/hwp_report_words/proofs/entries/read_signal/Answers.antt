use Rattle.std.proofs.Common.{[], ◌∷◌, length, get_or, drop, codes, refl, sym, ap, ◌∙◌, arith}
use Rattle.std.proofs.lemmas.List.{length-map}
use Rattle.hwp_report_words.proofs.Rests.{rest_of}
use Rattle.hwp_report_words.proofs.WordLists.{now-at, two-up}
use Rattle.hwp_report_words.proofs.entries.read_signal.Goals as goal

pub returns-in_default : goal.returns-in_default
returns-in_default c = λ x fits e. let many = sym (length-map c.args.words.now (λ w. w.now)) ∙ ap length (ap (drop 1) e) in omega (arith, many, c.in_default.len_below)

pub returns-in_default-read_u8 : goal.returns-in_default-read_u8
returns-in_default-read_u8 c = λ x fits e. c.in_default-read_u8.ensures x.process.0 fits.0 (sym (now-at c.args.words.now 0 (record { ref_ptr = (0, 0); now = [] }) (omega arith)) ∙ ap (λ ws. get_or ws 1 []) e)

pub returns-in_default-read_u8-2 : goal.returns-in_default-read_u8-2
returns-in_default-read_u8-2 c = λ x fits e. c.in_default-read_u8-2.ensures x.thread.0 fits.1 (sym (now-at c.args.words.now 1 (record { ref_ptr = (0, 0); now = [] }) (omega arith)) ∙ ap (λ ws. get_or ws 2 []) e)

pub returns-in_default-read_aim : goal.returns-in_default-read_aim
returns-in_default-read_aim c = λ x fits e. c.in_default-read_aim.ensures (x.code, x.slot) fits.2 (sym (rest_of (λ w. w.now) c.args.words.now 2) ∙ ap (drop 3) e)

pub returns : goal.returns
returns c =
    let process = c.in-Some.ensures in let thread = c.in-Some-read_u8.ensures in let aim = c.in-Some-read_aim.ensures in (
      (process.0, thread.0, aim.0),
      ap (λ ws. codes "signal" ∷ ws) (two-up c.args.words.now (record { ref_ptr = (0, 0); now = [] }) (omega arith) ∙ rw (process.1, thread.1, aim.1) refl),
    )
