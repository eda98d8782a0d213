use Rattle.std.proofs.Common.{[], ◌∷◌, length, get_or, codes, refl, sym, ap, ◌∙◌, arith}
use Rattle.std.proofs.lemmas.List.{length-map}
use Rattle.hwp_report_words.proofs.Rests.{rest_of}
use Rattle.hwp_report_words.proofs.NoLines.{no_graded, no_graded_words}
use Rattle.hwp_report_words.proofs.WordLists.{now-at, three-up}
use Rattle.hwp_report_words.proofs.stops.read_graded.Goals as goal

pub returns-in_default-read_bits : goal.returns-in_default-read_bits
returns-in_default-read_bits c = no_graded _ (λ bits e. c.in_default-read_bits.ensures bits tt (sym (rest_of (λ w. w.now) c.args.words.now 3) ∙ e))

pub returns-in_default : goal.returns-in_default
returns-in_default c =
    no_graded_words _ (λ row bank status mcg mode fits e. let many = sym (length-map c.args.words.now (λ w. w.now)) ∙ ap length e in omega (arith, many, c.in_default.len_below))

pub returns-in_default-read_row : goal.returns-in_default-read_row
returns-in_default-read_row c = no_graded_words _ (λ row bank status mcg mode fits e. c.in_default-read_row.ensures row fits.0 (sym (now-at c.args.words.now 0 (record { ref_ptr = (0, 0); now = [] }) (omega arith)) ∙ ap (λ ws. get_or ws 0 []) e))

pub returns-in_default-read_u8 : goal.returns-in_default-read_u8
returns-in_default-read_u8 c = no_graded_words _ (λ row bank status mcg mode fits e. c.in_default-read_u8.ensures bank fits.1 (sym (now-at c.args.words.now 1 (record { ref_ptr = (0, 0); now = [] }) (omega arith)) ∙ ap (λ ws. get_or ws 1 []) e))

pub returns-in_default-read_hex : goal.returns-in_default-read_hex
returns-in_default-read_hex c = no_graded_words _ (λ row bank status mcg mode fits e. c.in_default-read_hex.ensures status fits.2 (sym (now-at c.args.words.now 2 (record { ref_ptr = (0, 0); now = [] }) (omega arith)) ∙ ap (λ ws. get_or ws 2 []) e))

pub returns : goal.returns
returns c =
    let row = c.in-Some.ensures in let bank = c.in-Some-read_u8.ensures in let status = c.in-Some-read_hex.ensures in let bits = c.in-Some-read_bits.ensures in (
      (row.0, bank.0, status.0),
      ap (λ ws. codes "severity" ∷ ws) (three-up c.args.words.now (record { ref_ptr = (0, 0); now = [] }) (omega arith) ∙ rw (row.1, bank.1, status.1, bits.1) refl),
    )
