use Rattle.std.proofs.Common.{[], ◌∷◌, length, get_or, codes, decimal, refl, sym, ap, ◌∙◌, arith}
use Rattle.std.proofs.lemmas.List.{length-map}
use Rattle.hwp_report_words.proofs.Rests.{rest_of}
use Rattle.hwp_report_words.proofs.NoLines.{no_guest, no_guest_words}
use Rattle.hwp_report_words.proofs.WordLists.{now-at, three-up}
use Rattle.hwp_report_words.proofs.guests.read_guest.Goals as goal

pub returns-in_default-read_guest_end : goal.returns-in_default-read_guest_end
returns-in_default-read_guest_end c = no_guest c.args.seq _ (λ end fits e. c.in_default-read_guest_end.ensures end fits (sym (rest_of (λ w. w.now) c.args.words.now 3) ∙ e))

pub returns-in_default : goal.returns-in_default
returns-in_default c =
    no_guest_words c.args.seq _ (λ guest fits e. let many = sym (length-map c.args.words.now (λ w. w.now)) ∙ ap length e in omega (arith, many, c.in_default.len_below))

pub returns-in_default-read_u8 : goal.returns-in_default-read_u8
returns-in_default-read_u8 c = no_guest_words c.args.seq _ (λ guest fits e. c.in_default-read_u8.ensures guest.bank fits.0 (sym (now-at c.args.words.now 0 (record { ref_ptr = (0, 0); now = [] }) (omega arith)) ∙ ap (λ ws. get_or ws 0 []) e))

pub returns-in_default-read_hex : goal.returns-in_default-read_hex
returns-in_default-read_hex c = no_guest_words c.args.seq _ (λ guest fits e. c.in_default-read_hex.ensures guest.status fits.1 (sym (now-at c.args.words.now 1 (record { ref_ptr = (0, 0); now = [] }) (omega arith)) ∙ ap (λ ws. get_or ws 1 []) e))

pub returns-in_default-read_hex-2 : goal.returns-in_default-read_hex-2
returns-in_default-read_hex-2 c = no_guest_words c.args.seq _ (λ guest fits e. c.in_default-read_hex-2.ensures guest.addr fits.2 (sym (now-at c.args.words.now 2 (record { ref_ptr = (0, 0); now = [] }) (omega arith)) ∙ ap (λ ws. get_or ws 2 []) e))

pub returns : goal.returns
returns c =
    let bank = c.in-Some.ensures in let status = c.in-Some-read_hex.ensures in let addr = c.in-Some-read_hex-2.ensures in let end = c.in-Some-read_guest_end.ensures in (
      (c.ranges.seq.fits, (bank.0, status.0, addr.0, end.0.0, end.0.1)),
      ap (λ ws. decimal c.args.seq ∷ codes "guest" ∷ ws) (three-up c.args.words.now (record { ref_ptr = (0, 0); now = [] }) (omega arith) ∙ rw (bank.1, status.1, addr.1, end.1) refl),
    )
