use Rattle.std.proofs.Common.{[], ◌∷◌, length, get_or, codes, decimal, refl, sym, ap, ◌∙◌, arith}
use Rattle.std.proofs.lemmas.List.{length-map}
use Rattle.hwp_report_words.proofs.Rests.{rest_of}
use Rattle.hwp_report_words.proofs.NoLines.{no_event, no_event_words}
use Rattle.hwp_report_words.proofs.WordLists.{now-at, three-up}
use Rattle.hwp_report_words.proofs.answers.read_event.Goals as goal

pub returns-in_default-read_event_end : goal.returns-in_default-read_event_end
returns-in_default-read_event_end c = no_event c.args.seq _ (λ end fits e. c.in_default-read_event_end.ensures end fits (sym (rest_of (λ w. w.now) c.args.words.now 3) ∙ e))

pub returns-in_default : goal.returns-in_default
returns-in_default c =
    no_event_words c.args.seq _ (λ event fits e. let many = sym (length-map c.args.words.now (λ w. w.now)) ∙ ap length e in omega (arith, many, c.in_default.len_below))

pub returns-in_default-read_u8 : goal.returns-in_default-read_u8
returns-in_default-read_u8 c = no_event_words c.args.seq _ (λ event fits e. c.in_default-read_u8.ensures event.bank fits.0 (sym (now-at c.args.words.now 0 (record { ref_ptr = (0, 0); now = [] }) (omega arith)) ∙ ap (λ ws. get_or ws 0 []) e))

pub returns-in_default-read_hex : goal.returns-in_default-read_hex
returns-in_default-read_hex c = no_event_words c.args.seq _ (λ event fits e. c.in_default-read_hex.ensures event.status fits.1 (sym (now-at c.args.words.now 1 (record { ref_ptr = (0, 0); now = [] }) (omega arith)) ∙ ap (λ ws. get_or ws 1 []) e))

pub returns-in_default-read_hex-2 : goal.returns-in_default-read_hex-2
returns-in_default-read_hex-2 c = no_event_words c.args.seq _ (λ event fits e. c.in_default-read_hex-2.ensures event.addr fits.2 (sym (now-at c.args.words.now 2 (record { ref_ptr = (0, 0); now = [] }) (omega arith)) ∙ ap (λ ws. get_or ws 2 []) e))

pub returns : goal.returns
returns c =
    let bank = c.in-Some.ensures in let status = c.in-Some-read_hex.ensures in let addr = c.in-Some-read_hex-2.ensures in let end = c.in-Some-read_event_end.ensures in (
      (c.ranges.seq.fits, (bank.0, status.0, addr.0, end.0.0, end.0.1)),
      ap (λ ws. decimal c.args.seq ∷ codes "event" ∷ ws) (three-up c.args.words.now (record { ref_ptr = (0, 0); now = [] }) (omega arith) ∙ rw (bank.1, status.1, addr.1, end.1) refl),
    )
