use Rattle.std.proofs.Common.{[], ◌∷◌, ◌++◌, ◌-◌, codes, decimal, drop, map, take, length, ap, sym, ◌∙◌}
use Rattle.std.proofs.lemmas.List.{length-map}
use Rattle.hwp_report_words.proofs.NoLines.{no_stop_words}
use Rattle.hwp_report_words.proofs.WordLists.{two-up}
use Rattle.hwp_report_words.proofs.stops.read_stop.Goals as goal

pub returns-in_default : goal.returns-in_default
returns-in_default c =
    no_stop_words _ (rw length-map c.in-len2-up.len_at_least) (λ stop fits e. c.in_default.ensures stop.who fits.0 (sym (ap (take 2) (two-up c.args.words.now (record { ref_ptr = (0, 0); now = [] }) c.in-len2-up.len_at_least)) ∙ ap (take 2) e))

pub returns-in_default-read_stop_cause : goal.returns-in_default-read_stop_cause
returns-in_default-read_stop_cause c =
    no_stop_words _ (rw length-map c.in-len2-up.len_at_least) (λ stop fits e. c.in_default-read_stop_cause.ensures stop.cause fits.1 (sym (ap (drop 2) (two-up c.args.words.now (record { ref_ptr = (0, 0); now = [] }) c.in-len2-up.len_at_least)) ∙ ap (drop 2) e))

pub returns-in-Some-read_stop_cause : goal.returns-in-Some-read_stop_cause
returns-in-Some-read_stop_cause c =
    let who = c.in-Some.ensures in let cause = c.in-Some-read_stop_cause.ensures in (
      (who.0, cause.0),
      ap (λ ws. codes "stop" ∷ ws) (two-up c.args.words.now (record { ref_ptr = (0, 0); now = [] }) c.in-len2-up.len_at_least ∙ ap (λ ws. ws ++ map (λ w. w.now) (take (length c.args.words.now - 2) (drop 2 c.args.words.now))) who.1 ∙ ap (λ ws. decimal c.in-Some.who.cpu.0 ∷ decimal c.in-Some.who.seq ∷ ws) cause.1),
    )
