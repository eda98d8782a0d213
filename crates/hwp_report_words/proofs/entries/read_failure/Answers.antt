use Rattle.std.proofs.Common.{[], ◌∷◌, ◌++◌, ◌-◌, length, get_or, take, drop, map, codes, decimal, sym, ap, ◌∙◌, arith}
use Rattle.std.proofs.lemmas.List.{length-map}
use Rattle.hwp_report_text.specs.Terms.{situation_word}
use Rattle.hwp_report_words.proofs.Rests.{rest_of}
use Rattle.hwp_report_words.proofs.WordLists.{now-at, three-up}
use Rattle.hwp_report_words.proofs.entries.read_failure.Goals as goal

pub returns-in_default : goal.returns-in_default
returns-in_default c = λ x fits e. let many = sym (length-map c.args.words.now (λ w. w.now)) ∙ ap length (ap (drop 1) e) in omega (arith, many, c.in_default.len_below)

pub returns-in_default-read_who : goal.returns-in_default-read_who
returns-in_default-read_who c = λ x fits e. c.in_default-read_who.ensures x.who fits.who (sym (ap (take 2) (three-up c.args.words.now (record { ref_ptr = (0, 0); now = [] }) (omega arith))) ∙ ap (λ ws. take 2 (drop 1 ws)) e)

pub returns-in_default-read_situation : goal.returns-in_default-read_situation
returns-in_default-read_situation c = λ x fits e. c.in_default-read_situation.ensures x.situation (sym (now-at c.args.words.now 2 (record { ref_ptr = (0, 0); now = [] }) (omega arith)) ∙ ap (λ ws. get_or ws 3 []) e)

pub returns-in_default-read_need : goal.returns-in_default-read_need
returns-in_default-read_need c = λ x fits e.
    c.in_default-read_need.ensures (x.required, x.seen, x.signals) (fits.required, fits.seen, fits.signals) (sym (rest_of (λ w. w.now) c.args.words.now 3) ∙ ap (drop 4) e)

pub returns : goal.returns
returns c =
    let who = c.in-Some.ensures in let situation = c.in-Some-read_situation.ensures in let need = c.in-Some-read_need.ensures in
    let rest = map (λ w. w.now) (take (length c.args.words.now - 3) (drop 3 c.args.words.now)) in (
      record { who = who.0; required = need.0.0; seen = need.0.1; signals = need.0.2 },
      ap (λ ws. codes "fail" ∷ ws)
          (three-up c.args.words.now (record { ref_ptr = (0, 0); now = [] }) (omega arith)
          ∙ ap (λ ws. ws ++ (get_or c.args.words.now 2 (record { ref_ptr = (0, 0); now = [] })).now ∷ rest) who.1
          ∙ ap (λ w. decimal c.in-Some.who.cpu.0 ∷ decimal c.in-Some.who.seq ∷ w ∷ rest) situation
          ∙ ap (λ ws. decimal c.in-Some.who.cpu.0 ∷ decimal c.in-Some.who.seq ∷ situation_word c.in-Some-read_situation.situation ∷ ws) need.1),
    )
