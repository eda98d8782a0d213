use Rattle.std.proofs.Common.{[], ◌∷◌, ◌++◌, ◌-◌, length, take, drop, map, sym, ap, ◌∙◌, arith}
use Rattle.std.proofs.lemmas.List.{length-map}
use Rattle.hwp_report_words.specs.pages.Verbs.{verb_text}
use Rattle.hwp_report_words.proofs.WordLists.{two-up}
use Rattle.hwp_report_words.proofs.pages.NoLines.{entry_long, entry_who}
use Rattle.hwp_report_words.proofs.entries.read_plain_entry.Goals as goal

pub returns-in_default : goal.returns-in_default
returns-in_default c = λ x verb fits e. let many = sym (length-map c.args.words.now (λ w. w.now)) ∙ ap length (ap (drop 1) e) in omega (arith, many, entry_long x.who x.what, c.in_default.len_below)

pub returns-in_default-read_who : goal.returns-in_default-read_who
returns-in_default-read_who c = λ x verb fits e.
    c.in_default-read_who.ensures x.who fits.0 (sym (ap (take 2) (two-up c.args.words.now (record { ref_ptr = (0, 0); now = [] }) (omega arith))) ∙ ap (λ ws. take 2 (drop 1 ws)) e ∙ entry_who x.who x.what)

pub returns-in_default-read_plain : goal.returns-in_default-read_plain
returns-in_default-read_plain c = λ x verb fits e.
    let rest = map (λ w. w.now) (take (length c.args.words.now - 2) (drop 2 c.args.words.now)) in
    let front = ap (take 2) (two-up c.args.words.now (record { ref_ptr = (0, 0); now = [] }) (omega arith)) in
    c.in_default-read_plain.ensures x.what verb fits.1 x.who
    (ap (λ ws. verb_text c.args.verb ∷ (ws ++ rest)) (sym (entry_who x.who x.what) ∙ sym (ap (λ ws. take 2 (drop 1 ws)) e) ∙ front)
    ∙ ap (λ ws. verb_text c.args.verb ∷ ws) (sym (two-up c.args.words.now (record { ref_ptr = (0, 0); now = [] }) (omega arith)))
    ∙ e)

pub returns : goal.returns
returns c =
    let who = c.in-Some.ensures in let what = c.in-Some-read_plain.ensures in
    let rest = map (λ w. w.now) (take (length c.args.words.now - 2) (drop 2 c.args.words.now)) in (
      (who.0, what.0),
      ap (λ ws. verb_text c.args.verb ∷ ws) (two-up c.args.words.now (record { ref_ptr = (0, 0); now = [] }) (omega arith) ∙ ap (λ ws. ws ++ rest) who.1) ∙ what.1 c.in-Some.who,
    )
