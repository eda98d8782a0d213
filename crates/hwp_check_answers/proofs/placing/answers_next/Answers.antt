use Rattle.std.proofs.Common.{◌≡◌, ◌+◌, ◌<◌, ◌≤◌, Option, Some, false, length, slice_get, ap, sym, ◌∙◌, ltb-true, ltb-false}
use Rattle.std.specs.Option.{option_map_or}
use Rattle.std.proofs.lemmas.Option.{slice_get-get_or, slice_get_past}
use Rattle.hwp_check_evidence.specs.hwp_report_text.declared.CpuLine.{CpuLine}
use Rattle.hwp_check_rules.specs.Answered.{is_answer}
use Rattle.hwp_check_answers.proofs.placing.answers_next.Goals as goal

pub returns-in-Some : goal.returns-in-Some
returns-in-Some c =
    let within : c.args.row + 1 < length c.args.rows.now = ltb-true (c.args.row + 1) (length c.args.rows.now) (sym c.in-Some.ensures.lookup.0) in
    let there : slice_get c.args.rows.now (c.args.row + 1) ≡ Some c.in-Some.line.now = slice_get-get_or c.args.rows.now (c.args.row + 1) c.in-Some.line.now within ∙ ap Some (sym c.in-Some.ensures.lookup.1) in
    c.is_answer.ensures ∙ sym (ap (λ (o : Option CpuLine). option_map_or is_answer o false) there)

pub returns-in-None : goal.returns-in-None
returns-in-None c =
    let most : length c.args.rows.now ≤ c.args.row + 1 = ltb-false (c.args.row + 1) (length c.args.rows.now) (sym c.in-None.ensures.lookup.0) in
    sym (ap (λ (o : Option CpuLine). option_map_or is_answer o false) (slice_get_past c.args.rows.now (c.args.row + 1) most))
