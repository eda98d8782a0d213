use Rattle.std.proofs.Common.{◌≡◌, ◌∙◌, ℕ, length, slice_get, sym, ap}
use Rattle.hwp_check_rules.specs.hwp_law.Lines.{rows_of}
use Rattle.hwp_check_rules.specs.hwp_law.Records.{hardware_marks}
use Rattle.hwp_check_frames.specs.Counts.{at_key}
use Rattle.hwp_check_frames.specs.Index.{acted_in}
use Rattle.hwp_check_frames.specs.MarkScans.{results_in}
use Rattle.hwp_check_frames.specs.Own.{marks_own}
use Rattle.hwp_check_frames.specs.Said.{row_at}
use Rattle.hwp_check_frames.proofs.IndexLaws.{place-is, result-is}
use Rattle.hwp_check_frames.proofs.records.is_next_result.Goals as goal

pub returns : goal.returns
returns c =
    let counted : c.count.result ≡ marks_own c.args.frame.0 ((c.args.who.cpu.0, c.args.who.seq), c.args.frame.0) c.args.before.now =
    c.count.ensures ∙ ap (λ (k : ℕ). at_key c.args.had.now ((c.args.who.cpu.0, c.args.who.seq), k)) c.from.ensures ∙ c.requires.had ((c.args.who.cpu.0, c.args.who.seq), c.args.frame.0) in
    let number : c.count.result ≡ length (hardware_marks c.args.who c.args.before.now) = place-is c.args.who c.args.frame.0 c.args.before.now c.count.result counted in
    let read : c.acted_in.result ≡ slice_get (results_in c.args.who.seq c.args.frame.0 (rows_of c.args.report.now c.args.who)) c.count.result =
    c.acted_in.ensures ∙ ap acted_in (c.row_of.ensures ∙ ap (λ (k : ℕ). row_at c.args.index.now.said.rows (((c.args.who.cpu.0, c.args.who.seq), k), c.count.result)) c.from.ensures)
    ∙ result-is c.args.report.now c.args.index.now.said.many c.args.index.now.said.rows c.requires.index.noted c.args.who c.args.frame.0 c.count.result in
    let said : c.acted_in.result ≡ slice_get (results_in c.args.who.seq c.args.frame.0 (rows_of c.args.report.now c.args.who)) (length (hardware_marks c.args.who c.args.before.now)) =
    read ∙ ap (slice_get (results_in c.args.who.seq c.args.frame.0 (rows_of c.args.report.now c.args.who))) number in
    (λ is. record { is = sym said ∙ c.is_act.ensures.0 is }, λ next. c.is_act.ensures.1 (said ∙ next.is))
