use Rattle.std.proofs.Common.{◌≡◌, ◌∙◌, ℕ, Option, MatchOption, ap, sym, subst, arith}
use Rattle.hwp_check_rules.specs.Firsts.{soonest, IsFirstFault}
use Rattle.hwp_check_rules.specs.Rules.{MarksFit}
use Rattle.hwp_check_marks.proofs.SoftRule.{softs_low}
use Rattle.hwp_check_marks.proofs.MarkRule.{marks-decided}
use Rattle.hwp_check_frames.proofs.RecordLaws.{as-many}
use Rattle.hwp_check_marks.proofs.marks.marks_fault.Goals as goal
use Rattle.hwp_check_rules.specs.MarkFaults.{IsMarkFault}

pub index_of-requires : goal.index_of-requires
index_of-requires c =
    let many = as-many c.args.script.now c.args.report.now c.requires.valid c.requires.shape in
    record { cpus = many.2; frames = many.0; room = c.requires.room }

pub unmarked-requires : goal.unmarked-requires
unmarked-requires c =
    let many = as-many c.args.script.now c.args.report.now c.requires.valid c.requires.shape in
    record { index = c.in_ok-index.ensures; cpus = many.2; frames = many.0; room = c.requires.room }

pub returns : goal.returns
returns c =
    let many = as-many c.args.script.now c.args.report.now c.requires.valid c.requires.shape in
    let records : c.soonest-records.result ≡ soonest (soonest c.in_ok-record.record c.in_ok-short.short) c.in_ok-extra.extra =
    c.soonest-records.ensures ∙ ap (λ (o : Option ℕ). soonest o c.in_ok-extra.extra) c.soonest.ensures in
    let all : c.soonest-3.result ≡ soonest (soonest (soonest c.in_ok-record.record c.in_ok-short.short) c.in_ok-extra.extra) (soonest c.in_ok-lacks.lacks c.in_ok-wrong.wrong) =
    c.soonest-3.ensures ∙ ap (λ (o : Option ℕ). soonest o c.soonest-2.result) records
    ∙ ap (λ (o : Option ℕ). soonest (soonest (soonest c.in_ok-record.record c.in_ok-short.short) c.in_ok-extra.extra) o) c.soonest-2.ensures in
    subst (λ (o : Option ℕ). MatchOption o (MarksFit c.args.script.now c.args.report.now) (IsFirstFault (MarksFit c.args.script.now c.args.report.now) (IsMarkFault c.args.script.now c.args.report.now))) (sym all)
    (marks-decided c.args.script.now c.args.report.now (let a = many.0 in let b = many.1 in omega (arith, a, b))
    (softs_low c.args.script.now c.args.report.now c.requires.valid c.requires.shape c.requires.answered) c.in_ok-record.record c.in_ok-short.short c.in_ok-extra.extra c.in_ok-lacks.lacks c.in_ok-wrong.wrong
    c.in_ok-short.ensures c.in_ok-record.ensures c.in_ok-extra.ensures c.in_ok-lacks.ensures c.in_ok-wrong.ensures)
