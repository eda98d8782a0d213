use Rattle.std.proofs.Common.{◌≡◌, ◌≢◌, rules, arith, Option, length, refl, sym, true≢false}
use Rattle.std.proofs.lemmas.Bool.{eqb-false, eqb-true}
use Rattle.hwp_banks.specs.declared.Event.{Event}
use Rattle.hwp_check_event_line.specs.Accesses.{IsAccessLine}
use Rattle.hwp_check_events.specs.Met.{access_by}
use Rattle.hwp_check_event_line.specs.Firsts.{shown_lines}
use Rattle.hwp_check_event_line.proofs.LineScans.{first-wrong, none-right, right-all, right-next, right-next-by}
use Rattle.hwp_check_events.proofs.AccessScans.{first-wrong-by}
use Rattle.hwp_check_events.proofs.accesses.access_wrong.Goals as goal

pub loop-number-preserved : goal.loop-number-preserved
loop-number-preserved c = (
  omega arith,
  right-next-by (λ (o : Option Event). IsAccessLine c.args.script.now c.args.report.now c.args.who c.args.how (access_by c.args.checks.now c.args.copied.now o) (shown_lines c.args.lines.now)) c.get-held.result c.args.raw.now c.args.lines.now c.loop-number.number _
      (omega arith) c.get-held.ensures.held (c.if-not-is_later_line.ensures.0 (search rules)) c.loop-number.invariant.1,
)

pub returns-clause-scanned : goal.returns-clause-scanned
returns-clause-scanned c =
    right-all (IsAccessLine c.args.script.now c.args.report.now c.args.who c.args.how (access_by c.args.checks.now c.args.copied.now c.args.raw.now) (shown_lines c.args.lines.now)) c.args.lines.now c.loop-number.number (omega arith) c.loop-number.invariant.1

pub returns-then-is_empty-clause-scanned : goal.returns-then-is_empty-clause-scanned
returns-then-is_empty-clause-scanned c =
    let none : length c.args.lines.now ≡ 0 = eqb-true (length c.args.lines.now) 0 (sym c.if-is_empty.ensures) in
    right-all (IsAccessLine c.args.script.now c.args.report.now c.args.who c.args.how (access_by c.args.checks.now c.args.copied.now c.args.raw.now) (shown_lines c.args.lines.now)) c.args.lines.now 0 (omega (arith, none)) (none-right (IsAccessLine c.args.script.now c.args.report.now c.args.who c.args.how (access_by c.args.checks.now c.args.copied.now c.args.raw.now) (shown_lines c.args.lines.now)) c.args.lines.now)

pub returns-then-not-is_first_line-clause-scanned : goal.returns-then-not-is_first_line-clause-scanned
returns-then-not-is_first_line-clause-scanned c =
    let some : length c.args.lines.now ≢ 0 = eqb-false (length c.args.lines.now) 0 (sym c.if-is_empty.ensures) in
    first-wrong (IsAccessLine c.args.script.now c.args.report.now c.args.who c.args.how (access_by c.args.checks.now c.args.copied.now c.args.raw.now) (shown_lines c.args.lines.now)) c.args.lines.now 0 _ (omega (arith, some)) (λ right. true≢false (sym (c.if-not-is_first_line.ensures.first.1 right)))
    (none-right (IsAccessLine c.args.script.now c.args.report.now c.args.who c.args.how (access_by c.args.checks.now c.args.copied.now c.args.raw.now) (shown_lines c.args.lines.now)) c.args.lines.now)

pub loop-number-init : goal.loop-number-init
loop-number-init c =
    let some : length c.args.lines.now ≢ 0 = eqb-false (length c.args.lines.now) 0 (sym c.if-is_empty.ensures) in (
      omega arith,
      right-next (IsAccessLine c.args.script.now c.args.report.now c.args.who c.args.how (access_by c.args.checks.now c.args.copied.now c.args.raw.now) (shown_lines c.args.lines.now)) c.args.lines.now 0 _ (omega (arith, some))
          (c.if-not-is_first_line.ensures.first.0 refl) (none-right (IsAccessLine c.args.script.now c.args.report.now c.args.who c.args.how (access_by c.args.checks.now c.args.copied.now c.args.raw.now) (shown_lines c.args.lines.now)) c.args.lines.now),
    )

pub returns-then-not-is_later_line-clause-scanned : goal.returns-then-not-is_later_line-clause-scanned
returns-then-not-is_later_line-clause-scanned c =
    first-wrong-by (λ (o : Option Event). IsAccessLine c.args.script.now c.args.report.now c.args.who c.args.how (access_by c.args.checks.now c.args.copied.now o) (shown_lines c.args.lines.now)) c.get-held.result c.args.raw.now c.args.lines.now c.loop-number.number _
    (omega arith) c.get-held.ensures.held (λ right. true≢false (sym (c.if-not-is_later_line.ensures.1 right))) c.loop-number.invariant.1
