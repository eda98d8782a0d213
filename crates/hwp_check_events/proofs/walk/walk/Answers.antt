use Rattle.std.proofs.Common.{◌≡◌, ◌≤◌, ◌+◌, ℕ, arith, ap, length, refl, subst, sym, ◌∙◌}
use Rattle.hwp_law.specs.hwp_script_words.declared.Command.{Command}
use Rattle.hwp_check_event_line.specs.Reading.{copies_in}
use Rattle.hwp_check_event_line.specs.Firsts.{shown_lines}
use Rattle.hwp_check_events.specs.Cases.{CaseValue, rows_in}
use Rattle.hwp_check_events.specs.Judged.{IsJudged, IsTable}
use Rattle.hwp_check_events.specs.Walked.{IsWalked, joined, with_mark}
use Rattle.hwp_check_events.proofs.WalkSteps.{SoFar, so-next, table-is}
use Rattle.hwp_check_events.proofs.walk.walk.Goals as goal

pub command_faults-faults-requires : goal.command_faults-faults-requires
command_faults-faults-requires c =
    let p = c.args.processor.now in
    let of = c.count-number-end.ensures.of_script in
    record {
      table = subst (λ (v : CaseValue). IsTable v.script v.who c.as_slice.result.now) (sym c.case-case.ensures.case_is)
          (subst (IsTable p.script (record { cpu = p.cpu; seq = c.loop-number.number })) (sym c.as_slice.ensures.value)
          (table-is p.script (copies_in p.copies) p.report p.cpu p.commands (rows_in p.report p.cpu) of.valid of.of_script refl c.loop-number.number c.loop-number.raw c.loop-number.table.items c.loop-number.found c.loop-number.invariant));
    }

pub loop-number-preserved : goal.loop-number-preserved
loop-number-preserved c =
    let p = c.args.processor.now in
    let of = c.count-number-end.ensures.of_script in
    let v = c.case-case.result in
    let judged = subst (λ (w : CaseValue). IsJudged w.script (copies_in w.copies) w.report w.who w.command c.loop-number.raw c.command_faults-faults.new.raw (shown_lines v.lines) c.command_faults-faults.result) c.case-case.ensures.case_is c.command_faults-faults.ensures in
    let next = so-next p.script (copies_in p.copies) p.report p.cpu p.commands (rows_in p.report p.cpu) of.valid of.of_script refl c.loop-number.number c.loop-number.raw c.command_faults-faults.new.raw c.loop-number.table.items c.mark.new.table.items c.loop-number.found
    c.command_faults-faults.result v.lines v.command c.case-case.ensures.made (ap (λ (w : CaseValue). w.lines) c.case-case.ensures.case_is) judged (c.mark.ensures ∙ ap (λ (x : Command). with_mark x c.loop-number.table.items) c.command.ensures.command) c.loop-number.invariant in
    subst (SoFar p.script (copies_in p.copies) p.report p.cpu p.commands (rows_in p.report p.cpu) (c.loop-number.number + 1) c.command_faults-faults.new.raw c.mark.new.table.items)
    (sym (c.join-found.ensures ∙ ap (joined c.loop-number.found c.command_faults-faults.result) c.lines.ensures)) next

pub returns : goal.returns
returns c =
    let p = c.args.processor.now in
    subst (λ (n : ℕ). IsWalked p.script (copies_in p.copies) p.report p.cpu p.commands (rows_in p.report p.cpu) n c.loop-number.found)
    (let is : c.count-number-end.result ≡ length p.commands = c.count-number-end.ensures.count in let most : c.count-number-end.result ≤ c.loop-number.number = c.loop-number-test.false in let end : c.loop-number.number ≤ c.count-number-end.result = c.loop-number.auto.number-end in let e : c.loop-number.number ≡ length p.commands = omega (arith, is, most, end) in e)
    c.loop-number.invariant.walked
