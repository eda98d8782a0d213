use Rattle.std.proofs.Common.{◌≡◌, ◌↔◌, List, Some, None, IsTrue, slice_get, sym, ap, ◌∙◌, subst}
use Rattle.std.specs.Option.{option_copied}
use Rattle.hwp_law.specs.hwp_report_text.declared.MarkLine.{MarkLine}
use Rattle.hwp_law.specs.Records.{WasPoisoned}
use Rattle.hwp_check_event_line.specs.Nears.{AreNears}
use Rattle.hwp_check_event_line.proofs.PastLaws.{past-nears, past-none}
use Rattle.hwp_check_event_line.proofs.windows.was_poisoned.Goals as goal

pub was_poisoned_by-requires : goal.was_poisoned_by-requires
was_poisoned_by-requires c =
    let slot : slice_get c.args.past.now.frames.items c.args.frame ≡ Some c.in-Some.nears.now = sym c.nears_at.ensures ∙ ap option_copied c.in-Some.is in
    subst (λ (l : List MarkLine). AreNears c.args.who.cpu l c.in-Some.nears.now) (sym c.marks_of-marks.ensures)
    (past-nears c.args.who.cpu c.args.report.now c.args.past.now c.args.frame c.in-Some.nears.now c.requires slot)

pub returns-in-Some : goal.returns-in-Some
returns-in-Some c = subst (λ (l : List MarkLine). IsTrue c.was_poisoned_by.result ↔ WasPoisoned l c.args.who c.args.poisoned) c.marks_of-marks.ensures c.was_poisoned_by.ensures

pub returns-in-None : goal.returns-in-None
returns-in-None c =
    let none : slice_get c.args.past.now.frames.items c.args.frame ≡ None = sym c.nears_at.ensures ∙ ap option_copied c.in-None.is in
    past-none c.args.who c.args.report.now c.args.past.now c.args.frame c.args.poisoned c.requires none
