use Rattle.std.proofs.Common.{◌≤◌, ◌<◌, ℕ, List, [], ap, arith, get_or, length, sym, subst, ◌∙◌}
use Rattle.hwp_check_events.specs.Cases.{IsCaseAt, ProcessorValue}
use Rattle.hwp_check_events.proofs.CaseLaws.{case-at, case-right, few-of}
use Rattle.hwp_check_events.proofs.indexed.IndexedProcessor.case.Goals as goal

pub overflow_cast-seq : goal.overflow_cast-seq
overflow_cast-seq c =
    let s = c.self.inside in
    let few : length s.commands.now ≤ 4096 = few-of (record { script = s.script.now; copies = s.copies.now; report = s.report.now; cpu = s.cpu; commands = s.commands.now }) c.self.invariant.of_script in
    let within : c.args.number < length s.commands.now = subst (λ (v : ProcessorValue). c.args.number < length v.commands) (sym c.self.view_is) c.requires in
    omega (arith, few, within)

pub invariant_of-result : goal.invariant_of-result
invariant_of-result c =
    let s = c.self.inside in
    case-right (record { script = s.script.now; copies = s.copies.now; report = s.report.now; cpu = s.cpu; commands = s.commands.now }) s.lists.items s.answers.items s.checks.items s.copied c.self.invariant c.args.number
    (subst (λ (v : ProcessorValue). c.args.number < length v.commands) (sym c.self.view_is) c.requires) (record { checks = c.index.result.now; answer = c.index-2.result.now }) c.index-commands-number.result _ c.list_at.result.now _ _
    c.index.ensures c.index-2.ensures c.index-commands-number.is (c.list_at.ensures ∙ ap (λ (l : List (List ℕ)). get_or l c.args.number []) c.as_slice.ensures)

pub returns : goal.returns
returns c =
    let s = c.self.inside in
    subst (λ (p : ProcessorValue). IsCaseAt p c.args.number (record { script = s.script.now; copies = s.copies.now; report = s.report.now; who = record { cpu = s.cpu; seq = c.args.number }; command = c.index-commands-number.result; lines = c.as_slice-2.result.now })) c.self.view_is
    (case-at (record { script = s.script.now; copies = s.copies.now; report = s.report.now; cpu = s.cpu; commands = s.commands.now }) s.lists.items s.answers.items s.checks.items s.copied c.self.invariant c.args.number
    (subst (λ (v : ProcessorValue). c.args.number < length v.commands) (sym c.self.view_is) c.requires) c.index-commands-number.result _ c.as_slice-2.result.now _ c.index-commands-number.is (c.as_slice-2.ensures ∙ c.index-3.ensures))
