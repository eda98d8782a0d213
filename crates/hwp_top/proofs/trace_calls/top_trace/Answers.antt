use Rattle.std.proofs.Common.{List, ℕ, lit<, refl, subst}
use Rattle.std.proofs.lemmas.Option.{same_Some}
use Rattle.hwp_top_words.specs.Statuses.{Told}
use Rattle.hwp_top.specs.TraceCalls.{usage_text}
use Rattle.hwp_top_words.proofs.Statuses.{fault_is_run_status}
use Rattle.hwp_top.proofs.TraceStatuses.{output-done, output-listed}
use Rattle.hwp_top.proofs.trace_calls.top_trace.Goals as goal

pub deliver-requires : goal.deliver-requires
deliver-requires g c = output-done (g.S.Source.left c.args.src.now) (g.S.Source.left c.traced.new.src) c.in-Ok.output.status c.in-Ok.output.text c.in-Ok.output.report c.in-Ok.ensures.output

pub returns-in-Ok-clause-statuses : goal.returns-in-Ok-clause-statuses
returns-in-Ok-clause-statuses g c =
    output-listed (g.S.Source.left c.args.src.now) (g.S.Source.left c.traced.new.src) c.in-Ok.output.status c.in-Ok.output.text c.in-Ok.output.report c.deliver.result.status c.in-Ok.ensures.output c.deliver.ensures.statuses

pub returns-in-Err-clause-statuses : goal.returns-in-Err-clause-statuses
returns-in-Err-clause-statuses g c = fault_is_run_status c.tell_fault.result c.tell_fault.ensures.statuses

pub returns-then-not-is_empty-clause-statuses : goal.returns-then-not-is_empty-clause-statuses
returns-then-not-is_empty-clause-statuses g c = (1, lit< tt, refl)

pub returns-then-not-is_empty-clause-told : goal.returns-then-not-is_empty-clause-told
returns-then-not-is_empty-clause-told g c =
    λ text is. subst (λ (t : List ℕ). Told (g.E.Sink.taken c.args.err.now) (g.E.Sink.taken c.tell.new.err) (g.E.Sink.faults c.args.err.now) (g.E.Sink.faults c.tell.new.err) t) (same_Some usage_text text is) c.tell.ensures
