use Rattle.std.specs.Prelude.{map, string_bytes}
use Rattle.std.proofs.Common.{List, ℕ, lit<, refl, subst}
use Rattle.std.proofs.lemmas.Option.{same_Some}
use Rattle.hwp_top_words.specs.Statuses.{Told, usage_text}
use Rattle.hwp_top.proofs.ReportLevel.{delivered}
use Rattle.hwp_top.proofs.RunLevel.{handed-cut, handed-whole}
use Rattle.hwp_top_words.proofs.Statuses.{delivered_somehow, fault_is_listed, told_of_delivery}
use Rattle.hwp_top.proofs.Statuses.{output_is_done, output_is_listed}
use Rattle.hwp_top.proofs.calls.top.Goals as goal

pub returns-in_default-clause-statuses : goal.returns-in_default-clause-statuses
returns-in_default-clause-statuses g c = (2, lit< tt, refl)

pub returns-in_default-clause-told : goal.returns-in_default-clause-told
returns-in_default-clause-told g c text is =
    subst (λ (t : List ℕ). Told (g.E.Sink.taken c.args.err.now) (g.E.Sink.taken c.tell.new.err) (g.E.Sink.faults c.args.err.now) (g.E.Sink.faults c.tell.new.err) t) (same_Some usage_text text is) c.tell.ensures

pub returns-in-Ok-clause-statuses : goal.returns-in-Ok-clause-statuses
returns-in-Ok-clause-statuses g c =
    output_is_listed c.in-Some.call (g.S.Source.left c.args.src.now) (g.S.Source.left c.output_of.new.src) c.in-Ok.output.status c.deliver.result.status c.in-Ok.output.text c.in-Ok.output.report c.in-Ok.output.ended c.in-Ok.output.tlb c.in-Ok.ensures.output c.deliver.ensures.statuses

pub returns-in-Err-clause-statuses : goal.returns-in-Err-clause-statuses
returns-in-Err-clause-statuses g c = fault_is_listed c.tell_fault.result c.tell_fault.ensures.statuses

pub returns-in-Ok-clause-report : goal.returns-in-Ok-clause-report
returns-in-Ok-clause-report g c =
    delivered (map string_bytes c.args.words.now) c.in-Some.call (g.S.Source.left c.args.src.now) (g.S.Source.left c.output_of.new.src) (g.K.Sink.taken c.args.out.now) (g.K.Sink.taken c.deliver.new.out) c.in-Ok.output.status c.deliver.result.status c.in-Ok.output.text c.in-Ok.output.report c.deliver.result.report c.in-Ok.output.ended c.in-Ok.output.tlb c.in-Some.ensures.some c.in-Ok.ensures.output c.deliver.ensures.report.0 c.deliver.ensures.done

pub returns-in-Ok-clause-done : goal.returns-in-Ok-clause-done
returns-in-Ok-clause-done g c =
    handed-whole (map string_bytes c.args.words.now) c.in-Some.call (g.S.Source.left c.args.src.now) (g.S.Source.left c.output_of.new.src) c.in-Ok.output.status c.in-Ok.output.text c.in-Ok.output.report c.deliver.result.report c.in-Ok.output.ended c.deliver.result.ended c.in-Ok.output.tlb c.deliver.result.tlb c.in-Some.ensures.some c.in-Ok.ensures.output c.deliver.ensures.report (g.K.Sink.taken c.args.out.now) (g.K.Sink.taken c.deliver.new.out) c.deliver.result.status c.deliver.ensures.done

pub returns-in-Ok-clause-cut : goal.returns-in-Ok-clause-cut
returns-in-Ok-clause-cut g c is =
    handed-cut (map string_bytes c.args.words.now) c.in-Some.call (g.S.Source.left c.args.src.now) (g.S.Source.left c.output_of.new.src) c.in-Ok.output.status c.in-Ok.output.text c.in-Ok.output.report c.deliver.result.report c.in-Ok.output.ended c.deliver.result.ended c.in-Ok.output.tlb c.deliver.result.tlb c.in-Some.ensures.some c.in-Ok.ensures.output c.deliver.ensures.report (g.K.Sink.taken c.args.out.now) (g.K.Sink.taken c.deliver.new.out) (c.deliver.ensures.cut is)

pub returns-in-Ok-clause-unwritten : goal.returns-in-Ok-clause-unwritten
returns-in-Ok-clause-unwritten g c not_done not_cut = absurd (delivered_somehow c.in-Ok.output.status c.deliver.result.status (output_is_done c.in-Some.call (g.S.Source.left c.args.src.now) (g.S.Source.left c.output_of.new.src) c.in-Ok.output.status c.in-Ok.output.text c.in-Ok.output.report c.in-Ok.output.ended c.in-Ok.output.tlb c.in-Ok.ensures.output) c.deliver.ensures.statuses not_done not_cut)

pub returns-in-Ok-clause-no_report : goal.returns-in-Ok-clause-no_report
returns-in-Ok-clause-no_report g c not_done not_cut = absurd (delivered_somehow c.in-Ok.output.status c.deliver.result.status (output_is_done c.in-Some.call (g.S.Source.left c.args.src.now) (g.S.Source.left c.output_of.new.src) c.in-Ok.output.status c.in-Ok.output.text c.in-Ok.output.report c.in-Ok.output.ended c.in-Ok.output.tlb c.in-Ok.ensures.output) c.deliver.ensures.statuses not_done not_cut)

pub returns-in-Ok-clause-told : goal.returns-in-Ok-clause-told
returns-in-Ok-clause-told g c text is =
    told_of_delivery (Told (g.E.Sink.taken c.args.err.now) (g.E.Sink.taken c.deliver.new.err) (g.E.Sink.faults c.args.err.now) (g.E.Sink.faults c.deliver.new.err)) c.in-Ok.output.status c.deliver.result.status text
    (output_is_done c.in-Some.call (g.S.Source.left c.args.src.now) (g.S.Source.left c.output_of.new.src) c.in-Ok.output.status c.in-Ok.output.text c.in-Ok.output.report c.in-Ok.output.ended c.in-Ok.output.tlb c.in-Ok.ensures.output) c.deliver.ensures.statuses c.deliver.ensures.told is
