use Rattle.std.proofs.Common.{◌≡◌, [], ◌∷◌, ◌++◌, None, List, sym, subst}
use Rattle.hwp_script_words.proofs.PairsLaws.{Pairs-push}
use Rattle.hwp_cpu_row.specs.declared.Row.{Row}
use Rattle.hwp_cpu.specs.declared.processor.Processor.{Processor}
use Rattle.hwp_cpu.specs.Processors.{AreFinished}
use Rattle.hwp_cpu.proofs.crew.rows_of.Goals as goal

pub loop-processor-preserved : goal.loop-processor-preserved
loop-processor-preserved c = subst (AreFinished (c.loop-processor.yielded ++ c.in-Some.processor ∷ [])) (sym c.in_ok-push.ensures.items)
    (Pairs-push (λ (p : Processor) (own : List Row). (own ≡ p.rows.items) × (p.course ≡ None)) c.loop-processor.yielded c.loop-processor.rows.items c.in-Some.processor c.in_ok-finish.field-0 c.loop-processor.invariant c.in_ok-finish.ensures.all)
