-- The table keeps the frame rule, since moves lead to it from the opening.
use Rattle.std.proofs.Common.{◌≡◌, ℕ, List, [], ◌∷◌, length, ap, ◌∙◌, sym, subst}
use Rattle.std.proofs.lemmas.List.{length-map, length-set}
use Rattle.hwp_core_rule.specs.hwp_geom.declared.Layout.{Layout}
use Rattle.hwp_core_rule.specs.hwp_geom.Layout.{IsSound}
use Rattle.hwp_core_rule.specs.declared.Rec.{Rec}
use Rattle.hwp_core_rule.specs.declared.State.{State}
use Rattle.hwp_core_rule.specs.Moves.{Run}
use Rattle.hwp_core_rule.specs.Opening.{below, opening, opening_view}
use Rattle.hwp_core_rule.specs.Rule.{Holds}
use Rattle.hwp_core_rule.specs.Views.{view_after}
use Rattle.hwp_core_rule.proofs.MoveKeeps.{holds-moved}
use Rattle.hwp_core_rule.proofs.BoardOpens.{opening-holds}
use Rattle.hwp_core_rule.proofs.WordsOpen.{length-below}
use Rattle.hwp_core_rule.proofs.StepKeeps.{keeps}
use Rattle.hwp_table_words.specs.Rules.{Reached}
use Rattle.hwp_table_words.specs.Stands.{Table, stand}

run-keeps : (layout : Layout) (log : List (ℕ × Rec)) (s : State) → IsSound layout → Run layout (opening layout) log s → Holds layout s
run-keeps layout [] s sound run = subst (Holds layout) (sym run) (opening-holds layout sound)
run-keeps layout (r ∷ rs) s sound run = holds-moved layout r.0 r.1 run.0 s (keeps r.1.step) (run-keeps layout rs run.0 sound run.1) run.2

pub reached-holds : (layout : Layout) (t : Table) (h : Reached layout t) → Holds layout (stand h.views t)
reached-holds layout t h = run-keeps layout h.log (stand h.views t) h.sound h.run

-- a processor has a seat, and no other has
pub run-seats : (layout : Layout) (log : List (ℕ × Rec)) (s : State) → Run layout (opening layout) log s → length s.views ≡ layout.cpus
run-seats layout [] s run = ap (λ (t : State). length t.views) run ∙ (length-map (below layout.cpus) opening_view ∙ length-below layout.cpus)
run-seats layout (r ∷ rs) s run = ap (λ (t : State). length t.views) run.2.next ∙ (length-set run.0.views r.0 (view_after layout r.1 run.2.view) ∙ run-seats layout rs run.0 run.1)
