use Rattle.std.proofs.Common.{List, ◌∙◌, ap, sym, subst}
use Rattle.std.specs.Prelude.{filter_map, ◌++◌}
use Rattle.hwp_plain.specs.hwp_core_rule.Lists.{EachMember}
use Rattle.hwp_cpu_row.specs.declared.Offlining.{Offlining}
use Rattle.hwp_cpu_row.specs.declared.Row.{Row}
use Rattle.hwp_cpu_row.specs.Acts.{acts}
use Rattle.hwp_cpu_row.specs.hwp_claim.declared.EventOutcome.{EventOutcome}
use Rattle.hwp_law_served.specs.Rows.{act_note, at_number}
use Rattle.hwp_top_report.specs.Closing.{IsNamed}
use Rattle.hwp_top_report.proofs.RowLines.{each-at, notes-next}
use Rattle.hwp_top_report.proofs.notes.notes_from.Goals as goal

pub add_acts-requires : goal.add_acts-requires
add_acts-requires c = record {
  named = subst (EachMember IsNamed) (sym (c.as_slice.ensures ∙ ap (λ (r : Row). r.told) c.index-rows-number.is)) (each-at (λ (r : Row). EachMember IsNamed r.told) c.args.rows.now c.loop-number.number c.index-rows-number.result c.requires.tellable.named c.loop-number-test.true);
}

pub loop-number-preserved : goal.loop-number-preserved
loop-number-preserved c =
    notes-next c.args.cpu c.args.rows.now c.loop-number.number c.index-rows-number.result c.loop-number.notes.items c.add_acts.new.notes.items c.add.new.notes.items c.own_note.result c.loop-number-test.true c.index-rows-number.is c.loop-number.invariant
    (c.in_ok-add_acts.ensures
    ∙ ap (λ (l : List EventOutcome). c.loop-number.notes.items ++ filter_map (act_note (at_number c.args.cpu c.loop-number.number)) (acts l c.as_slice-in-loop-number.result.now)) c.as_slice.ensures
    ∙ ap (λ (l : List Offlining). c.loop-number.notes.items ++ filter_map (act_note (at_number c.args.cpu c.loop-number.number)) (acts c.index-rows-number.result.told l)) c.as_slice-in-loop-number.ensures)
    c.own_note.ensures c.in_ok-add.ensures
