use Rattle.std.proofs.Common.{◌∙◌}
use Rattle.hwp_top_report.proofs.RowLines.{stop-named, stop-told}
use Rattle.hwp_top_report.proofs.stopping.stop_of.Goals as goal

pub cause_in-cause-requires : goal.cause_in-cause-requires
cause_in-cause-requires c = record {
  named = stop-named c.args.word c.args.rows.now c.in-Some.cpu c.from.result c.index-rows-from.result c.as_slice-own.result.now c.first_stop-seq.result c.index-own-seq.result c.as_slice.result.now c.requires.stopper c.requires.tellable c.in-Some.ensures c.from.ensures (c.as_slice-own.ensures ∙ c.index-rows-from.is) c.first_stop-seq.ensures c.as_slice.ensures;
}

pub returns : goal.returns
returns c =
    stop-told c.args.word c.args.lists.now c.args.rows.now c.in-Some.cpu c.from.result c.index-rows-from.result c.as_slice-own.result.now c.first_stop-seq.result c.index-own-seq.result c.as_slice.result.now c.command_in.result c.cause_in-cause.result
    c.requires.stopper c.in-Some.ensures c.from.ensures (c.as_slice-own.ensures ∙ c.index-rows-from.is) c.first_stop-seq.ensures c.as_slice.ensures c.command_in.ensures c.cause_in-cause.ensures
