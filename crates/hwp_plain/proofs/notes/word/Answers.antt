use Rattle.std.proofs.Common.{slice_index, sym, ap, ◌∙◌}
use Rattle.hwp_core_rule.proofs.WordsByKind.{words-read}
use Rattle.hwp_plain.proofs.notes.word.Goals as goal

pub returns : goal.returns
returns c = ap (slice_index c.args.words.now) c.index.ensures.value ∙ sym (words-read c.args.layout.now c.args.words.now c.args.place c.requires.inside)
