use Rattle.std.proofs.Common.{length, sym, ap, ◌∙◌, subst}
use Rattle.hwp_core_rule.specs.hwp_geom.Layout.{IsSound}
use Rattle.hwp_core_rule.specs.Words.{IsPlace, size}
use Rattle.hwp_plain.proofs.notes.word_at.Goals as goal

pub word-requires : goal.word-requires
word-requires c = let holds = c.reached.ensures.reached.holds in record {
  sound = subst IsSound (sym c.layout.ensures) holds.sound;
  count = ap length c.words.ensures ∙ holds.words ∙ sym (ap size c.layout.ensures);
  inside = subst (λ l. IsPlace l c.args.place) (sym c.layout.ensures) c.requires.inside;
}
