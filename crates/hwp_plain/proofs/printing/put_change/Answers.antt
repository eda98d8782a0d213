use Rattle.std.proofs.Common.{◌==◌, string_bytes, codes}
use Rattle.std.proofs.lemmas.Bool.{ne_eqb}
use Rattle.std.proofs.lemmas.Result.{on_ok_weaker}
use Rattle.hwp_plain.specs.TraceText.{value_words}
use Rattle.hwp_plain.proofs.SpacedWords.{put-changed}
use Rattle.hwp_plain.proofs.printing.put_change.Goals as goal

pub returns : goal.returns
returns c =
    on_ok_weaker c.put_value-2.result (λ is. put-changed (string_bytes c.args.out.now) (string_bytes c.put_value.new.out) (string_bytes c.put_word.new.out) (string_bytes c.put_value-2.new.out)
    (value_words c.args.place c.args.before) (value_words c.args.place c.args.after) (codes "->") (c.args.before == c.args.after) (ne_eqb c.args.before c.args.after c.if-before-after.false)
    c.in_ok-put_value.ensures c.in_ok-put_word.ensures is) c.put_value-2.ensures
