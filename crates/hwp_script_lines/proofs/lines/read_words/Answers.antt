use Rattle.std.proofs.Common.{arith, ap, sym, ◌∙◌}
use Rattle.std.proofs.lemmas.List.{length-map}
use Rattle.hwp_script_lines.specs.Grammar.{is_newer}
use Rattle.hwp_script_lines.proofs.SentenceLaws.{led, unknown_from_sentence, bad_from_sentence, over_from_sentence, form_from_sentence}
use Rattle.hwp_script_lines.proofs.lines.read_words.Goals as goal

pub returns-in-Ok : goal.returns-in-Ok
returns-in-Ok c =
    form_from_sentence _ c.in-Some.keyword _ c.in-Ok.form (led c.args.words.now _ c.in-Some.keyword (omega arith) c.in-Some.ensures.some) (rw c.in-Ok.is at c.in_ok-form.ensures)

pub returns-in-Err-Unknown : goal.returns-in-Err-Unknown
returns-in-Err-Unknown c =
    unknown_from_sentence _ c.in-Some.keyword _ (led c.args.words.now _ c.in-Some.keyword (omega arith) c.in-Some.ensures.some)
    (rw (c.in-Err-Unknown.is, c.in-Err-Unknown.field-0-is) at c.in_ok-form.ensures)

pub returns-in-Err-BadNumber : goal.returns-in-Err-BadNumber
returns-in-Err-BadNumber c =
    bad_from_sentence _ c.in-Some.keyword _ (led c.args.words.now _ c.in-Some.keyword (omega arith) c.in-Some.ensures.some) (c.if-not-are_printable.ensures.0 (cc (c.if-not-are_printable.false)))
    (rw (c.in-Err-BadNumber.is, c.in-Err-BadNumber.field-0-is) at c.in_ok-form.ensures) _ (c.is_newer-newer.ensures ∙ ap (is_newer c.in-Some.keyword) (sym (length-map _ _)))

pub returns-in-Err-OverLimit : goal.returns-in-Err-OverLimit
returns-in-Err-OverLimit c =
    over_from_sentence _ c.in-Some.keyword _ (led c.args.words.now _ c.in-Some.keyword (omega arith) c.in-Some.ensures.some) (c.if-not-are_printable.ensures.0 (cc (c.if-not-are_printable.false)))
    (rw (c.in-Err-OverLimit.is, c.in-Err-OverLimit.field-0-is) at c.in_ok-form.ensures) _ (c.is_newer-newer.ensures ∙ ap (is_newer c.in-Some.keyword) (sym (length-map _ _)))
